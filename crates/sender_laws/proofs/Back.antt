-- A receiver that missed any number of intervals has the newest key again.
use Rattle.std.proofs.Common.{◌≡◌, ℕ, ◌+◌, ◌-◌, ◌<◌, ◌≤◌, Bool, true, false, cond, not, eqb, ltb, leb, ◌⊎◌, List, [], ◌∷◌, ◌++◌, length, sym, refl, ap, ◌∙◌, inl, inr, ⊎_elim, arith}
use Rattle.std.specs.Str.{bytes_eq}
use Rattle.std.proofs.lemmas.Slice.Eq.{bytes_eq-Decides}
use Rattle.std.proofs.lemmas.Bool.{false≢true, cond_both, cond-true, cond-false, cases_lt, cases_eq, and_from, or_left, lt-ltb, le-ltb, le-leb, lt-leb, ltb-false, ne_eqb}
use Rattle.std.proofs.lemmas.Bool.Decides.{nat_tests as ways}
use Rattle.timing.specs.declared.refusal.Refusal.TheVariants.{OutOfRange, KeyNotAfter, KeyTooFar, KeyMisfit}
use Rattle.sha256.specs.Hmac.{hmac}
use Rattle.model.specs.Receiver as model
use Rattle.keychain.specs.Chain.{key_down}
use Rattle.segments.proofs.Keys.{key_from}
use Rattle.turns.specs.Turns.{disclosed}
use Rattle.turns.specs.Laws.{learned, Caught}
use Rattle.sender.specs.State.{State, interval, newest, key_of, advanced, due, alone, may_not, key_shown, message_of}
use Rattle.sender_laws.specs.Run.{Event, tick, say, step, told_by_tick, told_by_said, tells}
use Rattle.sender_laws.specs.Turned.{some, asks, all_asks}
use Rattle.sender_laws.specs.Ends.{hears_tick, hears_spoken, hearing, Recovers, BroughtBack}
use Rattle.sender_laws.proofs.Cases.{tick_cases, say_cases, shown_cases, alone_most, disclosed_most, later}
use Rattle.sender_laws.proofs.Turned.{Unasked, Asked, at_event, fixed, heard_again}

-- a receiver whose newest key is the chain's, at interval n
pub record Has (s : State) (n : ℕ) (r : model.State) : Type 0 where
  pub newest_is : r.newest ≡ n
  pub key_is : r.key ≡ key_of s r.newest

not_taken : (a b c d : Bool) → (b ≡ true) ⊎ (c ≡ true) →
    model.is_taken (cond (not a) (model.refused OutOfRange) (cond b (model.refused KeyNotAfter) (cond c (model.refused KeyTooFar) (cond d (model.refused KeyMisfit) model.taken)))) ≡ false
not_taken false b c d h = refl
not_taken true true c d h = refl
not_taken true false true d h = refl
not_taken true false false d h = absurd (⊎_elim (λ e. false≢true e) (λ e. false≢true e) h)

taken_so : (a b c d : Bool) → a ≡ true → b ≡ false → c ≡ false → d ≡ false →
    model.is_taken (cond (not a) (model.refused OutOfRange) (cond b (model.refused KeyNotAfter) (cond c (model.refused KeyTooFar) (cond d (model.refused KeyMisfit) model.taken)))) ≡ true
taken_so a b c d p q r t = rw (p, q, r, t)

-- the four tests of a key
abbrev misfit : (j : ℕ) → (k : List ℕ) → model.State → Bool
misfit j k r = not (bytes_eq (key_down (j - r.newest) k) r.key)

leaves : (s : State) (j : ℕ) (k : List ℕ) (r : model.State) → r.key ≡ key_of s r.newest → (j ≤ r.newest) ⊎ (r.newest + 1024 < j) → Has s (learned r.newest j) (model.learns s.numbers hmac j k r)
leaves s j k r is h =
    let n = r.newest in
    let e = not_taken (model.in_chain s.numbers j) (leb j n) (ltb (n + 1024) j) (misfit j k r) (⊎_elim (λ l. inl (le-leb j n l)) (λ l. inr (lt-ltb (n + 1024) j l)) h) in
    let f : learned n j ≡ n = ⊎_elim (λ l. learned-old n j l) (λ l. learned-far n j l) h in
    rw (cond-false (model.is_taken (model.judge_key s.numbers hmac j k r)) (record { clock = r.clock; newest = j; key = k; buffer = model.later_than j r.buffer }) r e) (record { newest_is = sym f; key_is = is })
  where
    learned-old : (n j : ℕ) → j ≤ n → learned n j ≡ n
    learned-old n j h = grind (arith, ways)

    learned-far : (n j : ℕ) → n + 1024 < j → learned n j ≡ n
    learned-far n j h = grind (arith, ways)

takes : (s : State) (j : ℕ) (r : model.State) → r.key ≡ key_of s r.newest → j ≤ s.numbers.last → r.newest < j → j ≤ r.newest + 1024 → Has s (learned r.newest j) (model.learns s.numbers hmac j (key_of s j) r)
takes s j r is l h g =
    let n = r.newest in
    let k = key_of s j in
    let same : key_down (j - n) k ≡ r.key = key_from s.numbers.last n j (j - n) s.drawn k l (omega arith) refl ∙ sym is in
    let fit : misfit j k r ≡ false = ap not (same_bytes _ _ same) in
    let e = taken_so (model.in_chain s.numbers j) (leb j n) (ltb (n + 1024) j) (misfit j k r) (and_from _ _ (lt-ltb 0 j (omega arith)) (le-leb j s.numbers.last l)) (lt-leb j n h) (le-ltb (n + 1024) j g) fit in
    let f : learned n j ≡ j = learned_next n j h g in
    rw (cond-true (model.is_taken (model.judge_key s.numbers hmac j k r)) (record { clock = r.clock; newest = j; key = k; buffer = model.later_than j r.buffer }) r e) (record { newest_is = sym f; key_is = refl })
  where
    learned_next : (n j : ℕ) → n < j → j ≤ n + 1024 → learned n j ≡ j
    learned_next n j h g = grind (arith, ways)

    same_bytes : (a b : List ℕ) → a ≡ b → bytes_eq a b ≡ true
    same_bytes a b e = (bytes_eq-Decides a b).1 e

-- what a genuine key makes of it
learns_so : (s : State) (j : ℕ) (r : model.State) → r.key ≡ key_of s r.newest → j ≤ s.numbers.last → Has s (learned r.newest j) (model.learns s.numbers hmac j (key_of s j) r)
learns_so s j r is l =
    ⊎_elim
    (λ (h : r.newest < j). ⊎_elim (λ (g : r.newest + 1024 < j). leaves s j (key_of s j) r is (inr g)) (λ (g : j ≤ r.newest + 1024). takes s j r is l h g) (cases_lt (r.newest + 1024) j))
    (λ (h : j ≤ r.newest). leaves s j (key_of s j) r is (inl h))
    (cases_lt r.newest j)

shown_so : (s : State) (j : ℕ) (r : model.State) → r.key ≡ key_of s r.newest → j ≤ s.numbers.last → Has s (learned r.newest j) (model.learns s.numbers hmac j (key_shown s j) r)
shown_so s j r is l =
    ⊎_elim
    (λ (z : j ≡ 0). leaves s j (key_shown s j) r is (inl (omega (arith, z))))
    (λ (n : j ≡ 0 → ⊥). rw (cond-false (eqb j 0) _ (key_of s j) (ne_eqb j 0 n)) (learns_so s j r is l))
    (cases_eq j 0)

none_heard : (s : State) (r : model.State) → r.key ≡ key_of s r.newest → Has s (learned r.newest 0) r
none_heard s r is = record { newest_is = grind (arith, ways); key_is = is }

-- a message leaves the newest key
heard_has : (s : State) (n : ℕ) (x : model.Message) (r : model.State) → Has s n r → Has s n (model.hears s.numbers x r)
heard_has s n x r h =
    cond_both (model.is_buffered (model.judge s.numbers r x)) (record { clock = r.clock; newest = r.newest; key = r.key; buffer = r.buffer ++ (x ∷ []) }) r (Has s n)
    (λ e. record { newest_is = h.newest_is; key_is = h.key_is })
    (λ e. h)

moved : (s : State) (j : ℕ) (r u : model.State) → Has s r.newest u → Has s (learned u.newest j) (model.learns s.numbers hmac j (key_shown s j) u) → Has s (learned r.newest j) (model.learns s.numbers hmac j (key_shown s j) u)
moved s j r u h g = record { newest_is = g.newest_is ∙ ap (λ n. learned n j) h.newest_is; key_is = g.key_is }

hears_so : (s : State) (e : Event) (r : model.State) → r.key ≡ key_of s r.newest → Has s (learned r.newest (tells s e)) (hearing s e r)
hears_so s (tick t) r is =
    tick_cases s t (λ u a. Has s (learned r.newest (told_by_tick a)) (hears_tick s.numbers a r))
    (λ h. none_heard s r is)
    (λ h d. none_heard s r is)
    (λ h d. shown_cases s (alone (advanced s t)) (λ a. Has s (learned r.newest (told_by_tick a)) (hears_tick s.numbers a r))
    (λ z. none_heard s r is)
    (λ n. learns_so s (alone (advanced s t)) r is (omega (arith, alone_most (advanced s t)))))
hears_so s (say text) r is =
    say_cases s text (λ u a. Has s (learned r.newest (told_by_said a)) (hears_spoken s.numbers a r))
    (none_heard s r is)
    (none_heard s r is)
    (λ h m.
    let j = disclosed s.turn (newest s) in
    let u = model.hears s.numbers (message_of s text).message r in
    let g = heard_has s r.newest (message_of s text).message r (record { newest_is = refl; key_is = is }) in
    moved s j r u g (shown_so s j u g.key_is (omega (arith, disclosed_most s.turn (newest s)))))

-- past the last interval nothing is in turn
asks_none : (s : State) (e : Event) → 0 < s.numbers.ticks → s.numbers.last < interval s → asks s e ≡ []
asks_none s (tick t) pos h =
    cond_both (ltb t s.clock) [] (cond (due (advanced s t)) (cond (leb (interval (advanced s t)) s.numbers.last) (some (newest (advanced s t))) []) []) (λ ns. ns ≡ [])
    (λ e. refl)
    (λ e. cond_both (due (advanced s t)) (cond (leb (interval (advanced s t)) s.numbers.last) (some (newest (advanced s t))) []) [] (λ ns. ns ≡ [])
    (λ d. cond-false _ _ _ (lt-leb (interval (advanced s t)) s.numbers.last (omega (arith, later s t pos (ltb-false t s.clock e)))))
    (λ d. refl))
asks_none s (say text) pos h =
    cond_both (ltb 200 (length text)) [] (cond (may_not s) [] (some (newest s))) (λ ns. ns ≡ []) (λ e. refl) (λ e. cond-true _ _ _ (or_left _ _ (lt-ltb s.numbers.last (interval s) h)))

still_past : (s : State) (e : Event) → 0 < s.numbers.ticks → s.numbers.last < interval s → (step s e).numbers.last < interval (step s e)
still_past s (tick t) pos h = tick_cases s t (λ u a. u.numbers.last < interval u) (λ l. h) (λ l d. omega (arith, later s t pos l)) (λ l d. omega (arith, later s t pos l))
still_past s (say text) pos h = say_cases s text (λ u a. u.numbers.last < interval u) h h (λ l m. h)

no_asks : (s : State) (es : List Event) → 0 < s.numbers.ticks → s.numbers.last < interval s → all_asks s es ≡ []
no_asks s [] pos h = refl
no_asks s (e ∷ es) pos h = rw (asks_none s e pos h) (no_asks (step s e) es (rw (fixed s e).numbers_same pos) (still_past s e pos h))

-- the same key, in the state after
key_later : (s : State) (e : Event) (m : ℕ) (k : List ℕ) → k ≡ key_of s m → k ≡ key_of (step s e) m
key_later s e m k is = let f = fixed s e in rw (f.numbers_same, f.drawn_same) is

caught_recovers : (s : State) (es : List Event) (r : model.State) → 0 < s.numbers.ticks → r.key ≡ key_of s r.newest → Caught s.turn r.newest (all_asks s es) → Recovers s es r
caught_recovers s [] r pos is c = c
caught_recovers s (e ∷ es) r pos is c =
    let h = hears_so s e r is in
    let v = hearing s e r in
    let pos' : 0 < (step s e).numbers.ticks = rw (fixed s e).numbers_same pos in
    let on : Caught (step s e).turn v.newest (all_asks (step s e) es) → Recovers (step s e) es v = caught_recovers (step s e) es v pos' (key_later s e v.newest v.key h.key_is) in
    ⊎_elim
    (λ (o : Unasked s e).
    let d : Caught s.turn r.newest (all_asks (step s e) es) = rw o.none_asked at c in
    ⊎_elim
    (λ (z : tells s e ≡ 0).
    let same : v.newest ≡ r.newest = h.newest_is ∙ (ap (learned r.newest) z ∙ sym (none_heard s r is).newest_is) in
    inr (on (rw (o.turn_stays, same) d)))
    (λ q. absurd (rw (no_asks (step s e) es pos' (omega (arith, q.1, ap (λ p. p.last) (fixed s e).numbers_same))) at d))
    o.tells_newest)
    (λ (o : Asked s e).
    let same : v.newest ≡ learned r.newest (disclosed s.turn o.n) = h.newest_is ∙ ap (learned r.newest) o.told_so in
    let d : Caught s.turn r.newest (o.n ∷ all_asks (step s e) es) = rw o.asked at c in
    ⊎_elim (λ (q : learned r.newest (disclosed s.turn o.n) ≡ o.n). inl (same ∙ (q ∙ sym o.here))) (λ b. inr (on (rw (o.turned, same) b))) d)
    (at_event s e)

pub brought_back : BroughtBack
brought_back s es r pos few is low long = caught_recovers s es r pos is (heard_again s es r.newest pos few low long)
