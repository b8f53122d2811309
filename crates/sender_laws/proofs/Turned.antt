-- The disclosures of a run are in turn.
use Rattle.std.proofs.Common.{◌≡◌, ℕ, zero, suc, ◌*◌, ◌<◌, ◌≤◌, eqb, leb, ◌⊎◌, List, [], ◌∷◌, length, take, sym, refl, ap, ◌∙◌, inl, inr, ⊎_elim, arith}
use mathlib.Core.List.{Memᴰ}
use Rattle.std.proofs.lemmas.List.{length-take-le}
use Rattle.std.proofs.lemmas.Bool.{cases_lt, cases_Bool, cases_eq, ne_eqb, lt-ltb, le-ltb, leb-false, cond-true, cond-false}
use Rattle.turns.specs.declared.Turn.{Turn}
use Rattle.turns.specs.Turns.{disclosed, afterwards, disclosures}
use Rattle.turns.specs.Laws.{Rising}
use Rattle.turns.proofs.Again.{catches_up, rising_from}
use Rattle.turns.proofs.Laws.{all, one_newest}
use Rattle.sender.specs.State.{State, interval, newest, advanced, due, alone, may_not}
use Rattle.sender.proofs.Ticks.{at_back, at_none, at_due, too_long, out_of_range, at_sent}
use Rattle.sender_laws.specs.Run.{Event, tick, say, step, told_by_tick, told_by_said, tells}
use Rattle.sender_laws.specs.Turned.{some, asks, all_asks, InTurn, OutOfTurn, OneOfTwo, AllWithin, HeardAgain}
use Rattle.sender_laws.proofs.Cases.{told_shown, later, fixed_tick, fixed_said, Fixed}

-- what an event does to the turn: nothing, and what it discloses is the newest or none
pub record Unasked (s : State) (e : Event) : Type 0 where
  pub none_asked : asks s e ≡ []
  pub turn_stays : (step s e).turn ≡ s.turn
  pub later_on : 0 < s.numbers.ticks → newest s ≤ newest (step s e)
  pub tells_newest : (tells s e ≡ 0) ⊎ ((tells s e ≡ newest (step s e)) × (s.numbers.last < interval (step s e)))

-- or it takes the next
pub record Asked (s : State) (e : Event) : Type 0 where
  pub n : ℕ
  pub asked : asks s e ≡ n ∷ []
  pub told_so : tells s e ≡ disclosed s.turn n
  pub turned : (step s e).turn ≡ afterwards s.turn n
  pub from : 0 < s.numbers.ticks → newest s ≤ n
  pub here : newest (step s e) ≡ n

some_is : (n : ℕ) → (n ≡ 0 → ⊥) → some n ≡ n ∷ []
some_is n z = cond-false (eqb n 0) [] (n ∷ []) (ne_eqb n 0 z)

newer : (s : State) (t : ℕ) → s.clock ≤ t → 0 < s.numbers.ticks → newest s ≤ newest (advanced s t)
newer s t h pos = omega (arith, later s t pos h)

at_tick : (s : State) (t : ℕ) → Unasked s (tick t) ⊎ Asked s (tick t)
at_tick s t =
    let u = advanced s t in
    ⊎_elim
    (λ h. let b = at_back s t h in inl (record {
      none_asked = rw (lt-ltb t s.clock h);
      turn_stays = ap (λ v. v.turn) b.0;
      later_on = λ pos. rw b.0 (omega arith);
      tells_newest = inl (ap told_by_tick b.1);
    }))
    (λ h. ⊎_elim
    (λ d. let b = at_due s t h d in ⊎_elim
    (λ l. ⊎_elim
    (λ (z : newest u ≡ 0). inl (record {
      none_asked = cond-false _ _ _ (le-ltb t s.clock h) ∙ (cond-true _ _ _ d ∙ (cond-true _ _ _ l ∙ ap some z));
      turn_stays = ap (λ v. v.turn) b.0 ∙ (cond-true _ _ _ l ∙ ap (afterwards s.turn) z);
      later_on = λ pos. rw b.0 (newer s t h pos);
      tells_newest = inl (ap told_by_tick b.1 ∙ (told_shown s (alone u) ∙ (cond-true _ _ _ l ∙ ap (disclosed s.turn) z)));
    }))
    (λ (z : newest u ≡ 0 → ⊥). inr (record {
      n = newest u;
      asked = cond-false _ _ _ (le-ltb t s.clock h) ∙ (cond-true _ _ _ d ∙ (cond-true _ _ _ l ∙ some_is (newest u) z));
      told_so = ap told_by_tick b.1 ∙ (told_shown s (alone u) ∙ cond-true _ _ _ l);
      turned = ap (λ v. v.turn) b.0 ∙ cond-true _ _ _ l;
      from = newer s t h;
      here = ap newest b.0;
    }))
    (cases_eq (newest u) 0))
    (λ l. inl (record {
      none_asked = cond-false _ _ _ (le-ltb t s.clock h) ∙ (cond-true _ _ _ d ∙ cond-false _ _ _ l);
      turn_stays = ap (λ v. v.turn) b.0 ∙ cond-false _ _ _ l;
      later_on = λ pos. rw b.0 (newer s t h pos);
      tells_newest = inr (ap told_by_tick b.1 ∙ (told_shown s (alone u) ∙ (cond-false _ _ _ l ∙ sym (ap newest b.0))), rw b.0 (leb-false (interval u) s.numbers.last l));
    }))
    (cases_Bool (leb (interval u) s.numbers.last)))
    (λ d. let b = at_none s t h d in inl (record {
      none_asked = cond-false _ _ _ (le-ltb t s.clock h) ∙ cond-false _ _ _ d;
      turn_stays = ap (λ v. v.turn) b.0;
      later_on = λ pos. rw b.0 (newer s t h pos);
      tells_newest = inl (ap told_by_tick b.1);
    }))
    (cases_Bool (due u)))
    (cases_lt t s.clock)

at_say : (s : State) (text : List ℕ) → Unasked s (say text) ⊎ Asked s (say text)
at_say s text =
    ⊎_elim
    (λ h. let b = too_long s text h in inl (record {
      none_asked = rw (lt-ltb 200 (length text) h);
      turn_stays = ap (λ v. v.turn) b.0;
      later_on = λ pos. rw b.0 (omega arith);
      tells_newest = inl (ap told_by_said b.1);
    }))
    (λ h. ⊎_elim
    (λ m. let b = out_of_range s text h m in inl (record {
      none_asked = rw (le-ltb 200 (length text) h, m);
      turn_stays = ap (λ v. v.turn) b.0;
      later_on = λ pos. rw b.0 (omega arith);
      tells_newest = inl (ap told_by_said b.1);
    }))
    (λ m. let b = at_sent s text h m in ⊎_elim
    (λ (z : newest s ≡ 0). inl (record {
      none_asked = cond-false _ _ _ (le-ltb 200 (length text) h) ∙ (cond-false _ _ _ m ∙ ap some z);
      turn_stays = ap (λ v. v.turn) b.0 ∙ ap (afterwards s.turn) z;
      later_on = λ pos. rw b.0 (omega arith);
      tells_newest = inl (ap told_by_said b.1 ∙ ap (disclosed s.turn) z);
    }))
    (λ (z : newest s ≡ 0 → ⊥). inr (record {
      n = newest s;
      asked = cond-false _ _ _ (le-ltb 200 (length text) h) ∙ (cond-false _ _ _ m ∙ some_is (newest s) z);
      told_so = ap told_by_said b.1;
      turned = ap (λ v. v.turn) b.0;
      from = λ pos. omega arith;
      here = ap newest b.0;
    }))
    (cases_eq (newest s) 0))
    (cases_Bool (may_not s)))
    (cases_lt 200 (length text))

pub at_event : (s : State) (e : Event) → Unasked s e ⊎ Asked s e
at_event s (tick t) = at_tick s t
at_event s (say text) = at_say s text

told_more : (t : Turn) (n : ℕ) (ns : List ℕ) → disclosures t (n ∷ ns) ≡ disclosed t n ∷ disclosures (afterwards t n) ns
unfolding disclosures
told_more t n ns = refl

told_none : (t : Turn) → disclosures t [] ≡ []
unfolding disclosures
told_none t = refl

pub in_turn : InTurn
in_turn s [] = sym (told_none s.turn)
in_turn s (e ∷ es) =
    let i = in_turn (step s e) es in
    ⊎_elim
    (λ (o : Unasked s e). rw (o.none_asked, i, o.turn_stays) refl)
    (λ (o : Asked s e). rw (o.asked, i, o.told_so, o.turned, told_more s.turn o.n (all_asks (step s e) es)) refl)
    (at_event s e)

pub out_of_turn : OutOfTurn
out_of_turn s e none some =
    ⊎_elim
    (λ (o : Unasked s e). ⊎_elim (λ z. absurd (omega (arith, z))) (λ q. q.0) o.tells_newest)
    (λ (o : Asked s e). let f : [] ≡ o.n ∷ [] = sym none ∙ o.asked in let z : ◌≡◌ {A = ℕ} 0 1 = cc in absurd (omega arith))
    (at_event s e)

pub one_of_two : OneOfTwo
one_of_two s es = rw (in_turn s es) (one_newest s.turn (all_asks s es))

pub fixed : (s : State) (e : Event) → Fixed s (step s e)
fixed s (tick t) = fixed_tick s t
fixed s (say text) = fixed_said s text

pub rises : (s : State) (es : List Event) → 0 < s.numbers.ticks → s.numbers.last ≤ 16384 → Rising (newest s) (all_asks s es)
rises s [] pos few = tt
rises s (e ∷ es) pos few =
    let f = fixed s e in
    let i = rises (step s e) es (rw f.numbers_same pos) (rw f.numbers_same few) in
    let l : (step s e).numbers.last ≡ s.numbers.last = ap (λ p. p.last) f.numbers_same in
    ⊎_elim
    (λ (o : Unasked s e). rw o.none_asked (rising_from (newest s) (newest (step s e)) (all_asks (step s e) es) (o.later_on pos) i))
    (λ (o : Asked s e). rw o.asked (o.from pos, omega (arith, o.here, l), rw (← o.here) i))
    (at_event s e)

pub heard_again : HeardAgain
heard_again s es r pos few low long = catches_up s.turn r (all_asks s es) long (rising_from r (newest s) (all_asks s es) low (rises s es pos few))

-- all that are asked in the first m are at least the first
rising_open : (m r n : ℕ) (ns : List ℕ) → Rising r ns → Memᴰ n (take m ns) → (r ≤ n) × (n ≤ 16384)
rising_open zero r n ns u o = absurd (mathlib.Core.List.Memᴰ.not-nil o)
rising_open (suc m) r n [] u o = absurd (mathlib.Core.List.Memᴰ.not-nil o)
rising_open (suc m) r n (k ∷ ns) u o =
    elim (mathlib.Core.List.Memᴰ.cases_cons o) [
      | inl e ↦ (omega (arith, u.0, e), omega (arith, u.1, e))
      | inr q ↦ let i = rising_open m k n ns u.2 q in (omega (arith, u.0, i.0), i.1)
    ]

told_take : (m : ℕ) (t : Turn) (ns : List ℕ) → disclosures t (take m ns) ≡ take m (disclosures t ns)
unfolding disclosures
told_take zero t ns = refl
told_take (suc m) t [] = refl
told_take (suc m) t (n ∷ ns) = ap (λ xs. disclosed t n ∷ xs) (told_take m (afterwards t n) ns)

pub all_within : AllWithin
all_within s es k pos few some low long =
    let ns = take 32 (all_asks s es) in
    let m : Memᴰ (1024 * k) (disclosures s.turn ns) =
    all s.turn k ns some (length-take-le 32 (all_asks s es) long) (λ n o. let i = rising_open 32 (newest s) n (all_asks s es) (rises s es pos few) o in (omega (arith, i.0), i.1)) in
    rw (in_turn s es, ← (told_take 32 s.turn (all_asks s es))) m
