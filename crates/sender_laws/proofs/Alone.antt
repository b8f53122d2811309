-- The keys that are sent by themselves, and the work.
use Rattle.std.proofs.Common.{◌≡◌, ℕ, ◌+◌, ◌<◌, ◌≤◌, true, false, ltb, leb, ◌⊎◌, List, [], ◌∷◌, ◌++◌, sym, refl, ap, ◌∙◌, inl, inr, ⊎_elim, arith}
use mathlib.Core.List.{Memᴰ}
use native.Mathlib.Nat.{zero-div}
use Rattle.std.proofs.lemmas.Bool.{lt-ltb, le-ltb, lt-leb, cond-true, cond-false}
use Rattle.std.proofs.lemmas.Bool.Decides.{nat_tests as ways}
use Rattle.timing.specs.Time.{interval_at}
use Rattle.segments.specs.Parts.{part_of}
use Rattle.segments.specs.Work.{works, Rising}
use Rattle.segments.specs.Work.{work as parts_work}
use Rattle.segments.proofs.Work as segments-work
use Rattle.sender.specs.State.{State, first_state, interval, newest, work_at, advanced, due, alone, told_alone, shown_key, said, after_said}
use Rattle.sender_laws.specs.Run.{Event, tick, say, worked, all_worked, told_by_tick, alone_in, all_alones, entered, all_entered, Ascending, ByItself, WorkedOnce}
use Rattle.sender_laws.proofs.Cases.{tick_cases, say_cases, shown_cases, told_shown, alone_some, later, fixed_said}

ascending_from : (a b : ℕ) (xs : List ℕ) → a ≤ b → Ascending b xs → Ascending a xs
ascending_from a b [] h u = tt
ascending_from a b (x ∷ xs) h u = (omega (arith, u.0), u.1)

-- due only in an interval after that of the last
due_after : (s : State) → s.told_in ≤ interval s → due s ≡ true → s.told_in < interval s
due_after s h d = grind (arith, ways)

-- a call that says something leaves what was told alone, and the clock
kept_said : (s : State) (text : List ℕ) → ((said s text).told_in ≡ s.told_in) × (interval (said s text) ≡ interval s)
kept_said s text = say_cases s text (λ u a. (u.told_in ≡ s.told_in) × (interval u ≡ interval s)) (refl, refl) (refl, refl) (λ h m. (refl, refl))

one_most : (s : State) (es : List Event) → 0 < s.numbers.ticks → s.told_in ≤ interval s → Ascending (s.told_in + 1) (all_alones s es)
one_most s [] pos h = tt
one_most s (tick t ∷ es) pos h =
    tick_cases s t (λ u a. Ascending (s.told_in + 1) (alone_in a (interval u) ++ all_alones u es))
    (λ l. one_most s es pos h)
    (λ l d. one_most (advanced s t) es pos (omega (arith, later s t pos l)))
    (λ l d.
    let f = due_after (advanced s t) (omega (arith, later s t pos l)) d in
    let rest = one_most (told_alone (advanced s t)) es pos (omega arith) in
    shown_cases s (alone (advanced s t)) (λ a. Ascending (s.told_in + 1) (alone_in a (interval (told_alone (advanced s t))) ++ all_alones (told_alone (advanced s t)) es))
    (λ e. ascending_from (s.told_in + 1) (interval (advanced s t) + 1) (all_alones (told_alone (advanced s t)) es) (omega arith) rest)
    (λ n. (omega arith, rest)))
one_most s (say text ∷ es) pos h =
    say_cases s text (λ u a. Ascending (s.told_in + 1) (all_alones u es)) (one_most s es pos h) (one_most s es pos h) (λ l m. one_most (after_said s) es pos h)

-- a tick's interval is one in which a key was sent by itself before, or is sent now or later
abbrev Sent : State → List Event → (i : ℕ) → Type 0
Sent s es i = (i ≡ s.told_in) ⊎ Memᴰ i (all_alones s es)

abbrev InSpan : State → (i : ℕ) → Type 0
InSpan s i = (s.numbers.delay + 1 < i) × (i ≤ s.numbers.last + s.numbers.delay + 1)

not_due : (s : State) → interval s ≤ s.numbers.last + s.numbers.delay + 1 → due s ≡ false → interval s ≡ s.told_in
not_due s h d = grind (arith, ways)

some_newest : (s : State) → 0 < s.numbers.last → s.numbers.delay + 1 < interval s → 0 < newest s
some_newest s l h = omega arith

-- what follows a tick at which a key was due
after_due : (s : State) (t i : ℕ) (es : List Event) → 0 < s.numbers.last → InSpan s i → due (advanced s t) ≡ true →
    (i ≡ interval (advanced s t)) ⊎ Sent (told_alone (advanced s t)) es i →
    (i ≡ s.told_in) ⊎ Memᴰ i (alone_in (shown_key s (alone (advanced s t))) (interval (told_alone (advanced s t))) ++ all_alones (told_alone (advanced s t)) es)
after_due s t i es some span d c =
    let u = told_alone (advanced s t) in
    let here : i ≡ interval (advanced s t) → Memᴰ i (alone_in (shown_key s (alone (advanced s t))) (interval u) ++ all_alones u es) =
    λ e. shown_cases s (alone (advanced s t)) (λ a. Memᴰ i (alone_in a (interval u) ++ all_alones u es))
    (λ z. absurd (omega (arith, alone_some (advanced s t) (some_newest (advanced s t) some (omega (arith, span.0, e))), z)))
    (λ n. mathlib.Core.List.Memᴰ.head e) in
    let there : Memᴰ i (all_alones u es) → Memᴰ i (alone_in (shown_key s (alone (advanced s t))) (interval u) ++ all_alones u es) =
    λ m. shown_cases s (alone (advanced s t)) (λ a. Memᴰ i (alone_in a (interval u) ++ all_alones u es)) (λ z. m) (λ n. mathlib.Core.List.Memᴰ.tail m) in
    ⊎_elim (λ e. inr (here e)) (λ o. ⊎_elim (λ e. inr (here e)) (λ m. inr (there m)) o) c

refused_tick : (s : State) (t : ℕ) → t < s.clock → entered s (tick t) ≡ []
refused_tick s t h = cond-true (ltb t s.clock) _ _ (lt-ltb t s.clock h)

taken_tick : (s : State) (t : ℕ) → s.clock ≤ t → entered s (tick t) ≡ interval_at s.numbers t ∷ []
taken_tick s t h = cond-false (ltb t s.clock) _ _ (le-ltb t s.clock h)

one_least : (s : State) (es : List Event) (i : ℕ) → 0 < s.numbers.last → InSpan s i → Memᴰ i (all_entered s es) → Sent s es i
one_least s [] i some span m = absurd (mathlib.Core.List.Memᴰ.not-nil m)
one_least s (say text ∷ es) i some span m =
    say_cases s text (λ u a. Memᴰ i (all_entered u es) → (u.told_in ≡ s.told_in) → (u.numbers ≡ s.numbers) → (i ≡ s.told_in) ⊎ Memᴰ i (all_alones u es))
    (λ m p q. one_least s es i some span m) (λ m p q. one_least s es i some span m)
    (λ h k m p q. one_least (after_said s) es i some span m)
    m (kept_said s text).0 (fixed_said s text).numbers_same
one_least s (tick t ∷ es) i some span m =
    tick_cases s t (λ u a. Memᴰ i (entered s (tick t) ++ all_entered u es) → (i ≡ s.told_in) ⊎ Memᴰ i (alone_in a (interval u) ++ all_alones u es))
    (λ h m. let o : Memᴰ i (all_entered s es) = rw (refused_tick s t h) at m in one_least s es i some span o)
    (λ h d m.
    let o : Memᴰ i (interval_at s.numbers t ∷ all_entered (advanced s t) es) = rw (taken_tick s t h) at m in
    elim (mathlib.Core.List.Memᴰ.cases_cons o) [
      | inl e ↦ inl (e ∙ not_due (advanced s t) (omega (arith, span.1, e)) d)
      | inr n ↦ one_least (advanced s t) es i some span n
    ])
    (λ h d m.
    let o : Memᴰ i (interval_at s.numbers t ∷ all_entered (told_alone (advanced s t)) es) = rw (taken_tick s t h) at m in
    after_due s t i es some span d (elim (mathlib.Core.List.Memᴰ.cases_cons o) [ inl e ↦ inl e | inr n ↦ inr (one_least (told_alone (advanced s t)) es i some span n) ]))
    m

newest_last : (s : State) → interval s ≡ s.numbers.last + s.numbers.delay + 1 → alone s ≡ s.numbers.last
newest_last s e = cond-false (leb (interval s) s.numbers.last) _ _ (lt-leb (interval s) s.numbers.last (omega arith)) ∙ omega arith

pub by_itself : ByItself
by_itself = record {
  at_most_one = λ p d es pos. one_most (first_state p d) es pos (omega arith);
  at_least_one = λ p d es i some m low high. ⊎_elim (λ e. absurd (omega (arith, e))) (λ o. o) (one_least (first_state p d) es i some (low, high) m);
  last_told = λ s t.
      tick_cases s t (λ u a. 0 < told_by_tick a → interval u ≡ s.numbers.last + s.numbers.delay + 1 → told_by_tick a ≡ s.numbers.last)
      (λ h some e. absurd (omega arith))
      (λ h d some e. absurd (omega arith))
      (λ h d some e. told_shown s (alone (advanced s t)) ∙ newest_last (advanced s t) e);
}

rising_from : (i j : ℕ) (is : List ℕ) → i ≤ j → Rising j is → Rising i is
rising_from i j [] h r = tt
rising_from i j (k ∷ ks) h r = (omega (arith, r.0), r.1)

enters_rising : (s : State) (es : List Event) → 0 < s.numbers.ticks → Rising (interval s) (all_entered s es)
enters_rising s [] pos = tt
enters_rising s (say text ∷ es) pos =
    say_cases s text (λ u a. Rising (interval s) (all_entered u es)) (enters_rising s es pos) (enters_rising s es pos) (λ h m. enters_rising (after_said s) es pos)
enters_rising s (tick t ∷ es) pos =
    tick_cases s t (λ u a. Rising (interval s) (entered s (tick t) ++ all_entered u es))
    (λ h. rw (refused_tick s t h) (enters_rising s es pos))
    (λ h d. rw (taken_tick s t h) (later s t pos h, enters_rising (advanced s t) es pos))
    (λ h d. rw (taken_tick s t h) (later s t pos h, enters_rising (told_alone (advanced s t)) es pos))

works_more : (last delay part i : ℕ) (is : List ℕ) → works last delay part (i ∷ is) ≡ parts_work last delay part (part_of last i) ++ works last delay (part_of last i) is
unfolding works
works_more last delay part i is = refl

works_none : (last delay part : ℕ) → works last delay part [] ≡ []
unfolding works
works_none last delay part = refl

no_work : (s : State) (t : ℕ) → t < s.clock → worked s (tick t) ≡ []
no_work s t h = cond-true (ltb t s.clock) _ _ (lt-ltb t s.clock h)

some_work : (s : State) (t : ℕ) → s.clock ≤ t → worked s (tick t) ≡ work_at s t
some_work s t h = cond-false (ltb t s.clock) _ _ (le-ltb t s.clock h)

-- what is worked out goes by the intervals that are entered
worked_is : (s : State) (es : List Event) → all_worked s es ≡ works s.numbers.last s.numbers.delay (part_of s.numbers.last (interval s)) (all_entered s es)
worked_is s [] = sym (works_none _ _ _)
worked_is s (say text ∷ es) =
    say_cases s text (λ u a. all_worked u es ≡ works s.numbers.last s.numbers.delay (part_of s.numbers.last (interval s)) (all_entered u es)) (worked_is s es) (worked_is s es)
    (λ h m. worked_is (after_said s) es)
worked_is s (tick t ∷ es) =
    tick_cases s t (λ u a. worked s (tick t) ++ all_worked u es ≡ works s.numbers.last s.numbers.delay (part_of s.numbers.last (interval s)) (entered s (tick t) ++ all_entered u es))
    (λ h. rw (no_work s t h, refused_tick s t h) (worked_is s es))
    (λ h d. rw (some_work s t h, taken_tick s t h) (ap (λ ys. work_at s t ++ ys) (worked_is (advanced s t) es) ∙ sym (works_more _ _ _ _ _)))
    (λ h d. rw (some_work s t h, taken_tick s t h) (ap (λ ys. work_at s t ++ ys) (worked_is (told_alone (advanced s t)) es) ∙ sym (works_more _ _ _ _ _)))

pub worked_once : WorkedOnce
worked_once p d es x pos small =
    let s = first_state p d in
    let at_first : part_of p.last (interval s) ≡ 0 = rw (zero-div p.ticks) (omega arith) in
    let once = segments-work.once p.last p.delay (all_entered s es) x small (rising_from 1 (interval s) (all_entered s es) (omega arith) (enters_rising s es pos)) in
    rw (worked_is s es, at_first) once
