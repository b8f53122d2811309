-- No index of an interval is used twice, and no key is disclosed early.
use Rattle.std.proofs.Common.{◌≡◌, ℕ, ◌<◌, ◌≤◌, ◌⊎◌, List, [], ◌∷◌, ◌++◌, refl, inl, inr, ⊎_elim, arith}
use mathlib.Core.List.Memᴰ
use mathlib.Core.List.{Memᴰ}
use Rattle.std.proofs.lemmas.Bool.{cases_eq}
use Rattle.timing.specs.Time.{release}
use Rattle.model.specs.Receiver.{Said}
use Rattle.sender.specs.State.{State, interval, newest, advanced, alone, ticked, after_said}
use Rattle.sender_laws.specs.Run.{Event, tick, say, said_by, everything_said, Ordered, NoTwice, told_by_tick, told_by_said, NoneEarly}
use Rattle.sender_laws.proofs.Cases.{tick_cases, say_cases, told_shown, disclosed_most, alone_most, later, index_same, fixed_tick}

-- said in this state or later
abbrev FromOn : State → Said → Type 0
FromOn s y = (interval s < y.interval) ⊎ ((interval s ≡ y.interval) × (s.index ≤ y.index))

from_advanced : (s : State) (t : ℕ) (y : Said) → 0 < s.numbers.ticks → s.clock ≤ t → FromOn (advanced s t) y → FromOn s y
from_advanced s t y pos h f =
    let m = later s t pos h in
    ⊎_elim
    (λ (e : interval (advanced s t) ≡ interval s). ⊎_elim (λ l. inl (omega (arith, l, e))) (λ q. inr (omega (arith, q.0, e), omega (arith, q.1, index_same s t e))) f)
    (λ (n : interval (advanced s t) ≡ interval s → ⊥). ⊎_elim (λ l. inl (omega (arith, l, m))) (λ q. inl (omega (arith, q.0, m))) f)
    (cases_eq (interval (advanced s t)) (interval s))

from_on : (s : State) (es : List Event) (y : Said) → 0 < s.numbers.ticks → Memᴰ y (everything_said s es) → FromOn s y
from_on s [] y pos m = absurd (Memᴰ.not-nil m)
from_on s (tick t ∷ es) y pos m =
    let back : FromOn (ticked s t) y = from_on (ticked s t) es y (rw (fixed_tick s t).numbers_same pos) m in
    tick_cases s t (λ u a. FromOn u y → FromOn s y) (λ h f. f) (λ h d f. from_advanced s t y pos h f) (λ h d f. from_advanced s t y pos h f) back
from_on s (say text ∷ es) y pos m =
    say_cases s text (λ u a. Memᴰ y (said_by a ++ everything_said u es) → FromOn s y)
    (λ m. from_on s es y pos m) (λ m. from_on s es y pos m)
    (λ h k m. elim (Memᴰ.cases_cons m) [
      | inl e ↦ rw e (inr (refl, omega arith))
      | inr o ↦ ⊎_elim (λ l. inl l) (λ q. inr (q.0, omega (arith, q.1))) (from_on (after_said s) es y pos o)
    ])
    m

-- each is before all that follow
pub twice : NoTwice
twice s [] pos = tt
twice s (tick t ∷ es) pos = twice (ticked s t) es (rw (fixed_tick s t).numbers_same pos)
twice s (say text ∷ es) pos =
    say_cases s text (λ u a. Ordered (said_by a ++ everything_said u es))
    (twice s es pos) (twice s es pos)
    (λ h k. ((λ y m. ⊎_elim (λ l. inl l) (λ q. inr (q.0, omega (arith, q.1))) (from_on (after_said s) es y pos m)), twice (after_said s) es pos))

abbrev Timely : State → State → ℕ → Type 0
Timely s u j = 0 < j → (release s.numbers j ≤ interval u) × (j ≤ s.numbers.last)

pub early : NoneEarly
early s (tick t) =
    tick_cases s t (λ u a. Timely s u (told_by_tick a))
    (λ h p. absurd (omega arith))
    (λ h d p. absurd (omega arith))
    (λ h d. rw (told_shown s (alone (advanced s t))) (λ p. let m = alone_most (advanced s t) in (omega arith, omega arith)))
early s (say text) =
    say_cases s text (λ u a. Timely s u (told_by_said a))
    (λ p. absurd (omega arith)) (λ p. absurd (omega arith))
    (λ h k p. let m = disclosed_most s.turn (newest s) in (omega arith, omega arith))
