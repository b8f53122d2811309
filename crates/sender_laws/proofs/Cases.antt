-- What a call comes to, case by case, and what of the state lasts.
use Rattle.std.proofs.Common.{◌≡◌, ℕ, ◌<◌, ◌≤◌, true, false, eqb, leb, List, length, sym, refl, ⊎_elim, arith}
use Rattle.std.proofs.lemmas.Bool.{cond_both, cases_lt, cases_Bool, cases_eq, eq-eqb, ne_eqb, cond-true, cond-false}
use Rattle.timing.specs.Time.{interval_at}
use Rattle.timing.specs.declared.refusal.Refusal.TheVariants.{Malformed, OutOfRange}
use Rattle.model.proofs.Intervals.{interval_mono}
use Rattle.turns.specs.declared.Turn.{Turn}
use Rattle.turns.specs.Turns.{disclosed}
use Rattle.turns.proofs.Laws as turns-laws
use Rattle.sender.specs.State.{State, interval, newest, advanced, due, alone, told_alone, shown_key, key_of, ticked, tick_answer, Ticked, back, nothing, told, said, say_answer, Spoken, refused, sent, may_not, after_said, message_of}
use Rattle.sender.proofs.Ticks.{at_back, at_none, at_due, too_long, out_of_range, at_sent}
use Rattle.sender_laws.specs.Run.{told_by_tick}

pub tick_cases : (s : State) (t : ℕ) (P : State → Ticked → Type 0) → (t < s.clock → P s back) →
    (s.clock ≤ t → due (advanced s t) ≡ false → P (advanced s t) nothing) →
    (s.clock ≤ t → due (advanced s t) ≡ true → P (told_alone (advanced s t)) (shown_key s (alone (advanced s t)))) → P (ticked s t) (tick_answer s t)
tick_cases s t P a b c =
    ⊎_elim
    (λ h. let e = at_back s t h in rw (e.0, e.1) (a h))
    (λ h. ⊎_elim (λ d. let e = at_due s t h d in rw (e.0, e.1) (c h d)) (λ d. let e = at_none s t h d in rw (e.0, e.1) (b h d)) (cases_Bool (due (advanced s t))))
    (cases_lt t s.clock)

pub say_cases : (s : State) (text : List ℕ) (P : State → Spoken → Type 0) → P s (refused Malformed) → P s (refused OutOfRange) →
    (length text ≤ 200 → may_not s ≡ false → P (after_said s) (sent (message_of s text))) → P (said s text) (say_answer s text)
say_cases s text P a b c =
    ⊎_elim
    (λ h. let e = too_long s text h in rw (e.0, e.1) a)
    (λ h. ⊎_elim (λ m. let e = out_of_range s text h m in rw (e.0, e.1) b) (λ m. let e = at_sent s text h m in rw (e.0, e.1) (c h m)) (cases_Bool (may_not s)))
    (cases_lt 200 (length text))

-- a key that is shown, or none
pub shown_cases : (s : State) (j : ℕ) (P : Ticked → Type 0) → (j ≡ 0 → P nothing) → ((j ≡ 0 → ⊥) → P (told (record { interval = j; key = key_of s j }))) → P (shown_key s j)
shown_cases s j P a b =
    ⊎_elim
    (λ (e : j ≡ 0). rw (cond-true (eqb j 0) nothing (told (record { interval = j; key = key_of s j })) (eq-eqb j 0 e)) (a e))
    (λ (n : j ≡ 0 → ⊥). rw (cond-false (eqb j 0) nothing (told (record { interval = j; key = key_of s j })) (ne_eqb j 0 n)) (b n))
    (cases_eq j 0)

pub told_shown : (s : State) (j : ℕ) → told_by_tick (shown_key s j) ≡ j
told_shown s j = shown_cases s j (λ a. told_by_tick a ≡ j) (λ e. sym e) (λ n. refl)

pub disclosed_most : (t : Turn) (n : ℕ) → disclosed t n ≤ n
disclosed_most t n = turns-laws.disclosed_most t n

disclosed_some : (t : Turn) (n : ℕ) → 0 < n → 0 < disclosed t n
disclosed_some t n h = turns-laws.disclosed_some t n h

pub alone_most : (s : State) → alone s ≤ newest s
alone_most s = cond_both (leb (interval s) s.numbers.last) (disclosed s.turn (newest s)) (newest s) (λ x. x ≤ newest s) (λ e. disclosed_most s.turn (newest s)) (λ e. omega arith)

pub alone_some : (s : State) → 0 < newest s → 0 < alone s
alone_some s h = cond_both (leb (interval s) s.numbers.last) (disclosed s.turn (newest s)) (newest s) (λ x. 0 < x) (λ e. disclosed_some s.turn (newest s) h) (λ e. h)

-- the interval of a later tick
pub later : (s : State) (t : ℕ) → 0 < s.numbers.ticks → s.clock ≤ t → interval s ≤ interval (advanced s t)
later s t pos h = interval_mono s.numbers s.clock t pos h

pub index_same : (s : State) (t : ℕ) → interval (advanced s t) ≡ interval s → (advanced s t).index ≡ s.index
index_same s t e = cond-true (eqb (interval_at s.numbers t) (interval s)) s.index 0 (eq-eqb _ _ e)

pub index_anew : (s : State) (t : ℕ) → (interval (advanced s t) ≡ interval s → ⊥) → (advanced s t).index ≡ 0
index_anew s t n = cond-false (eqb (interval_at s.numbers t) (interval s)) s.index 0 (ne_eqb _ _ n)

-- what no call changes
pub record Fixed (s u : State) : Type 0 where
  pub numbers_same : u.numbers ≡ s.numbers
  pub drawn_same : u.drawn ≡ s.drawn

pub fixed_tick : (s : State) (t : ℕ) → Fixed s (ticked s t)
fixed_tick s t =
    tick_cases s t (λ u a. Fixed s u) (λ h. record { numbers_same = refl; drawn_same = refl }) (λ h d. record { numbers_same = refl; drawn_same = refl }) (λ h d. record { numbers_same = refl; drawn_same = refl })

pub fixed_said : (s : State) (text : List ℕ) → Fixed s (said s text)
fixed_said s text =
    say_cases s text (λ u a. Fixed s u) (record { numbers_same = refl; drawn_same = refl }) (record { numbers_same = refl; drawn_same = refl }) (λ h m. record { numbers_same = refl; drawn_same = refl })
