-- Intervals of ticks.
use Rattle.std.proofs.Common.{◌≡◌, ℕ, ◌+◌, ◌-◌, ◌*◌, ◌/◌, ◌<◌, ◌≤◌, true, false, ◌&&◌, leb, inl, inr, le_trans, div-lt_iff_lt-mul, le-div_iff_mul-le, div-mul-le_self, arith}
use Rattle.std.proofs.lemmas.Bool.{and_parts, leb-true, ltb-true, lt-leb, le-ltb, cases_lt}
use Rattle.timing.specs.Time.{Params, in_range, interval_at, opening, release, may_be_out, too_early}

-- what the limits of the settings say
pub record Limits (p : Params) : Type 0 where
  pub some_ticks : 0 < p.ticks
  pub some_delay : 0 < p.delay
  pub some_intervals : 0 < p.last
  pub small_error : 2 * p.error < p.ticks * p.delay

pub limits : (p : Params) → in_range p ≡ true → Limits p
limits p e =
    let a = and_parts (leb 1 p.ticks && leb p.ticks 3600) _ e in
    let b = and_parts (leb 1 p.delay && leb p.delay 8) _ a.1 in
    let c = and_parts (leb 1 p.last && leb p.last 16384) _ b.1 in
    record {
      some_ticks = leb-true 1 p.ticks (and_parts (leb 1 p.ticks) _ a.0).0;
      some_delay = leb-true 1 p.delay (and_parts (leb 1 p.delay) _ b.0).0;
      some_intervals = leb-true 1 p.last (and_parts (leb 1 p.last) _ c.0).0;
      small_error = ltb-true (2 * p.error) (p.ticks * p.delay) c.1;
    }

div_mono : (k a e : ℕ) → 0 < k → a ≤ e → a / k ≤ e / k
div_mono k a e p h = (le-div_iff_mul-le p).1 (le_trans (div-mul-le_self a k) h)

-- a later tick is in no earlier interval
pub interval_mono : (p : Params) (a e : ℕ) → 0 < p.ticks → a ≤ e → interval_at p a ≤ interval_at p e
interval_mono p a e t h = omega (arith, div_mono p.ticks a e t h)

-- an interval has begun just if its first tick has come
pub begun : (p : Params) (i t : ℕ) → 0 < p.ticks → 0 < i → i ≤ interval_at p t → opening p i ≤ t
begun p i t s z h =
    let q : i - 1 ≤ t / p.ticks = omega arith in
    (le-div_iff_mul-le s).0 q

pub not_begun : (p : Params) (i t : ℕ) → 0 < p.ticks → 0 < i → t < opening p i → interval_at p t < i
not_begun p i t s z h = let q : t / p.ticks < i - 1 = (div-lt_iff_lt-mul s).1 h in omega arith

pub opened : (p : Params) (i t : ℕ) → 0 < p.ticks → opening p i ≤ t → i ≤ interval_at p t
opened p i t s h = let q : i - 1 ≤ t / p.ticks = (le-div_iff_mul-le s).1 h in omega arith

pub not_opened : (p : Params) (i t : ℕ) → 0 < p.ticks → interval_at p t < i → t < opening p i
not_opened p i t s h = elim (cases_lt t (opening p i)) [ inl l ↦ l | inr l ↦ absurd (omega (arith, opened p i t s l)) ]

-- brought so early that no clock within the bound shows the release
pub in_time : (p : Params) (now clock i : ℕ) → 0 < p.ticks → clock ≤ now + p.error → now + 2 * p.error < opening p (release p i) → may_be_out p clock i ≡ false
in_time p now clock i s h g = lt-leb (release p i) (interval_at p (clock + p.error)) (not_begun p (release p i) (clock + p.error) s (omega arith) (omega arith))

-- an interval that has begun isn't too early
pub not_early : (p : Params) (now clock i : ℕ) → 0 < p.ticks → 0 < i → now ≤ clock + p.error → i ≤ interval_at p now → too_early p clock i ≡ false
not_early p now clock i s z h g = le-ltb (clock + p.error) (opening p i) (le_trans (begun p i now s z g) h)
