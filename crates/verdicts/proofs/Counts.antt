-- Fates counted.
use Rattle.std.proofs.Common.{◌≡◌, ℕ, ◌+◌, ◌-◌, ◌*◌, ◌<◌, ◌≤◌, ◌^◌, Bool, true, false, cond, not, ◌&&◌, count_by, List, [], ◌∷◌, length, get_or, take, drop, sym, refl, ap, ◌∙◌, subst, add-mul, arith}
use Rattle.std.proofs.lemmas.Nat.{mul-le}
use Rattle.std.proofs.ByRecursion.{All-get_or, All-from_get_or}
use Rattle.std.proofs.lemmas.List.{length-take-le, length-drop, get_or-take, get_or-drop}
use Rattle.std.proofs.lemmas.List.Sums.{sum_by-cons}
use Rattle.std.proofs.lemmas.Bool.{false≢true, cond-true, and_from, le-leb}
use Rattle.std.specs.List.{AllByRecursion, fold}
use Rattle.timing.specs.Time.{Params}
use Rattle.model.specs.Receiver.{Message}
use Rattle.stage.specs.declared.event.Event.{Event}
use Rattle.verdicts.specs.Fates.{no_fate, fate_of, row_of, AreFates}
use Rattle.verdicts.specs.Laws.{Believed, ByAll, BelievedByAll, VerdictsHold}
use Rattle.verdicts.specs.Verdicts.{believes, lacks_key, lacks_room, verdict_of, one_more_if, with_fate, nothing, tallied}
use Rattle.verdicts.specs.declared.fate.Fate.{Fate}
use Rattle.verdicts.specs.declared.fate.Verdict.{Verdict}

count_cons : (is : Fate → Bool) (f : Fate) (fs : List Fate) → count_by is (f ∷ fs) ≡ cond (is f) 1 0 + count_by is fs
count_cons is f fs = sum_by-cons (λ x. cond (is x) 1 0) f fs

-- what one fate adds
abbrev one : Bool → ℕ
one b = cond b 1 0

once : (f : Fate) → one f.in_time ≡ one (believes f) + one (lacks_key f) + one (lacks_room f)
once f = by_flags f.in_time f.delivered f.buffered where
  by_flags : (t d b : Bool) → one t ≡ one (t && d) + one ((t && not d) && b) + one ((t && not d) && not b)
  by_flags true true true = refl
  by_flags true true false = refl
  by_flags true false true = refl
  by_flags true false false = refl
  by_flags false d b = refl

-- no number reaches the most of 64 bits
abbrev Fits : Verdict → ℕ → Type 0
Fits v k = (v.reached + k < 2 ^ 64) × (v.believed + k < 2 ^ 64) × (v.no_room + k < 2 ^ 64) × (v.no_key + k < 2 ^ 64) × (v.outside + k < 2 ^ 64)

added : (b : Bool) (n k : ℕ) → n + (k + 1) < 2 ^ 64 → (one_more_if b n ≡ n + one b) × (one_more_if b n + k < 2 ^ 64)
added true n k h = (omega (arith, h), omega (arith, h))
added false n k h = (omega (arith, h), omega (arith, h))

abbrev plus : Verdict → Verdict → Verdict
plus v w = record { reached = v.reached + w.reached; believed = v.believed + w.believed; no_room = v.no_room + w.no_room; no_key = v.no_key + w.no_key; outside = v.outside + w.outside }

abbrev verdict_by : (reached believed room key outside : ℕ) → Verdict
verdict_by a b c d e = record { reached = a; believed = b; no_room = c; no_key = d; outside = e }

by_numbers : (v w : Verdict) → v.reached ≡ w.reached → v.believed ≡ w.believed → v.no_room ≡ w.no_room → v.no_key ≡ w.no_key → v.outside ≡ w.outside → v ≡ w
by_numbers v w a b c d e =
    ap (λ z. verdict_by z v.believed v.no_room v.no_key v.outside) a
    ∙ ap (λ z. verdict_by w.reached z v.no_room v.no_key v.outside) b
    ∙ ap (λ z. verdict_by w.reached w.believed z v.no_key v.outside) c
    ∙ ap (λ z. verdict_by w.reached w.believed w.no_room z v.outside) d
    ∙ ap (λ z. verdict_by w.reached w.believed w.no_room w.no_key z) e

-- what the fates add to what was counted
counted : (fs : List Fate) (v : Verdict) → Fits v (length fs) → fold with_fate v fs ≡ plus v (verdict_of fs)
unfolding with_fate
counted [] v h = by_numbers v (plus v (verdict_of [])) (omega arith) (omega arith) (omega arith) (omega arith) (omega arith)
counted (f ∷ fs) v h =
    let a = added f.in_time v.reached (length fs) (omega (arith, h.0)) in
    let b = added (believes f) v.believed (length fs) (omega (arith, h.1)) in
    let c = added (lacks_room f) v.no_room (length fs) (omega (arith, h.2)) in
    let d = added (lacks_key f) v.no_key (length fs) (omega (arith, h.3)) in
    let e = added f.outside v.outside (length fs) (omega (arith, h.4)) in
    counted fs (with_fate v f) (a.1, b.1, c.1, d.1, e.1)
    ∙ by_numbers (plus (with_fate v f) (verdict_of fs)) (plus v (verdict_of (f ∷ fs)))
    (omega (arith, a.0, count_cons (λ g. g.in_time) f fs))
    (omega (arith, b.0, count_cons believes f fs))
    (omega (arith, c.0, count_cons lacks_room f fs))
    (omega (arith, d.0, count_cons lacks_key f fs))
    (omega (arith, e.0, count_cons (λ g. g.outside) f fs))

pub tallied_whole : (fs : List Fate) → length fs < 2 ^ 64 → tallied fs ≡ verdict_of fs
unfolding nothing
tallied_whole fs h = counted fs nothing (omega (arith, h), omega (arith, h), omega (arith, h), omega (arith, h), omega (arith, h)) ∙ by_numbers (plus nothing (verdict_of fs)) (verdict_of fs) (omega arith) (omega arith) (omega arith) (omega arith) (omega arith)

parts : (fs : List Fate) → (verdict_of fs).reached ≡ (verdict_of fs).believed + (verdict_of fs).no_key + (verdict_of fs).no_room
parts [] = refl
parts (f ∷ fs) = omega (arith, parts fs, once f, count_cons (λ g. g.in_time) f fs, count_cons believes f fs, count_cons lacks_key f fs, count_cons lacks_room f fs)

-- a fate that is reached and not believed makes the verdict say so
not_more : (t d : Bool) → one (t && d) ≤ one t
not_more true true = omega arith
not_more true false = omega arith
not_more false d = omega arith

no_more : (fs : List Fate) → (verdict_of fs).believed ≤ (verdict_of fs).reached
no_more fs = omega (arith, parts fs)

if_both : (t d : Bool) → one t ≤ one (t && d) → t ≡ true → d ≡ true
if_both true true h e = refl
if_both true false h e = absurd (omega (arith, h))
if_both false d h e = let z : ◌≡◌ {A = Bool} false true = e in absurd (false≢true z)

both_if : (t d : Bool) → (t ≡ true → d ≡ true) → one t ≡ one (t && d)
both_if true true h = refl
both_if true false h = absurd (false≢true (h refl))
both_if false d h = refl

said_so : (fs : List Fate) → ByAll (verdict_of fs) → AllByRecursion Believed fs
said_so [] e = tt
said_so (f ∷ fs) e =
    let a = count_cons (λ g. g.in_time) f fs in
    let b = count_cons believes f fs in
    let here : one f.in_time ≤ one (believes f) = omega (arith, a, b, e, no_more fs) in
    let rest : (verdict_of fs).reached ≡ (verdict_of fs).believed = omega (arith, a, b, e, no_more fs, not_more f.in_time f.delivered) in
    (if_both f.in_time f.delivered here, said_so fs rest)

is_so : (fs : List Fate) → AllByRecursion Believed fs → ByAll (verdict_of fs)
is_so [] h = refl
is_so (f ∷ fs) h = omega (arith, count_cons (λ g. g.in_time) f fs, count_cons believes f fs, both_if f.in_time f.delivered h.0, is_so fs h.1)

pub row_end : (rs k : ℕ) → 1 ≤ k → k * rs ≡ (k - 1) * rs + rs
row_end rs k h = let e : k ≡ k - 1 + 1 = omega (arith, h) in ap (λ z. z * rs) e ∙ omega (arith, add-mul (k - 1) 1 rs)

-- the row of a message has its fates
row_there : (p : Params) (said : List Message) (es : List Event) (rs k : ℕ) (fs : List Fate) → AreFates p said es rs fs → 1 ≤ k → k ≤ length said → (k - 1) * rs + rs ≤ length fs
row_there p said es rs k fs a h l = omega (arith, a.many, mul-le k rs (length said) rs l (omega arith), row_end rs k h)

row_is : (p : Params) (said : List Message) (es : List Event) (rs k : ℕ) (fs : List Fate) → AreFates p said es rs fs → 1 ≤ k → k ≤ length said → row_of rs k fs ≡ take rs (drop ((k - 1) * rs) fs)
row_is p said es rs k fs a h l = cond-true _ _ _ (and_from _ _ (le-leb _ _ h) (le-leb _ _ (omega (arith, row_there p said es rs k fs a h l, row_end rs k h))))

row_length : (rs m : ℕ) (fs : List Fate) → m + rs ≤ length fs → length (take rs (drop m fs)) ≡ rs
row_length rs m fs h = length-take-le rs (drop m fs) (omega (arith, h, length-drop m fs))

row_at : (p : Params) (said : List Message) (es : List Event) (rs k n : ℕ) (fs : List Fate) → AreFates p said es rs fs → 1 ≤ k → k ≤ length said → 1 ≤ n → n ≤ rs →
    get_or (take rs (drop ((k - 1) * rs) fs)) (n - 1) no_fate ≡ fate_of p said es k n
row_at p said es rs k n fs a h l i m = get_or-take rs (drop ((k - 1) * rs) fs) (n - 1) no_fate (omega arith) ∙ get_or-drop ((k - 1) * rs) fs (n - 1) no_fate ∙ a.each k n h l i m

said_of : (p : Params) (said : List Message) (es : List Event) (rs k : ℕ) (fs : List Fate) → AreFates p said es rs fs → 1 ≤ k → k ≤ length said → ByAll (verdict_of (row_of rs k fs)) → BelievedByAll p said es rs k
said_of p said es rs k fs a h l v n i m =
    let row = take rs (drop ((k - 1) * rs) fs) in
    let all : AllByRecursion Believed row = said_so row (subst (λ z. ByAll (verdict_of z)) (row_is p said es rs k fs a h l) v) in
    let long : length row ≡ rs = row_length rs ((k - 1) * rs) fs (row_there p said es rs k fs a h l) in
    subst Believed (row_at p said es rs k n fs a h l i m) (All-get_or Believed row (n - 1) no_fate (omega (arith, long)) all)

is_of : (p : Params) (said : List Message) (es : List Event) (rs k : ℕ) (fs : List Fate) → AreFates p said es rs fs → 1 ≤ k → k ≤ length said → BelievedByAll p said es rs k → ByAll (verdict_of (row_of rs k fs))
is_of p said es rs k fs a h l b =
    let row = take rs (drop ((k - 1) * rs) fs) in
    let long : length row ≡ rs = row_length rs ((k - 1) * rs) fs (row_there p said es rs k fs a h l) in
    let each : (j : ℕ) → j < length row → Believed (get_or row j no_fate) = λ j y.
    let q : j + 1 - 1 ≡ j = omega arith in
    subst (λ z. Believed (get_or row z no_fate)) q (subst Believed (sym (row_at p said es rs k (j + 1) fs a h l (omega arith) (omega (arith, long)))) (b (j + 1) (omega arith) (omega (arith, long)))) in
    subst (λ z. ByAll (verdict_of z)) (sym (row_is p said es rs k fs a h l)) (is_so row (All-from_get_or Believed row no_fate each))

pub by_all : VerdictsHold
by_all = record { said_so = said_so; is_so = is_so; said_of = said_of; is_of = is_of; parts = parts }
