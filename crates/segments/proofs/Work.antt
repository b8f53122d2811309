use Rattle.std.proofs.Common.{◌≡◌, ℕ, zero, suc, ◌+◌, ◌-◌, ◌*◌, ◌<◌, ◌≤◌, Bool, true, false, cond, eqb, ltb, ◌⊎◌, List, [], ◌∷◌, ◌++◌, length, sym, refl, ap, ◌∙◌, inl, inr, ⊎_elim, add_assoc, zero-add, arith}
use Rattle.std.proofs.lemmas.List.{length-append}
use Rattle.std.proofs.lemmas.Bool.{cond_both, eqb-true, eqb-false, ne_eqb, eq-eqb}
use Rattle.std.proofs.lemmas.Bool.Decides.{nat_tests}
use Rattle.segments.specs.Parts.{part_of, top_of}
use Rattle.segments.specs.Work.{below, part_work, tail_work, work, works, times, Rising}
use Rattle.segments.specs.Laws.{Once, Enough}

pub length_below : (n i : ℕ) → length (below n i) ≡ n
unfolding below
length_below zero i = refl
length_below (suc n) i = ap suc (length_below n (i - 1))

times_append : (x : ℕ) (ys zs : List ℕ) → times x (ys ++ zs) ≡ times x ys + times x zs
unfolding times
times_append x [] zs = sym (zero-add _)
times_append x (y ∷ ys) zs = ap (λ n. cond (eqb x y) 1 0 + n) (times_append x ys zs) ∙ sym (add_assoc (cond (eqb x y) 1 0) (times x ys) (times x zs))

-- t is how often x is among the n below i: once, if at all
abbrev OnceIn : (x n i t : ℕ) → Type 0
OnceIn x n i t = (t ≡ 0) ⊎ ((t ≡ 1) × (x < i) × (i ≤ x + n))

one_more : (b : Bool) (x n i t : ℕ) → eqb x (i - 1) ≡ b → suc n ≤ i → OnceIn x n (i - 1) t → OnceIn x (suc n) i (cond b 1 0 + t)
one_more true x n i t e h o =
    let s : x ≡ i - 1 = eqb-true x (i - 1) e in
    let z : t ≡ 0 = ⊎_elim (λ z. z) (λ r. absurd (omega (arith, r.1))) o in
    inr (omega arith, omega arith, omega arith)
one_more false x n i t e h o = ⊎_elim (λ z. inl (omega arith)) (λ r. inr (omega (arith, r.0), omega (arith, r.1), omega (arith, r.2))) o

times_below : (x n i : ℕ) → n ≤ i → OnceIn x n i (times x (below n i))
unfolding times below
times_below x zero i h = inl refl
times_below x (suc n) i h = one_more (eqb x (i - 1)) x n i (times x (below n (i - 1))) refl h (times_below x n (i - 1) (omega arith))

-- how often x may be worked out still, in a part
abbrev still : (x part : ℕ) → ℕ
still x part = cond (ltb (128 * part + 128) x) 1 0

work_steps : (x last delay from to t u : ℕ) → delay ≤ 8 → from < to
    → (to ≡ from + 1 → t ≡ 0) → OnceIn x delay (128 * to) t → OnceIn x (top_of last to - 128 * to - 1) (top_of last to) u
    → t + u + still x to ≤ still x from
work_steps x last delay from to t u small less moved o p =
    ⊎_elim
    (λ z. ⊎_elim (λ y. grind (arith, nat_tests)) (λ y. grind (arith, nat_tests)) p)
    (λ z. ⊎_elim (λ y. grind (arith, nat_tests)) (λ y. grind (arith, nat_tests)) p) o

times_tail : (x delay from to : ℕ) → delay ≤ 8 → from < to → (to ≡ from + 1 → times x (tail_work delay from to) ≡ 0) × OnceIn x delay (128 * to) (times x (tail_work delay from to))
unfolding times
times_tail x delay from to small less =
    cond_both (eqb to (from + 1)) [] (cond (eqb to 0) [] (below delay (128 * to))) (λ ys. (to ≡ from + 1 → times x ys ≡ 0) × OnceIn x delay (128 * to) (times x ys))
    (λ e. ((λ _. refl), inl refl))
    (λ e. cond_both (eqb to 0) [] (below delay (128 * to)) (λ ys. (to ≡ from + 1 → times x ys ≡ 0) × OnceIn x delay (128 * to) (times x ys))
    (λ f. ((λ _. refl), inl refl))
    (λ f. ((λ g. absurd (eqb-false to (from + 1) e g)), times_below x delay (128 * to) (omega arith))))

times_work : (x last delay from to : ℕ) → delay ≤ 8 → from ≤ to → times x (work last delay from to) + still x to ≤ still x from
unfolding work times
times_work x last delay from to small le =
    cond_both (eqb to from) [] (tail_work delay from to ++ part_work last to) (λ ys. times x ys + still x to ≤ still x from)
    (λ e. let s : to ≡ from = eqb-true to from e in rw (s, zero-add) (omega arith))
    (λ e. let ne : to ≡ from → ⊥ = eqb-false to from e in let less : from < to = omega arith in
    let h = times_tail x delay from to small less in
    rw (times_append x (tail_work delay from to) (part_work last to)) (work_steps x last delay from to _ _ small less h.0 h.1 (times_below x (top_of last to - 128 * to - 1) (top_of last to) (omega arith))))

times_works : (x last delay i part : ℕ) (is : List ℕ) → delay ≤ 8 → part ≡ part_of last i → Rising i is → times x (works last delay part is) ≤ still x part
unfolding works times
times_works x last delay i part [] small at r = omega arith
times_works x last delay i part (j ∷ js) small at r =
    let h = times_work x last delay part (part_of last j) small (omega (arith, r.0)) in
    let k = times_works x last delay j (part_of last j) js small refl r.1 in
    rw (times_append x (work last delay part (part_of last j)) (works last delay (part_of last j) js)) (omega arith)

pub once : Once
once last delay is x small r =
    let k = times_works x last delay 1 0 is small (omega arith) r in
    rw (times_append x (part_work last 0) (works last delay 0 is))
    (⊎_elim (λ z. grind (arith, nat_tests)) (λ z. grind (arith, nat_tests)) (times_below x (top_of last 0 - 128 * 0 - 1) (top_of last 0) (omega arith)))

-- how many are worked out
pub length_tail : (delay from to : ℕ) → length (tail_work delay from to) ≡ cond (eqb to (from + 1)) 0 (cond (eqb to 0) 0 delay)
length_tail delay from to =
    elim (eqb to (from + 1)) as (λ b. length (cond b [] (cond (eqb to 0) [] (below delay (128 * to)))) ≡ cond b 0 (cond (eqb to 0) 0 delay)) [
      | true ↦ refl
      | false ↦ elim (eqb to 0) as (λ b. length (cond b [] (below delay (128 * to))) ≡ cond b 0 delay) [ true ↦ refl | false ↦ length_below delay (128 * to) ]
    ]

pub length_work : (last delay from to : ℕ) → (to ≡ from → ⊥)
    → length (work last delay from to) ≡ cond (eqb to (from + 1)) 0 (cond (eqb to 0) 0 delay) + (top_of last to - 128 * to - 1)
unfolding work
length_work last delay from to ne =
    rw (ne_eqb to from ne, length-append, length_tail, length_below)

pub length_none : (last delay from to : ℕ) → to ≡ from → length (work last delay from to) ≡ 0
unfolding work
length_none last delay from to e = rw (eq-eqb to from e)

pub enough : Enough
enough s i pos at = (grind (arith, nat_tests), (λ l. grind (arith, nat_tests)), λ k p h. grind (arith, nat_tests))
