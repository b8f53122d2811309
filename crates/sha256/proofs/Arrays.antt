-- What `array::from_fn` makes.
use Rattle.std.proofs.Common.{◌≡◌, ℕ, zero, suc, ◌+◌, ◌<◌, ◌≤◌, List, map, get_or, refl, subst, ◌∙◌, arith, ⊎_elim}
use Rattle.std.proofs.lemmas.Bool.{cases_eq}
use Rattle.std.proofs.lemmas.List.FromFn.{fill_by_all}
use Rattle.std.specs.List.{range_with_len}
use Rattle.std.specs.Array.{IsFromFnResult, IsFromFnResultFrom}
use denote.Param.Members.{Mut, Called}

module _ {F B : Type 0} (g : Mut F (ℕ × Unit {0}) B) (v : ℕ → B) (f : F) (step : (i : ℕ) (y : B) (q : F) → Called g f (i, tt) y q → (y ≡ v i) × (q ≡ f)) (ys : List B) where
  made : (n i : ℕ) (p : F) → p ≡ f → IsFromFnResultFrom g p ys i n → (k : ℕ) (d : B) → i ≤ k → k < i + n → get_or ys k d ≡ v k
  made zero i p same r k d low high = absurd (omega arith)
  made (suc n) i p same (q, y, el, called, rest) k d low high =
      let P : F → Type 0 = λ x. Called g x (i, tt) y q in
      let s = step i y q (subst P same called) in
      ⊎_elim (λ (e : k ≡ i). rw e (el.1 d ∙ s.0)) (λ (ne : k ≡ i → ⊥). made n (i + 1) q s.1 rest k d (omega arith) (omega arith)) (cases_eq k i)

  -- calls that leave the closure as it is, and give v i at the index i
  pub from_fn_same : (d : B) (n : ℕ) → IsFromFnResult g f ys n → ys ≡ map v (range_with_len 0 n)
  from_fn_same d n r = fill_by_all v ys n d r.long (λ k h. made n 0 f refl r.each k d (omega arith) (omega arith))
