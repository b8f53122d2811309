-- The worked cases.
use Rattle.std.proofs.Common.{◌≡◌, ℕ, ◌-◌, true, false, List, [], get_or, refl, inl, inr, arith}
use Rattle.std.specs.Str.{bytes_eq}
use Rattle.std.proofs.lemmas.Slice.Eq.{bytes_eq-Decides}
use Rattle.std.proofs.lemmas.Bool.{cases_Bool}
use Rattle.model.specs.Term.{MacFn}
use Rattle.model.specs.Receiver.{walked, is_in, of_interval, right_of, right_up_to, later_than, tag_bytes, message_bytes, first_state}
use Rattle.model.specs.Cases.{rows, results, flood, quietly, said, WorkedCases}

same : (xs : List ℕ) → bytes_eq xs xs ≡ true
same xs = (bytes_eq-Decides xs xs).1 refl

other : (xs ys : List ℕ) → (xs ≡ ys → ⊥) → bytes_eq xs ys ≡ false
other xs ys f = elim (cases_Bool (bytes_eq xs ys)) [ inl e ↦ absurd (f ((bytes_eq-Decides xs ys).0 e)) | inr e ↦ e ]

-- the keys of intervals 0 to 3
abbrev chain : MacFn → List ℕ → ℕ → List ℕ
chain m k3 i = walked m (3 - i) k3

abbrev tag : MacFn → List ℕ → ℕ → List ℕ
tag m k3 i = tag_bytes m (chain m k3 i) (message_bytes (said i 0))

row : (m : MacFn) (k3 k t : List ℕ) → ℕ → Type 0
row m k3 k t n = let r = get_or (rows m k3 k t) n (record { events = []; come_to = [] }) in results m r.events (first_state (walked m 3 k3)) ≡ r.come_to

believed : (m : MacFn) (k3 k t : List ℕ) → row m k3 k t 2
unfolding row walked is_in of_interval right_of right_up_to later_than quietly
believed m k3 k t = rw (same (chain m k3 0), same (tag m k3 1))

caught_up : (m : MacFn) (k3 k t : List ℕ) → row m k3 k t 3
unfolding row walked is_in of_interval right_of right_up_to later_than quietly
caught_up m k3 k t = rw (same (chain m k3 0), same (tag m k3 1), same (tag m k3 2), same (tag m k3 3))

wrong_tag : (m : MacFn) (k3 k t : List ℕ) → (t ≡ tag m k3 1 → ⊥) → row m k3 k t 4
unfolding row walked is_in of_interval right_of right_up_to later_than quietly
wrong_tag m k3 k t g = rw (same (chain m k3 0), other t (tag m k3 1) g)

made_up : (m : MacFn) (k3 k t : List ℕ) → (walked m 900 k ≡ walked m 3 k3 → ⊥) → row m k3 k t 6
unfolding row
made_up m k3 k t f = rw (other (walked m 900 k) (walked m 3 k3) f)

pub cases : WorkedCases
unfolding row is_in of_interval flood quietly
cases m k3 k t f g = record {
  not_before = λ n h. omega arith;
  then_may = omega arith;
  hold = (refl, (refl, (believed m k3 k t, (caught_up m k3 k t, (wrong_tag m k3 k t g, (refl, (made_up m k3 k t f, (refl, (refl, tt)))))))));
}
