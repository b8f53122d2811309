-- Which key is disclosed next. The turns go: the newest, a multiple of 1,024, the newest, the next multiple, and so on.
use Rattle.std.specs.Prelude.{ℕ, ◌+◌, ◌*◌, cond, List, [], ◌∷◌, nat_le, nat_lt}
use Rattle.turns.specs.declared.Turn.{Turn}
use Rattle.turns.specs.declared.Turn.TheVariants.{Newest, Multiple}

abbrev pub first_turn : Turn
first_turn = Newest 0

-- thousands: how many times 1,024 the multiple last disclosed was, 0 for none; what the next one is
abbrev pub next_multiple : (thousands newest : ℕ) → ℕ
next_multiple thousands newest = cond (nat_le (1024 * thousands + 1024) newest) (thousands + 1) 1

-- whose turn it is: the newest's or the next multiple's
abbrev pub in_turn : Turn → (newest : ℕ) → ℕ
in_turn (Newest thousands) newest = newest
in_turn (Multiple thousands) newest = 1024 * next_multiple thousands newest

-- the interval whose key is disclosed, 0 for none, where newest is that of the newest key that may be
abbrev pub disclosed : Turn → (newest : ℕ) → ℕ
disclosed t newest = cond (nat_lt newest 1024) newest (in_turn t newest)

abbrev pub turned : Turn → (newest : ℕ) → Turn
turned (Newest thousands) newest = Multiple thousands
turned (Multiple thousands) newest = Newest (next_multiple thousands newest)

abbrev pub afterwards : Turn → (newest : ℕ) → Turn
afterwards t newest = cond (nat_lt newest 1024) t (turned t newest)

-- the intervals whose keys are disclosed one after the other, by the newest at each time
unfoldable pub disclosures : Turn → List ℕ → List ℕ
disclosures t [] = []
disclosures t (n ∷ ns) = disclosed t n ∷ disclosures (afterwards t n) ns
