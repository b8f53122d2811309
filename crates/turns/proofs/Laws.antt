use Rattle.std.proofs.Common.{◌≡◌, ℕ, ◌+◌, ◌-◌, ◌*◌, ◌<◌, ◌≤◌, Bool, true, false, cond, ltb, ◌⊎◌, List, [], ◌∷◌, length, sym, refl, ap, inl, inr, ⊎_elim, arith}
use mathlib.Core.List.{Memᴰ}
use Rattle.std.proofs.lemmas.Bool.{cond_both, le-ltb, cases_eq}
use Rattle.std.proofs.lemmas.Bool.Decides.{nat_tests}
use Rattle.turns.specs.declared.Turn.{Turn}
use Rattle.turns.specs.declared.Turn.TheVariants.{Newest, Multiple}
use Rattle.turns.specs.Turns.{disclosed, afterwards, next_multiple, disclosures}
use Rattle.turns.specs.Laws.{OneNewest, TwoInARow, AllInARow}

two_from : (low : Bool) (a k m n x : ℕ) → (cond low m x ≡ m) ⊎ (disclosed (cond low (Multiple a) (Newest k)) n ≡ n)
two_from true a k m n x = inl refl
two_from false a k m n x = inr (cond_both (ltb n 1024) n n (λ y. y ≡ n) (λ e. refl) (λ e. refl))

two_newest : (low : Bool) (m : ℕ) → cond low m m ≡ m
two_newest true m = refl
two_newest false m = refl

pub two : TwoInARow
two (Newest a) m n = inl (two_newest (ltb m 1024) m)
two (Multiple a) m n = two_from (ltb m 1024) a (next_multiple a m) m n (1024 * next_multiple a m)

-- what is disclosed is the newest, or a multiple of 1,024 up to it
pub disclosed_either : (t : Turn) (n : ℕ) → (disclosed t n ≡ n) ⊎ ((k : ℕ) × ((disclosed t n ≡ 1024 * k) × (disclosed t n ≤ n)))
disclosed_either (Newest a) n = inl (two_newest (ltb n 1024) n)
disclosed_either (Multiple a) n =
    cond_both (ltb n 1024) n (1024 * next_multiple a n) (λ j. (j ≡ n) ⊎ ((k : ℕ) × ((j ≡ 1024 * k) × (j ≤ n))))
    (λ e. inl refl)
    (λ e. inr (next_multiple a n, (refl, grind (arith, nat_tests))))

pub disclosed_most : (t : Turn) (n : ℕ) → disclosed t n ≤ n
disclosed_most t n = ⊎_elim (λ e. omega arith) (λ h. h.1.1) (disclosed_either t n)

pub disclosed_some : (t : Turn) (n : ℕ) → 0 < n → 0 < disclosed t n
disclosed_some (Newest a) n h = grind (arith, nat_tests)
disclosed_some (Multiple a) n h = grind (arith, nat_tests)

-- the multiples' turns from the multiple a until k
abbrev pub dist : ℕ → ℕ → ℕ
dist a k = cond (ltb a k) (k - a) (16 - a + k)

abbrev pub turn : Bool → ℕ → Turn
turn true a = Multiple a
turn false a = Newest a

pub dist_some : (a k : ℕ) → 0 < k → 0 < dist a k
dist_some a k h = grind (arith, nat_tests)

pub dist_most : (a k : ℕ) → k ≤ 16 → dist a k ≤ 16
dist_most a k h = grind (arith, nat_tests)

pub dist_less : (a k n : ℕ) → 0 < k → 1024 * k ≤ n → n ≤ 16384 → (next_multiple a n ≡ k → ⊥) → dist (next_multiple a n) k < dist a k
dist_less a k n pos low high ne = grind (arith, nat_tests)

told_newest : (a n : ℕ) (ns : List ℕ) → 1024 ≤ n → disclosures (turn false a) (n ∷ ns) ≡ n ∷ disclosures (turn true a) ns
unfolding disclosures
told_newest a n ns h = rw (le-ltb n 1024 h)

told_multiple : (a n : ℕ) (ns : List ℕ) → 1024 ≤ n → disclosures (turn true a) (n ∷ ns) ≡ (1024 * next_multiple a n) ∷ disclosures (turn false (next_multiple a n)) ns
unfolding disclosures
told_multiple a n ns h = rw (le-ltb n 1024 h)

abbrev left : Bool → ℕ → ℕ → ℕ
left b a k = cond b (2 * dist a k - 1) (2 * dist a k)

left_most : (b : Bool) (a k : ℕ) → k ≤ 16 → left b a k ≤ 32
left_most true a k h = omega (arith, dist_most a k h)
left_most false a k h = omega (arith, dist_most a k h)

abbrev Open : ℕ → List ℕ → Type 0
Open k ns = (n : ℕ) → Memᴰ n ns → (1024 * k ≤ n) × (n ≤ 16384)

all_by : (b : Bool) (a k : ℕ) (ns : List ℕ) → 0 < k → left b a k ≤ length ns → Open k ns → Memᴰ (1024 * k) (disclosures (turn b a) ns)
all_by true a k [] pos few open_at = absurd (omega (arith, dist_some a k pos))
all_by false a k [] pos few open_at = absurd (omega (arith, dist_some a k pos))
all_by false a k (n ∷ ns) pos few open_at =
    let h = open_at n (Memᴰ.head refl) in
    rw (told_newest a n ns (omega arith))
    (Memᴰ.tail (all_by true a k ns pos (omega arith) (λ m i. open_at m (Memᴰ.tail i))))
all_by true a k (n ∷ ns) pos few open_at =
    let h = open_at n (Memᴰ.head refl) in
    rw (told_multiple a n ns (omega arith))
    (⊎_elim
    (λ (e : next_multiple a n ≡ k). Memᴰ.head (ap (λ x. 1024 * x) (sym e)))
    (λ (ne : next_multiple a n ≡ k → ⊥). Memᴰ.tail (all_by false (next_multiple a n) k ns pos (omega (arith, dist_less a k n pos h.0 h.1 ne)) (λ m i. open_at m (Memᴰ.tail i))))
    (cases_eq (next_multiple a n) k))

all_from : (b : Bool) (a k : ℕ) (ns : List ℕ) → 0 < k → length ns ≡ 32 → Open k ns → Memᴰ (1024 * k) (disclosures (turn b a) ns)
all_from b a k [] pos long open_at = absurd (omega arith)
all_from b a k (n ∷ ns) pos long open_at =
    let h = open_at n (Memᴰ.head refl) in
    all_by b a k (n ∷ ns) pos (omega (arith, left_most b a k (omega arith))) open_at

pub all : AllInARow
all (Newest a) = all_from false a
all (Multiple a) = all_from true a

pub one_newest : (t : Turn) (ns : List ℕ) → OneNewest (disclosures t ns) ns
unfolding disclosures
one_newest t [] = tt
one_newest t (n ∷ []) = tt
one_newest t (n ∷ (m ∷ ns)) = (two t n m, one_newest (afterwards t n) (m ∷ ns))
