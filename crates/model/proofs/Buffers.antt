-- What is buffered and forgotten, and lists without repetition.
use Rattle.std.proofs.Common.{◌≡◌, ℕ, ◌<◌, ◌≤◌, true, leb, List, [], ◌∷◌, ◌++◌, refl, ap, inl, inr, arith}
use mathlib.Core.List.Memᴰ
use mathlib.Core.List.{Memᴰ}
use Rattle.std.proofs.lemmas.Slice.Eq.{bytes_eq-Decides}
use Rattle.std.proofs.lemmas.Bool.{leb-false, leb-true, eqb-true, eq-eqb, and_parts, and_from, cond_both, or_cases, or_left, or_right, false≢true}
use Rattle.model.specs.Receiver.{Said, Message, same_message, is_in, later_than}
use Rattle.model.specs.Promise.{Once, Rising}

pub once_append : {A : Type 0} (xs ys : List A) → Once xs → Once ys → ((x : A) → Memᴰ x xs → Memᴰ x ys → ⊥) → Once (xs ++ ys)
once_append [] ys a b f = b
once_append (x ∷ xs) ys a b f =
    (λ m. elim (Memᴰ.append_cases xs m) [ inl n ↦ a.0 n | inr n ↦ f x (Memᴰ.head refl) n ], once_append xs ys a.1 b (λ t m n. f t (Memᴰ.tail m) n))

pub once_add : {A : Type 0} (xs : List A) (x : A) → Once xs → (Memᴰ x xs → ⊥) → Once (xs ++ (x ∷ []))
once_add xs x a f =
    once_append xs (x ∷ []) a (Memᴰ.not-nil, tt)
    (λ y m n. elim (Memᴰ.cases_cons n) [ inl z ↦ f (rw z at m) | inr o ↦ absurd (Memᴰ.not-nil o) ])

pub rising_append : (ss ts : List Said) → Rising ss → Rising ts → ((s t : Said) → Memᴰ s ss → Memᴰ t ts → s.interval ≤ t.interval) → Rising (ss ++ ts)
rising_append [] ts a b f = b
rising_append (s ∷ ss) ts a b f =
    (λ t m. elim (Memᴰ.append_cases ss m) [ inl n ↦ a.0 t n | inr n ↦ f s t (Memᴰ.head refl) n ], rising_append ss ts a.1 b (λ u t m n. f u t (Memᴰ.tail m) n))

same_message_lem : (x y : Message) → same_message x y ≡ true → x ≡ y
same_message_lem x y h =
    let p = and_parts _ _ h in
    let q = and_parts _ _ p.1 in
    let o = and_parts _ _ q.1 in
    let a = eqb-true x.says.interval y.says.interval p.0 in
    let b = eqb-true x.says.index y.says.index q.0 in
    let c = (bytes_eq-Decides x.says.text y.says.text).0 o.0 in
    let d = (bytes_eq-Decides x.tag y.tag).0 o.1 in
    λ i. record { says = record { interval = a i; index = b i; text = c i }; tag = d i }

message_same : (x : Message) → same_message x x ≡ true
message_same x =
    and_from _ _ (eq-eqb x.says.interval x.says.interval refl)
    (and_from _ _ (eq-eqb x.says.index x.says.index refl)
    (and_from _ _ ((bytes_eq-Decides x.says.text x.says.text).1 refl) ((bytes_eq-Decides x.tag x.tag).1 refl)))

pub is_in_lem : (x : Message) (ys : List Message) → is_in x ys ≡ true → Memᴰ x ys
unfolding is_in
is_in_lem x [] h = absurd (false≢true h)
is_in_lem x (y ∷ ys) h = elim (or_cases (same_message x y) (is_in x ys) h) [ inl e ↦ Memᴰ.head (same_message_lem x y e) | inr e ↦ Memᴰ.tail (is_in_lem x ys e) ]

pub in_is : (x : Message) (ys : List Message) → Memᴰ x ys → is_in x ys ≡ true
unfolding is_in
in_is x [] m = absurd (Memᴰ.not-nil m)
in_is x (y ∷ ys) m =
    elim (Memᴰ.cases_cons m) [ inl z ↦ or_left (same_message x y) (is_in x ys) (rw (← z) (message_same x)) | inr n ↦ or_right (same_message x y) (is_in x ys) (in_is x ys n) ]

pub later_from : (i : ℕ) (xs : List Message) (x : Message) → Memᴰ x (later_than i xs) → Memᴰ x xs × (i < x.says.interval)
unfolding later_than
later_from i [] x m = absurd (Memᴰ.not-nil m)
later_from i (y ∷ ys) x m =
    cond_both (leb y.says.interval i) (later_than i ys) (y ∷ later_than i ys) (λ l. Memᴰ x l → Memᴰ x (y ∷ ys) × (i < x.says.interval))
    (λ e n. let h = later_from i ys x n in (Memᴰ.tail h.0, h.1))
    (λ e n. elim (Memᴰ.cases_cons n) [ inl z ↦ (Memᴰ.head z, rw z (leb-false _ _ e)) | inr o ↦ let h = later_from i ys x o in (Memᴰ.tail h.0, h.1) ])
    m

pub later_has : (i : ℕ) (xs : List Message) (x : Message) → Memᴰ x xs → i < x.says.interval → Memᴰ x (later_than i xs)
unfolding later_than
later_has i [] x m h = absurd (Memᴰ.not-nil m)
later_has i (y ∷ ys) x m h =
    cond_both (leb y.says.interval i) (later_than i ys) (y ∷ later_than i ys) (Memᴰ x)
    (λ e. elim (Memᴰ.cases_cons m) [ inl z ↦ absurd (omega (arith, leb-true y.says.interval i e, ap (λ (v : Message). v.says.interval) z)) | inr n ↦ later_has i ys x n h ])
    (λ e. elim (Memᴰ.cases_cons m) [ inl z ↦ Memᴰ.head z | inr n ↦ Memᴰ.tail (later_has i ys x n h) ])

pub once_later : (i : ℕ) (xs : List Message) → Once xs → Once (later_than i xs)
unfolding later_than
once_later i [] a = tt
once_later i (x ∷ xs) a =
    cond_both (leb x.says.interval i) (later_than i xs) (x ∷ later_than i xs) Once (λ e. once_later i xs a.1) (λ e. (λ m. a.0 (later_from i xs x m).0, once_later i xs a.1))
