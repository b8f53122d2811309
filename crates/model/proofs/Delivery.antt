-- What is delivered at a key: the genuine messages of its intervals, each once, intervals rising.
use Rattle.std.proofs.Common.{◌≡◌, ℕ, zero, suc, pred, ◌+◌, ◌-◌, ◌<◌, ◌≤◌, true, ◌&&◌, eqb, List, [], ◌∷◌, sym, refl, ap, ◌∙◌, inl, inr, arith}
use mathlib.Core.List.Memᴰ
use mathlib.Core.List.{Memᴰ}
use Rattle.std.proofs.lemmas.Slice.Eq.{bytes_eq-Decides}
use Rattle.std.proofs.lemmas.Bool.{eqb-true, eq-eqb, and_parts, and_from, cond_both, cond-true, cases_eq}
use Rattle.timing.specs.Time.{Params}
use Rattle.model.specs.Term.{Bytes, val, down}
use Rattle.model.specs.Receiver.{Said, Message, is_right, tag_bytes, message_bytes, right_of, right_up_to}
use Rattle.model.specs.Run.{key_bytes, tag_of, Genuine}
use Rattle.model.specs.Promise.{Once, Rising}
use Rattle.model.proofs.Buffers.{once_append, rising_append}

-- the test of a tag under the key of its interval
right_genuine : (p : Params) (b : Bytes) (k : List ℕ) (i : ℕ) (x : Message) → k ≡ key_bytes p b i → x.says.interval ≡ i → is_right b.mac k x ≡ true → Genuine p b x
unfolding val
right_genuine p b k i x q z h =
    let e : x.tag ≡ tag_bytes b.mac k (message_bytes x.says) = (bytes_eq-Decides x.tag (tag_bytes b.mac k (message_bytes x.says))).0 h in
    e ∙ ap (λ (u : List ℕ). tag_bytes b.mac u (message_bytes x.says)) (q ∙ ap (key_bytes p b) (sym z))

genuine_right : (p : Params) (b : Bytes) (k : List ℕ) (i : ℕ) (x : Message) → k ≡ key_bytes p b i → x.says.interval ≡ i → Genuine p b x → is_right b.mac k x ≡ true
unfolding val
genuine_right p b k i x q z h =
    (bytes_eq-Decides x.tag (tag_bytes b.mac k (message_bytes x.says))).1 (h ∙ ap (λ (u : List ℕ). tag_bytes b.mac u (message_bytes x.says)) (ap (key_bytes p b) z ∙ sym q))

-- a genuine message that is buffered
pub record Waits (p : Params) (b : Bytes) (xs : List Message) (s : Said) : Type 0 where
  pub held : Message
  pub is_held : Memᴰ held xs
  pub is_genuine : Genuine p b held
  pub of : s ≡ held.says

waits_in : {p : Params} {b : Bytes} {xs ys : List Message} {s : Said} → ((x : Message) → Memᴰ x xs → Memᴰ x ys) → Waits p b xs s → Waits p b ys s
waits_in f v = record { held = v.held; is_held = f v.held v.is_held; is_genuine = v.is_genuine; of = v.of }

-- of one interval
right_from : (p : Params) (b : Bytes) (k : List ℕ) (i : ℕ) (xs : List Message) (s : Said) → k ≡ key_bytes p b i → Memᴰ s (right_of b.mac k i xs) → Waits p b xs s × (s.interval ≡ i)
unfolding right_of
right_from p b k i [] s q m = absurd (Memᴰ.not-nil m)
right_from p b k i (y ∷ ys) s q m =
    let more : Waits p b ys s × (s.interval ≡ i) → Waits p b (y ∷ ys) s × (s.interval ≡ i) = λ h. (waits_in (λ x. Memᴰ.tail) h.0, h.1) in
    cond_both (eqb y.says.interval i && is_right b.mac k y) (y.says ∷ right_of b.mac k i ys) (right_of b.mac k i ys) (λ l. Memᴰ s l → Waits p b (y ∷ ys) s × (s.interval ≡ i))
    (λ e n. elim (Memᴰ.cases_cons n) [
      | inl z ↦
          let o = and_parts (eqb y.says.interval i) (is_right b.mac k y) e in
          let h = eqb-true y.says.interval i o.0 in
          (record { held = y; is_held = Memᴰ.head refl; is_genuine = right_genuine p b k i y q h o.1; of = z }, ap (λ (v : Said). v.interval) z ∙ h)
      | inr o ↦ more (right_from p b k i ys s q o)
    ])
    (λ e n. more (right_from p b k i ys s q n))
    m

right_has : (b : Bytes) (k : List ℕ) (i : ℕ) (xs : List Message) (x : Message) → Memᴰ x xs → x.says.interval ≡ i → is_right b.mac k x ≡ true → Memᴰ x.says (right_of b.mac k i xs)
unfolding right_of
right_has b k i [] x m e h = absurd (Memᴰ.not-nil m)
right_has b k i (y ∷ ys) x m e h =
    elim (Memᴰ.cases_cons m) [
      | inl z ↦ rw (cond-true (eqb y.says.interval i && is_right b.mac k y) (y.says ∷ right_of b.mac k i ys) (right_of b.mac k i ys) (and_from _ _ (eq-eqb y.says.interval i (ap (λ (v : Message). v.says.interval) (sym z) ∙ e)) (rw z at h)))
          (Memᴰ.head (ap (λ (v : Message). v.says) z))
      | inr n ↦ cond_both (eqb y.says.interval i && is_right b.mac k y) (y.says ∷ right_of b.mac k i ys) (right_of b.mac k i ys) (Memᴰ x.says) (λ q. Memᴰ.tail (right_has b k i ys x n e h)) (λ q. right_has b k i ys x n e h)
    ]

key_before : (p : Params) (b : Bytes) (k : List ℕ) (j : ℕ) → 0 < j → j ≤ p.last → k ≡ key_bytes p b j → b.mac k (1 ∷ []) ≡ key_bytes p b (pred j)
unfolding down val
key_before p b k j h l q = let e : p.last - pred j ≡ suc (p.last - j) = omega arith in rw (e, q)

-- of several
pub delivery_from : (p : Params) (b : Bytes) (k : List ℕ) (n j : ℕ) (xs : List Message) (s : Said) → k ≡ key_bytes p b j → n ≤ j → j ≤ p.last → Memᴰ s (right_up_to b.mac k n j xs) →
    Waits p b xs s × (s.interval ≤ j) × (j < s.interval + n)
unfolding right_up_to
delivery_from p b k zero j xs s q h l m = absurd (Memᴰ.not-nil m)
delivery_from p b k (suc n) j xs s q h l m =
    elim (Memᴰ.append_cases (right_up_to b.mac (b.mac k (1 ∷ [])) n (pred j) xs) m) [
      | inl a ↦ let o = delivery_from p b (b.mac k (1 ∷ [])) n (pred j) xs s (key_before p b k j (omega arith) l q) (omega arith) (omega arith) a in (o.0, omega arith, omega arith)
      | inr a ↦ let o = right_from p b k j xs s q a in (o.0, omega arith, omega arith)
    ]

pub delivery_has : (p : Params) (b : Bytes) (k : List ℕ) (n j : ℕ) (xs : List Message) (x : Message) → k ≡ key_bytes p b j → n ≤ j → j ≤ p.last → Memᴰ x xs → Genuine p b x → x.says.interval ≤ j → j < x.says.interval + n →
    Memᴰ x.says (right_up_to b.mac k n j xs)
unfolding right_up_to
delivery_has p b k zero j xs x q h l m e a c = absurd (omega arith)
delivery_has p b k (suc n) j xs x q h l m e a c =
    elim (cases_eq x.says.interval j) [
      | inl z ↦ Memᴰ.append_right (right_up_to b.mac (b.mac k (1 ∷ [])) n (pred j) xs) (right_has b k j xs x m z (genuine_right p b k j x q z e))
      | inr z ↦ Memᴰ.append_left (right_of b.mac k j xs)
          (delivery_has p b (b.mac k (1 ∷ [])) n (pred j) xs x (key_before p b k j (omega arith) l q) (omega arith) (omega arith) m e (omega arith) (omega arith))
    ]

right_once : (p : Params) (b : Bytes) (k : List ℕ) (i : ℕ) (xs : List Message) → k ≡ key_bytes p b i → Once xs → Once (right_of b.mac k i xs)
unfolding right_of
right_once p b k i [] q a = tt
right_once p b k i (x ∷ xs) q a =
    cond_both (eqb x.says.interval i && is_right b.mac k x) (x.says ∷ right_of b.mac k i xs) (right_of b.mac k i xs) Once
    (λ e.
    let o = and_parts (eqb x.says.interval i) (is_right b.mac k x) e in
    let h = right_genuine p b k i x q (eqb-true x.says.interval i o.0) o.1 in (
      λ m.
          let v = (right_from p b k i xs x.says q m).0 in
          let z = v.of in
          let y : x.tag ≡ v.held.tag = h ∙ ap (λ (u : Said). val b (tag_of p u)) z ∙ sym v.is_genuine in
          a.0 (Memᴰ.cast (λ i. record { says = z i; tag = y i }) v.is_held),
      right_once p b k i xs q a.1,
    ))
    (λ e. right_once p b k i xs q a.1)

right_rising : (p : Params) (b : Bytes) (k : List ℕ) (i : ℕ) (xs : List Message) → k ≡ key_bytes p b i → Rising (right_of b.mac k i xs)
unfolding right_of
right_rising p b k i [] q = tt
right_rising p b k i (x ∷ xs) q =
    cond_both (eqb x.says.interval i && is_right b.mac k x) (x.says ∷ right_of b.mac k i xs) (right_of b.mac k i xs) Rising
    (λ e. (λ t m. omega (arith, (right_from p b k i xs t q m).1, eqb-true x.says.interval i (and_parts _ _ e).0), right_rising p b k i xs q))
    (λ e. right_rising p b k i xs q)

pub delivery_once : (p : Params) (b : Bytes) (k : List ℕ) (n j : ℕ) (xs : List Message) → k ≡ key_bytes p b j → n ≤ j → j ≤ p.last → Once xs → Once (right_up_to b.mac k n j xs)
unfolding right_up_to
delivery_once p b k zero j xs q h l a = tt
delivery_once p b k (suc n) j xs q h l a =
    let k' = b.mac k (1 ∷ []) in
    let q' = key_before p b k j (omega arith) l q in
    once_append (right_up_to b.mac k' n (pred j) xs) (right_of b.mac k j xs) (delivery_once p b k' n (pred j) xs q' (omega arith) (omega arith) a) (right_once p b k j xs q a)
    (λ s m o. omega (arith, (delivery_from p b k' n (pred j) xs s q' (omega arith) (omega arith) m).1, (right_from p b k j xs s q o).1))

pub delivery_rising : (p : Params) (b : Bytes) (k : List ℕ) (n j : ℕ) (xs : List Message) → k ≡ key_bytes p b j → n ≤ j → j ≤ p.last → Rising (right_up_to b.mac k n j xs)
unfolding right_up_to
delivery_rising p b k zero j xs q h l = tt
delivery_rising p b k (suc n) j xs q h l =
    let k' = b.mac k (1 ∷ []) in
    let q' = key_before p b k j (omega arith) l q in
    rising_append (right_up_to b.mac k' n (pred j) xs) (right_of b.mac k j xs) (delivery_rising p b k' n (pred j) xs q' (omega arith) (omega arith)) (right_rising p b k j xs q)
    (λ s t m o. omega (arith, (delivery_from p b k' n (pred j) xs s q' (omega arith) (omega arith) m).1, (right_from p b k j xs t q o).1))
