-- What can be worked out of a fair air.
use Rattle.std.proofs.Common.{◌≡◌, ℕ, zero, suc, ◌+◌, ◌-◌, ◌≤◌, leb, ◌⊎◌, List, [], ◌∷◌, sym, refl, ap, ◌∙◌, inl, inr, suc-add, zero-add, arith}
use mathlib.Core.List.Memᴰ
use mathlib.Core.List.{Memᴰ}
use Rattle.std.proofs.lemmas.Bool.{leb-true, le-leb}
use Rattle.model.specs.Term.{Term, Text, Seed, Mac, Cut, Gets, has, text, mac, cut, Bytes, val, down, chain_key, mac_key, Outs, Out, Sent, key, Fair, key_out, tag_sent, open_text, FairAir, OneWay, KeyLate, TagLate, InTime}
use Rattle.model.specs.Receiver.{walked}

-- the steps that a key is down from the seed, and that seed
depth : Term → ℕ
depth (Text s) = 0
depth (Seed c) = 0
depth (Mac k t) = suc (depth k)
depth (Cut t) = 0

root : Term → Term
root (Text s) = Text s
root (Seed c) = Seed c
root (Mac k t) = root k
root (Cut t) = Cut t

depth_down : (n c : ℕ) → depth (down n (Seed c)) ≡ n
unfolding depth down
depth_down zero c = refl
depth_down (suc n) c = ap suc (depth_down n c)

root_down : (n c : ℕ) → root (down n (Seed c)) ≡ Seed c
unfolding root down
root_down zero c = refl
root_down (suc n) c = root_down n c

pub down_inj : (n : ℕ) (s t : Term) → down n s ≡ down n t → s ≡ t
unfolding down
down_inj zero s t e = e
down_inj (suc n) s t e = down_inj n s t (cc)

pub down_add : (m n : ℕ) (t : Term) → down m (down n t) ≡ down (m + n) t
unfolding down
down_add zero n t = rw zero-add
down_add (suc m) n t = rw suc-add (ap (λ (u : Term). Mac u (Text (1 ∷ []))) (down_add m n t))

-- the key of an interval, worked out of a later one
pub chain_down : (c n j i : ℕ) → i ≤ j → j ≤ n → down (j - i) (chain_key c n j) ≡ chain_key c n i
chain_down c n j i h l =
    let e : (j - i) + (n - j) ≡ n - i = omega arith in
    down_add (j - i) (n - j) (Seed c) ∙ ap (λ (m : ℕ). down m (Seed c)) e

-- the bytes of a key further down
pub val_down : (b : Bytes) (n : ℕ) (t : Term) → val b (down n t) ≡ walked b.mac n (val b t)
unfolding val down walked
val_down b zero t = refl
val_down b (suc n) t = rw (val_down b n t)

-- a key of a chain is no MAC key, and nothing under one
no_mac_key : (n c : ℕ) (k : Term) → down n (Seed c) ≡ mac_key k → ⊥
unfolding down
no_mac_key zero c k e = let z : ◌≡◌ {A = ℕ} 0 1 = cc in omega arith
no_mac_key (suc n) c k e = let z : ◌≡◌ {A = ℕ} 1 2 = cc in omega arith

no_tag : (n c : ℕ) (k t : Term) → down n (Seed c) ≡ Mac (mac_key k) t → ⊥
unfolding down
no_tag zero c k t e = let z : ◌≡◌ {A = ℕ} 0 1 = cc in omega arith
no_tag (suc n) c k t e = no_mac_key n c k (cc)

-- a key that may be out
record Told (o : Outs) (u : Term) : Type 0 where
  pub chain : ℕ
  pub at_i : ℕ
  pub low : at_i ≤ o.last chain
  pub may : Out o chain at_i
  pub is : u ≡ key o chain at_i

-- what a term that can be worked out is made of
abbrev Ok : Outs → Term → Type 0
Ok o (Text s) = Unit {0}
Ok o (Seed c) = Told o (Seed c)
Ok o (Mac k t) = Ok o k ⊎ Told o (Mac k t)
Ok o (Cut t) = Ok o t ⊎ Sent o (Cut t)

told_ok : (o : Outs) (c i m : ℕ) → i ≤ o.last c → Out o c i → o.last c - i ≡ m → Ok o (down m (Seed c))
unfolding down
told_ok o c i zero h q e = record { chain = c; at_i = i; low = h; may = q; is = rw e }
told_ok o c i (suc m) h q e = inr (record { chain = c; at_i = i; low = h; may = q; is = rw e })

fair_ok : (o : Outs) (u : Term) → Fair o u → Ok o u
fair_ok o u (key_out c i h q) = told_ok o c i (o.last c - i) h q refl
fair_ok o u (tag_sent t s) = inr s
fair_ok o u (open_text s) = tt

gets_ok : (o : Outs) {air : List Term} {t : Term} → FairAir o air → Gets air t → Ok o t
gets_ok o f (has {t = t} m) = fair_ok o t (f t m)
gets_ok o f (text s) = tt
gets_ok o f (mac g h) = inl (gets_ok o f g)
gets_ok o f (cut g) = inl (gets_ok o f g)

seed_same : (a b : ℕ) → Seed a ≡ Seed b → a ≡ b
seed_same a b e = cc

told_out : (o : Outs) (c i m : ℕ) → i ≤ o.last c → i + m ≡ o.last c → Told o (down m (Seed c)) → Out o c i
told_out o c i m h e t =
    let a = t.at_i in
    let d = t.chain in
    let l : m ≡ o.last d - a = sym (depth_down m c) ∙ ap depth t.is ∙ depth_down (o.last d - a) d in
    let z : c ≡ d = seed_same c d (sym (root_down m c) ∙ ap root t.is ∙ root_down (o.last d - a) d) in
    let q : Out o c a = rw z t.may in
    let n : o.last c ≡ o.last d = ap o.last z in
    o.earlier c a i (omega (arith, t.low)) q

key_ok_out : (o : Outs) (c m i : ℕ) → i ≤ o.last c → i + m ≡ o.last c → Ok o (down m (Seed c)) → Out o c i
unfolding down
key_ok_out o c zero i h e k = told_out o c i zero h e k
key_ok_out o c (suc m) i h e k =
    elim k [
      | inl p ↦ o.earlier c (suc i) i (omega arith) (key_ok_out o c m (suc i) (omega arith) (omega arith) p)
      | inr p ↦ told_out o c i (suc m) h e p
    ]

pub key_late : KeyLate
key_late o air f c i h g = key_ok_out o c (o.last c - i) i h (omega arith) (gets_ok o f g)

pub tag_late : TagLate
tag_late o air f c i t h g =
    elim (gets_ok o f g) [
      | inl q ↦ elim q [
        | inl k ↦ elim k [ inl k ↦ inr (key_ok_out o c (o.last c - i) i h (omega arith) k) | inr d ↦ absurd (no_mac_key (o.last d.chain - d.at_i) d.chain _ (sym d.is)) ]
        | inr d ↦ absurd (no_tag (o.last d.chain - d.at_i) d.chain _ _ (sym d.is))
      ]
      | inr s ↦ inl s
    ]

pub in_time : InTime
in_time o air f c now latest opens r h i t p l q g = elim (tag_late o air f c i t l g) [ inl s ↦ s | inr k ↦ absurd (omega (arith, r i p k)) ]

gets_down : (have : List Term) (n : ℕ) (t : Term) → Gets have t → Gets have (down n t)
unfolding down
gets_down have zero t g = g
gets_down have (suc n) t g = mac (gets_down have n t g) (text (1 ∷ []))

-- whoever has the key of an interval has those of all earlier ones
pub gets_earlier : (air : List Term) (c n j i : ℕ) → i ≤ j → j ≤ n → Gets air (chain_key c n j) → Gets air (chain_key c n i)
gets_earlier air c n j i h l g = rw (chain_down c n j i h l) at (gets_down air (j - i) (chain_key c n j) g)

-- chains of n intervals of which the keys up to i are out
up_to : (n i : ℕ) → Outs
up_to n i = record { last = λ c. n; is_out = λ c j. leb j i; sent = []; earlier = λ c a j h q. le-leb j i (omega (arith, leb-true a i q)) }

pub one_way : OneWay
unfolding up_to
one_way c n i j h l = (
  λ q. gets_earlier _ c n i j q h (has (Memᴰ.head refl)),
  λ g. leb-true j i (key_late (up_to n i) (chain_key c n i ∷ []) (λ u m. rw (Memᴰ.eq_of_singleton m) (key_out c i h (le-leb i i (omega arith)))) c j l g),
)
