-- Bytes as terms, what can be worked out from terms, and key chains. HMAC is a free constructor.
use Rattle.std.specs.Prelude.{◌≡◌, ℕ, zero, suc, ◌-◌, ◌<◌, ◌≤◌, Bool, true, ◌⊎◌, List, [], ◌∷◌, take}
use mathlib.Core.List.{Memᴰ}

-- Text: bytes that everybody can write; Seed: the last key of a chain, drawn; Mac: the HMAC of a text under a key; Cut: its first 16 bytes
pub data Term : Type 0 where
  Text : List ℕ → Term
  Seed : (chain : ℕ) → Term
  Mac : (key : Term) → (text : Term) → Term
  Cut : Term → Term

-- whoever has these terms can work out this one
pub data Gets (have : List Term) : Term → Type 0 where
  has : {t : Term} → Memᴰ t have → Gets have t
  text : (s : List ℕ) → Gets have (Text s)
  mac : {k t : Term} → Gets have k → Gets have t → Gets have (Mac k t)
  cut : {t : Term} → Gets have t → Gets have (Cut t)

abbrev pub MacFn : Type 0
MacFn = (key text : List ℕ) → List ℕ

-- HMAC over bytes, and the bytes that were drawn
pub record Bytes : Type 0 where
  pub mac : MacFn
  pub drawn : (chain : ℕ) → List ℕ

-- the bytes of a term
unfoldable pub val : Bytes → Term → List ℕ
val b (Text s) = s
val b (Seed c) = b.drawn c
val b (Mac k t) = b.mac (val b k) (val b t)
val b (Cut t) = take 16 (val b t)

-- the premise on bytes, of two terms: they have the same bytes only if they are the same
abbrev pub Apart : Bytes → Term → Term → Type 0
Apart b s t = val b s ≡ val b t → s ≡ t

-- the key so many intervals before that of this key
unfoldable pub down : ℕ → Term → Term
down zero t = t
down (suc n) t = Mac (down n t) (Text (1 ∷ []))

-- the key of interval i of a chain with n intervals
abbrev pub chain_key : (chain n i : ℕ) → Term
chain_key c n i = down (n - i) (Seed c)

abbrev pub mac_key : Term → Term
mac_key k = Mac k (Text (2 ∷ []))

abbrev pub tag_term : (key text : Term) → Term
tag_term k t = Cut (Mac (mac_key k) t)

-- the chains' lengths, which keys may be out (of a key all earlier ones may be), and the tags that were sent
pub record Outs : Type 0 where
  pub last : (chain : ℕ) → ℕ
  pub is_out : (chain i : ℕ) → Bool
  pub sent : List Term
  pub earlier : (c i j : ℕ) → j ≤ i → is_out c i ≡ true → is_out c j ≡ true

abbrev pub Out : Outs → (chain i : ℕ) → Type 0
Out o c i = o.is_out c i ≡ true

abbrev pub Sent : Outs → Term → Type 0
Sent o t = Memᴰ t o.sent

abbrev pub key : Outs → (chain i : ℕ) → Term
key o c i = chain_key c (o.last c) i

-- a term of the air: a key that may be out, a tag that was sent, or open text
pub data Fair (o : Outs) : Term → Type 0 where
  key_out : (c i : ℕ) → i ≤ o.last c → Out o c i → Fair o (key o c i)
  tag_sent : (t : Term) → Sent o (Cut t) → Fair o (Cut t)
  open_text : (s : List ℕ) → Fair o (Text s)

abbrev pub FairAir : Outs → List Term → Type 0
FairAir o air = (u : Term) → Memᴰ u air → Fair o u

-- of a key all earlier ones can be worked out, and none later
abbrev pub OneWay : Type 0
OneWay = (c n i j : ℕ) → i ≤ n → j ≤ n → (j ≤ i → Gets (chain_key c n i ∷ []) (chain_key c n j)) × (Gets (chain_key c n i ∷ []) (chain_key c n j) → j ≤ i)

-- a key can be worked out only once it may be out
abbrev pub KeyLate : Type 0
KeyLate = (o : Outs) (air : List Term) → FairAir o air → (c i : ℕ) → i ≤ o.last c → Gets air (key o c i) → Out o c i

-- a tag that can be worked out was sent, or its key may be out
abbrev pub TagLate : Type 0
TagLate = (o : Outs) (air : List Term) → FairAir o air → (c i : ℕ) (t : Term) → i ≤ o.last c → Gets air (tag_term (key o c i) t) → Sent o (tag_term (key o c i) t) ⊎ Out o c i

-- the one theorem on time. opens i: the earliest real tick at which the key of i may be out; latest: the latest that the real tick can be as far as the receiver knows
abbrev pub InTime : Type 0
InTime = (o : Outs) (air : List Term) → FairAir o air → (c now latest : ℕ) (opens : ℕ → ℕ) → ((i : ℕ) → 0 < i → Out o c i → opens i ≤ now) → now ≤ latest →
    (i : ℕ) (t : Term) → 0 < i → i ≤ o.last c → latest < opens i → Gets air (tag_term (key o c i) t) → Sent o (tag_term (key o c i) t)
