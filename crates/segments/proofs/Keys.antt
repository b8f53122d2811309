-- Keys worked out one below another are the chain's.
use Rattle.std.proofs.Common.{◌≡◌, ℕ, zero, suc, ◌+◌, ◌-◌, ◌*◌, ◌/◌, ◌<◌, ◌≤◌, ◌≢◌, List, ◌++◌, length, get_or, set, sym, refl, ap, ◌∙◌, ⊎_elim, suc-add, zero-add, arith, below_more}
use Rattle.std.proofs.lemmas.List.{get_or_append_left, get_or-set_same, get_or-set_other}
use Rattle.std.proofs.lemmas.Bool.{cases_eq}
use Rattle.model.specs.Receiver.{walked}
use Rattle.keychain.specs.Chain.{stepped, key_down, absent_key}
use Rattle.keychain.specs.declared.key.Key.{Key}
use Rattle.keychain.proofs.Chains.{down_none}
use Rattle.segments.specs.Parts.{at, key_at, top_of, drawn_in, EndsAre}

down_suc : (n : ℕ) (key : List ℕ) → key_down (suc n) key ≡ stepped (key_down n key)
unfolding walked
down_suc n key = refl

down_add : (m n : ℕ) (key : List ℕ) → key_down (m + n) key ≡ key_down m (key_down n key)
down_add zero n key = rw (zero-add, down_none)
down_add (suc m) n key = rw (suc-add, down_suc (m + n) key, down_suc m (key_down n key), down_add m n key)

-- the key of interval i, worked out from that of interval j
pub key_from : (last i j m : ℕ) (drawn key : List ℕ) → j ≤ last → j ≡ i + m → key ≡ key_at last drawn j → key_down m key ≡ key_at last drawn i
key_from last i j m drawn key h e k =
    let f : last - i ≡ m + (last - j) = omega arith in
    rw (k, f, down_add)

-- one more of the keys below this one
pub below_keys : (i : ℕ) (key : List ℕ) (ks : List Key) (v : Key) → i < length ks → v.bytes ≡ key_down (i + 1) key → ((j : ℕ) → j < i → at ks j ≡ key_down (j + 1) key)
    → (j : ℕ) → j < i + 1 → at (set ks i v) j ≡ key_down (j + 1) key
below_keys i key ks v h is before =
    below_more _ i
    (λ j lt. let ne : j ≢ i = omega arith in ap (λ (k : Key). k.bytes) (get_or-set_other ks i j v absent_key ne) ∙ before j lt)
    (ap (λ (k : Key). k.bytes) (get_or-set_same ks i v absent_key h) ∙ is)

-- of keys written from that of interval top down each is the chain's
pub filled_at : (ks post : List Key) (last top j : ℕ) (drawn : List ℕ) → j < length ks → top ≤ last → j ≤ top → at ks j ≡ key_down j (key_at last drawn top) → at (ks ++ post) j ≡ key_at last drawn (top - j)
filled_at ks post last top j drawn l in_chain h is =
    ap (λ (k : Key). k.bytes) (get_or_append_left ks post absent_key j l) ∙ (is ∙ key_from last (top - j) top j drawn (key_at last drawn top) in_chain (omega arith) refl)

-- the key of the last interval
pub key_last : (last m : ℕ) (drawn : List ℕ) → m ≡ last → drawn ≡ key_at last drawn m
key_last last m drawn e = let f : last - m ≡ 0 = omega arith in rw (f, down_none)

-- the chain of one interval
pub one_key : (last b : ℕ) (ks : List Key) → last ≡ 1 → 128 * b < last → at ks b ≡ key_at last (drawn_in last ks) (top_of last b)
one_key last b ks e h =
    let z : b ≡ 0 = omega arith in
    let f : last - top_of last b ≡ 0 = omega arith in
    let g : (last - 1) / 128 ≡ 0 = omega arith in
    rw (f, g, z, down_none)

pub one_part : (last j : ℕ) (ks ends : List Key) → last ≡ 1 → 128 * 0 + j < top_of last 0 → get_or ks 0 absent_key ≡ get_or ends 0 absent_key → at ks j ≡ key_at last (drawn_in last ends) (top_of last 0 - j)
one_part last j ks ends e h same =
    let z : j ≡ 0 = omega arith in
    let f : last - (top_of last 0 - j) ≡ 0 = omega arith in
    let g : (last - 1) / 128 ≡ 0 = omega arith in
    rw (f, g, z, down_none) (ap (λ (k : Key). k.bytes) same)

-- the ends from place p on
abbrev pub EndsFrom : (last p : ℕ) (drawn : List ℕ) → List Key → Type 0
EndsFrom last p drawn ends = (b : ℕ) → p ≤ b → 128 * b < last → at ends b ≡ key_at last drawn (top_of last b)

pub ends_more : (last p q : ℕ) (drawn : List ℕ) (key : Key) (ends : List Key) → q ≡ p + 1 → p < length ends →
    key.bytes ≡ key_at last drawn (top_of last p) → EndsFrom last q drawn ends → EndsFrom last p drawn (set ends p key)
ends_more last p q drawn key ends e h is from b le lt =
    ⊎_elim
    (λ (s : b ≡ p). rw s (ap (λ (k : Key). k.bytes) (get_or-set_same ends p key absent_key h) ∙ is))
    (λ (ne : b ≡ p → ⊥). ap (λ (k : Key). k.bytes) (get_or-set_other ends p b key absent_key ne) ∙ from b (omega arith) lt)
    (cases_eq b p)

pub drawn_in_lem : (last : ℕ) (drawn : List ℕ) (ends : List Key) → 1 ≤ last → EndsAre last drawn ends → drawn_in last ends ≡ drawn
drawn_in_lem last drawn ends h are =
    let t : top_of last ((last - 1) / 128) ≡ last = omega arith in
    are ((last - 1) / 128) (omega arith) ∙ sym (key_last last (top_of last ((last - 1) / 128)) drawn t)
