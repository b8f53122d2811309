-- One more message of a buffer.
use Rattle.std.proofs.Common.{◌≡◌, ℕ, suc, ◌+◌, Bool, true, false, cond, ◌||◌, eqb, ltb, leb, List, [], ◌∷◌, ◌++◌, map, length, take, filter, refl, ap, ◌∙◌, arith}
use Rattle.std.specs.List.{list_any, count_by}
use Rattle.std.proofs.lemmas.List.Recursion.{is_count_by}
use Rattle.std.proofs.lemmas.List.{map_push, length-map, length-take-le}
use Rattle.std.proofs.lemmas.Bool.{cond_both, ltb-true, ltb-false, lt-leb, le-leb, cond-true, cond-false}
use Rattle.model.specs.Receiver.{Message, same_message, is_in, of_interval, later_than}
use Rattle.buffer.specs.declared.message.Buffered.{Buffered}
use Rattle.buffer.specs.declared.room.Buffer.{Buffer}
use Rattle.buffer.specs.Buffers.{as_message, messages_in, saids_in, messages_of}

pub messages_push : (ks : List Buffered) (k : Buffered) → messages_in (ks ++ k ∷ []) ≡ messages_in ks ++ as_message k ∷ []
unfolding messages_in
messages_push ks k = map_push as_message ks k

pub messages_length : (ks : List Buffered) → length (messages_in ks) ≡ length ks
unfolding messages_in
messages_length ks = length-map ks as_message

pub saids_none : saids_in [] ≡ []
unfolding saids_in
saids_none = refl

pub saids_push : (ws : List Message) (w : Message) → saids_in (ws ++ w ∷ []) ≡ saids_in ws ++ w.says ∷ []
unfolding saids_in
saids_push ws w = map_push (λ (w : Message). w.says) ws w

-- a test of the messages that are there is one of what they stand for
pub in_messages : (x : Message) (ks : List Buffered) → list_any (λ (k : Buffered). same_message x (as_message k)) ks ≡ is_in x (messages_in ks)
unfolding messages_in is_in
in_messages x [] = refl
in_messages x (k ∷ ks) = ap (λ (b : Bool). same_message x (as_message k) || b) (in_messages x ks)

pub of_messages : (i : ℕ) (ks : List Buffered) → of_interval i (messages_in ks) ≡ count_by (λ (k : Buffered). eqb k.numbers.interval i) ks
unfolding messages_in of_interval
of_messages i ks =
    is_count_by (λ (l : List Buffered). of_interval i (map as_message l)) (λ (k : Buffered). eqb k.numbers.interval i) refl (λ k l. either (eqb k.numbers.interval i) (of_interval i (map as_message l))) ks
  where
    either : (b : Bool) (n : ℕ) → cond b (suc n) n ≡ cond b (1 + n) n
    either true n = omega arith
    either false n = refl

pub of_none : (i : ℕ) → of_interval i [] ≡ 0
unfolding of_interval
of_none i = refl

pub of_push : (i : ℕ) (ys : List Message) (y : Message) → of_interval i (ys ++ y ∷ []) ≡ of_interval i ys + cond (eqb y.says.interval i) 1 0
unfolding of_interval
of_push i [] y = elim (eqb y.says.interval i) as (λ b. cond b 1 0 ≡ 0 + cond b 1 0) [ true ↦ refl | false ↦ refl ]
of_push i (z ∷ ys) y =
    let e = of_push i ys y in
    elim (eqb z.says.interval i) as (λ b. cond b (suc (of_interval i (ys ++ y ∷ []))) (of_interval i (ys ++ y ∷ [])) ≡ cond b (suc (of_interval i ys)) (of_interval i ys) + cond (eqb y.says.interval i) 1 0)
    [ true ↦ omega arith | false ↦ omega arith ]

-- what a loop that forgets leaves
pub still_kept : (j : ℕ) (ks : List Buffered) → messages_in (filter (λ (w : Buffered). ltb j w.numbers.interval) ks) ≡ later_than j (messages_in ks)
unfolding messages_in later_than
still_kept j [] = refl
still_kept j (k ∷ ks) =
    let e = still_kept j ks in
    cond_both (ltb j k.numbers.interval) (k ∷ filter (λ (w : Buffered). ltb j w.numbers.interval) ks) (filter (λ (w : Buffered). ltb j w.numbers.interval) ks)
    (λ (l : List Buffered). map as_message l ≡ cond (leb k.numbers.interval j) (later_than j (map as_message ks)) (as_message k ∷ later_than j (map as_message ks)))
    (λ h. rw (cond-false (leb k.numbers.interval j) (later_than j (map as_message ks)) (as_message k ∷ later_than j (map as_message ks)) (lt-leb k.numbers.interval j (ltb-true j k.numbers.interval h))) (ap (λ (l : List Message). as_message k ∷ l) e))
    (λ h. rw (cond-true (leb k.numbers.interval j) (later_than j (map as_message ks)) (as_message k ∷ later_than j (map as_message ks)) (le-leb k.numbers.interval j (ltb-false j k.numbers.interval h))) e)

pub count_is : (b : Buffer) → length (messages_of b) ≡ b.len
count_is b = let l = messages_length (take b.len b.messages) in let t = length-take-le b.len b.messages (omega (arith, b.few, b.sized)) in l ∙ t
