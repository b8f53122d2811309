-- Messages that were said.
use Rattle.std.proofs.Common.{◌≡◌, ℕ, ◌+◌, ◌-◌, ◌<◌, ◌≤◌, Bool, cond, ◌&&◌, eqb, leb, List, [], ◌∷◌, map, reverse, get_or, length, option_map, refl, ap, arith}
use mathlib.Core.List.{reverse_aux}
use lib.ListN.{length-map}
use Rattle.std.specs.List.{prefix_len, position, take_while}
use Rattle.std.proofs.lemmas.List.{get_or-map, take-map}
use Rattle.buffer.specs.Buffers.{as_said, as_message, messages_in}
use Rattle.model.specs.Receiver.{Message}
use Rattle.buffer.specs.declared.message.Buffered.{Buffered}
use Rattle.stage.specs.Saids.{no_message, said_at, place_of}

pub message_at : (ms : List Buffered) (k : ℕ) (d : Buffered) → k < length ms → get_or (messages_in ms) k no_message ≡ as_message (get_or ms k d)
unfolding messages_in
message_at ms k d h = get_or-map as_message ms k d no_message h

-- lists of what is worked out from others
turned : {A B : Type 0} (f : A → B) (xs ys : List A) → reverse_aux (map f xs) (map f ys) ≡ map f (reverse_aux xs ys)
turned f [] ys = refl
turned f (x ∷ xs) ys = turned f xs (x ∷ ys)

pub reverse-map_lem : {A B : Type 0} (f : A → B) (xs : List A) → reverse (map f xs) ≡ map f (reverse xs)
reverse-map_lem f xs = turned f xs []

pub prefix_len-map : {A B : Type 0} (p : B → Bool) (f : A → B) (xs : List A) → prefix_len p (map f xs) ≡ prefix_len (λ x. p (f x)) xs
prefix_len-map p f [] = refl
prefix_len-map p f (x ∷ xs) = ap (λ n. cond (p (f x)) (1 + n) 0) (prefix_len-map p f xs)

-- the newest of an interval and index
pub place_found : (ms : List Buffered) (i x : ℕ) → place_of (messages_in ms) i x ≡
    option_map (λ back. length ms - back) (position (λ (m : Buffered). eqb m.numbers.interval i && eqb m.numbers.index x) (take_while (λ (m : Buffered). leb i m.numbers.interval) (reverse ms)))
unfolding place_of messages_in
place_found ms i x = simp (reverse-map_lem, prefix_len-map, take-map, length-map)

-- what stands at a place from 1
pub says_at : (ms : List Buffered) (k : ℕ) (d : Buffered) → 0 < k → k ≤ length ms → said_at (messages_in ms) (k - 1) ≡ as_said (get_or ms (k - 1) d)
says_at ms k d h l = ap (λ (m : Message). m.says) (message_at ms (k - 1) d (omega arith))

pub tag_at : (ms : List Buffered) (k : ℕ) (d : Buffered) → 0 < k → k ≤ length ms → (get_or (messages_in ms) (k - 1) no_message).tag ≡ (get_or ms (k - 1) d).tag
tag_at ms k d h l = ap (λ (m : Message). m.tag) (message_at ms (k - 1) d (omega arith))
