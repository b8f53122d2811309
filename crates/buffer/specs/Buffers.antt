-- What a buffer stands for: messages of the model, in the order in which they came.
use Rattle.std.specs.Prelude.{◌≡◌, ℕ, suc, ◌-◌, ◌<◌, ◌≤◌, Bool, cond, ◌&&◌, List, [], ◌∷◌, map, length, take, ◌==◌, nat_le, slice_index_or}
use Rattle.model.specs.Receiver.{Message, Said, walked}
use Rattle.sha256.specs.Hmac.{hmac}
use Rattle.keychain.specs.declared.key.Key.{Key}
use Rattle.keychain.specs.Chain.{absent_key}
use Rattle.buffer.specs.declared.message.Buffered.{Buffered}
use Rattle.buffer.specs.declared.room.Buffer.{Buffer}

abbrev pub as_said : Buffered → Said
as_said k = record { interval = k.numbers.interval; index = k.numbers.index; text = take k.numbers.len k.text }

abbrev pub as_message : Buffered → Message
as_message k = record { says = as_said k; tag = k.tag }

-- a message by what it says and its tag
abbrev pub with_tag : Said → (tag : List ℕ) → Message
with_tag s t = record { says = s; tag = t }

-- a message by its parts
abbrev pub message_by : (interval index : ℕ) → (text tag : List ℕ) → Message
message_by i n t g = record { says = record { interval = i; index = n; text = t }; tag = g }

-- a text and a tag that a buffered message can have
abbrev pub fits_buffer : (text tag : List ℕ) → Bool
fits_buffer t g = nat_le (length t) 200 && length g == 16

unfoldable pub messages_in : List Buffered → List Message
messages_in ks = map as_message ks

abbrev pub messages_of : Buffer → List Message
messages_of b = messages_in (take b.len b.messages)

unfoldable pub saids_in : List Message → List Said
saids_in ws = map (λ (w : Message). w.says) ws

abbrev pub saids_of : Buffer → List Said
saids_of b = saids_in (messages_of b)

-- the place of each buffered message of interval i has the key k
abbrev pub OneKey : ℕ → List ℕ → Buffer → List Key → Type 0
OneKey i k b keys = (p : ℕ) (d : Buffered) → p < b.len → (slice_index_or b.messages p d).numbers.interval ≡ i → (slice_index_or keys p absent_key).bytes ≡ k

-- the place of each buffered message of an interval after m, up to j, whose key is k, has the key of its interval
abbrev pub KeysOf : (m j : ℕ) → List ℕ → Buffer → List Key → Type 0
KeysOf m j k b keys = (p : ℕ) (d : Buffered) → p < b.len → m < (slice_index_or b.messages p d).numbers.interval → (slice_index_or b.messages p d).numbers.interval ≤ j → (slice_index_or keys p absent_key).bytes ≡ walked hmac (j - (slice_index_or b.messages p d).numbers.interval) k

-- how many are of an interval up to i
unfoldable pub up_to : ℕ → List Message → ℕ
up_to i [] = 0
up_to i (x ∷ xs) = cond (nat_le x.says.interval i) (suc (up_to i xs)) (up_to i xs)
