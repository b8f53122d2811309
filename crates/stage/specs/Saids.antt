-- Which message that was said something is.
use Rattle.std.specs.Prelude.{ℕ, ◌-◌, cond, ◌&&◌, List, [], reverse, length, Some, None, Option, ◌==◌, nat_le, slice_index_or, option_map, position, take_while}
use Rattle.std.specs.Str.{bytes_eq}
use Rattle.model.specs.Receiver.{Said, Message, Event, ticked, heard, disclosed}

-- what is read past the end of a list of messages
abbrev pub no_message : Message
no_message = record { says = record { interval = 0; index = 0; text = [] }; tag = [] }

abbrev pub said_at : List Message → (place : ℕ) → Said
said_at ms k = (slice_index_or ms k no_message).says

-- the place, from 1, of the newest message of this interval and index: from the newest back, and no further than its interval
unfoldable pub place_of : List Message → (interval index : ℕ) → Option ℕ
place_of ms i x =
    option_map (λ back. length ms - back)
    (position (λ (m : Message). m.says.interval == i && m.says.index == x) (take_while (λ (m : Message). nat_le i m.says.interval) (reverse ms)))

-- the same place if the text there is this one
abbrev pub with_text : List Message → (text : List ℕ) → Option ℕ → Option ℕ
with_text ms t None = None
with_text ms t (Some k) = cond (bytes_eq (said_at ms (k - 1)).text t) (Some k) None

-- the place, from 1, of what was said just so
abbrev pub which_said : List Message → Said → Option ℕ
which_said ms s = with_text ms s.text (place_of ms s.interval s.index)

-- the same place if the tag there is this one
abbrev pub with_tag : List Message → (tag : List ℕ) → Option ℕ → Option ℕ
with_tag ms t None = None
with_tag ms t (Some k) = cond (bytes_eq (slice_index_or ms (k - 1) no_message).tag t) (Some k) None

-- the place, from 1, of the message that something brought is
abbrev pub which_message : List Message → Option Event → Option ℕ
which_message ms None = None
which_message ms (Some (ticked t)) = None
which_message ms (Some (heard x j k)) = with_tag ms x.tag (which_said ms x.says)
which_message ms (Some (disclosed j k)) = None
