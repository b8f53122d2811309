-- Frames, over lists of numbers.
use Rattle.std.specs.Prelude.{◌≡◌, ℕ, ◌/◌, ◌%◌, ◌<◌, cond, List, ◌∷◌, ◌++◌, length, take, drop, Some, None, Ok, Err, Option, Result, nat_le}
use Rattle.timing.specs.declared.refusal.Refusal.{Refusal}
use Rattle.frames.specs.declared.head.Head.{Head}
use Rattle.frames.specs.declared.head.Source.{Source}
use Rattle.frames.specs.Head.{head_answer, source_byte}

pub record Frame : Type 0 where
  pub source : Source
  pub bytes : List ℕ
  pub rest : List ℕ

abbrev pub encoded : Source → List ℕ → List ℕ
encoded s b = source_byte s ∷ (length b / 256) ∷ (length b % 256) ∷ b

-- as many bytes as the head says, and what follows them
abbrev pub frame_by : Result Head Refusal → (behind : List ℕ) → Option Frame
frame_by (Ok h) r = cond (nat_le h.len (length r)) (Some (record { source = h.source; bytes = take h.len r; rest = drop h.len r })) None
frame_by (Err e) r = None

abbrev pub read_frame : List ℕ → Option Frame
read_frame b = cond (nat_le 3 (length b)) (frame_by (head_answer b) (drop 3 b)) None

-- a frame that is written is read back, whatever follows it
abbrev pub WrittenRead : Type 0
WrittenRead = (s : Source) (b r : List ℕ) → length b < 65536 → read_frame (encoded s b ++ r) ≡ Some (record { source = s; bytes = b; rest = r })

-- every proper front of a frame is refused
abbrev pub FrontsRefused : Type 0
FrontsRefused = (s : Source) (b : List ℕ) (n : ℕ) → length b < 65536 → n < length (encoded s b) → read_frame (take n (encoded s b)) ≡ None
