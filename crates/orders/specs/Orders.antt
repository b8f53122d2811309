-- A line of a play as an order.
use Rattle.std.specs.Prelude.{ℕ, cond, List, [], ◌∷◌, length, Some, None, Ok, Err, vec_items, codes, Option, Result, ◌==◌, nat_le, slice_index}
use Rattle.std.specs.Str.{bytes_eq}
use Rattle.timing.specs.declared.refusal.Refusal.{Refusal}
use Rattle.timing.specs.declared.refusal.Refusal.TheVariants.{Malformed}
use Rattle.script.specs.Text.{words, word_of, rest_of, is_comment, numbers, decimal}
use Rattle.orders.specs.declared.command.Command.{Command}
use Rattle.orders.specs.declared.command.Command.TheVariants as command
use Rattle.orders.specs.declared.command.Whom.{Whom}
use Rattle.orders.specs.declared.command.Whom.TheVariants.{One, All}
use Rattle.orders.specs.declared.keyword.Counted.{Counted}
use Rattle.orders.specs.declared.keyword.Counted.TheVariants as counted
use Rattle.orders.specs.declared.keyword.Worded.{Worded}
use Rattle.orders.specs.declared.keyword.Worded.TheVariants as worded
use Rattle.orders.specs.Hex.{hex_bytes}

-- a command, with lists in the place of the code's vectors
pub data Order : Type 0 where
  play : Order
  settings : (ticks delay error last : ℕ) → Order
  drawn : (key : List ℕ) → Order
  receivers : (count : ℕ) → Order
  time : (tick : ℕ) → Order
  clock : (receiver tick : ℕ) → Order
  clocks : (ticks : List ℕ) → Order
  say : (text : List ℕ) → Order
  bring : (number : ℕ) → (to : Whom) → Order
  bytes : (to : Whom) → (made_up : List ℕ) → Order
  end : Order

abbrev pub meant : Command → Order
meant command.Play = play
meant (command.Settings s) = settings s.ticks s.delay s.error s.last
meant (command.Drawn k) = drawn (vec_items k)
meant (command.Receivers n) = receivers n
meant (command.Time t) = time t
meant (command.Clock r t) = clock r t
meant (command.Clocks ts) = clocks (vec_items ts)
meant (command.Say t) = say (vec_items t)
meant (command.Bring k w) = bring k w
meant (command.Bytes w b) = bytes w (vec_items b)
meant command.End = end

unfoldable pub counted_of : List ℕ → Option Counted
counted_of w =
    cond (bytes_eq w (codes "play")) (Some counted.Play)
    (cond (bytes_eq w (codes "settings")) (Some counted.Settings)
    (cond (bytes_eq w (codes "receivers")) (Some counted.Receivers)
    (cond (bytes_eq w (codes "time")) (Some counted.Time)
    (cond (bytes_eq w (codes "clock")) (Some counted.Clock)
    (cond (bytes_eq w (codes "clocks")) (Some counted.Clocks)
    (cond (bytes_eq w (codes "end")) (Some counted.End)
    None))))))

unfoldable pub worded_of : List ℕ → Option Worded
worded_of w =
    cond (bytes_eq w (codes "drawn")) (Some worded.Drawn)
    (cond (bytes_eq w (codes "say")) (Some worded.Say)
    (cond (bytes_eq w (codes "sayhex")) (Some worded.SayHex)
    (cond (bytes_eq w (codes "bring")) (Some worded.Bring)
    (cond (bytes_eq w (codes "bytes")) (Some worded.Bytes)
    None))))

-- an order that has this many numbers
abbrev pub fields : (count : ℕ) → List ℕ → Order → Result Order Refusal
fields n ns o = cond (length ns == n) (Ok o) (Err Malformed)

abbrev pub counted_order : Counted → (numbers : List ℕ) → Result Order Refusal
counted_order counted.Play ns = fields 0 ns play
counted_order counted.Settings ns = fields 4 ns (settings (slice_index ns 0) (slice_index ns 1) (slice_index ns 2) (slice_index ns 3))
counted_order counted.Receivers ns = fields 1 ns (receivers (slice_index ns 0))
counted_order counted.Time ns = fields 1 ns (time (slice_index ns 0))
counted_order counted.Clock ns = fields 2 ns (clock (slice_index ns 0) (slice_index ns 1))
counted_order counted.Clocks ns = Ok (clocks ns)
counted_order counted.End ns = fields 0 ns end

abbrev pub by_numbers : Counted → Result (List ℕ) Refusal → Result Order Refusal
by_numbers k (Ok ns) = counted_order k ns
by_numbers k (Err e) = Err e

-- the bytes that the only word of a line stands for
abbrev pub hex_word : (words : List (List ℕ)) → Result (List ℕ) Refusal
hex_word [] = Err Malformed
hex_word (w ∷ []) = hex_bytes w
hex_word (w ∷ v ∷ ws) = Err Malformed

abbrev pub one_of : Option ℕ → Option Whom
one_of (Some n) = Some (One n)
one_of None = None

-- a number of a receiver, or `all`
unfoldable pub whom_of : List ℕ → Option Whom
whom_of w = cond (bytes_eq w (codes "all")) (Some All) (one_of (decimal w))

abbrev pub drawn_by : Result (List ℕ) Refusal → Result Order Refusal
drawn_by (Ok k) = cond (length k == 32) (Ok (drawn k)) (Err Malformed)
drawn_by (Err e) = Err e

abbrev pub say_by : Result (List ℕ) Refusal → Result Order Refusal
say_by (Ok t) = cond (nat_le (length t) 200) (Ok (say t)) (Err Malformed)
say_by (Err e) = Err e

abbrev pub bring_by : Option ℕ → Option Whom → Result Order Refusal
bring_by None to = Err Malformed
bring_by (Some k) None = Err Malformed
bring_by (Some k) (Some to) = Ok (bring k to)

abbrev pub bring_of : (words : List (List ℕ)) → Result Order Refusal
bring_of [] = Err Malformed
bring_of (k ∷ []) = Err Malformed
bring_of (k ∷ to ∷ []) = bring_by (decimal k) (whom_of to)
bring_of (k ∷ to ∷ w ∷ ws) = Err Malformed

abbrev pub bytes_by : Option Whom → Result (List ℕ) Refusal → Result Order Refusal
bytes_by None r = Err Malformed
bytes_by (Some to) (Ok b) = Ok (bytes to b)
bytes_by (Some to) (Err e) = Err e

abbrev pub bytes_of : (words : List (List ℕ)) → Result Order Refusal
bytes_of [] = Err Malformed
bytes_of (to ∷ ws) = bytes_by (whom_of to) (hex_word ws)

-- of what stands behind the first word; only a text is taken as it stands
abbrev pub worded_order : Worded → (rest : List ℕ) → Result Order Refusal
worded_order worded.Drawn r = drawn_by (hex_word (words r))
worded_order worded.Say r = say_by (Ok r)
worded_order worded.SayHex r = say_by (hex_word (words r))
worded_order worded.Bring r = bring_of (words r)
worded_order worded.Bytes r = bytes_of (words r)

abbrev pub worded_by : Option Worded → (rest : List ℕ) → Result Order Refusal
worded_by None r = Err Malformed
worded_by (Some k) r = worded_order k r

abbrev pub order_by : Option Counted → Option Worded → (rest : List ℕ) → Result Order Refusal
order_by (Some k) w r = by_numbers k (numbers (words r))
order_by None w r = worded_by w r

abbrev pub some : Result Order Refusal → Result (Option Order) Refusal
some (Ok o) = Ok (Some o)
some (Err e) = Err e

abbrev pub line_by : (word : Option (List ℕ)) → (rest : List ℕ) → Result (Option Order) Refusal
line_by None r = Ok None
line_by (Some w) r = cond (is_comment w) (Ok None) (some (order_by (counted_of w) (worded_of w) r))

-- an empty line and a comment are no order
abbrev pub line_of : List ℕ → Result (Option Order) Refusal
line_of line = line_by (word_of line) (rest_of line)
