-- The words of a line as an order.
use Rattle.std.specs.Prelude.{ℕ, cond, List, [], ◌∷◌, length, Some, None, Ok, Err, vec_items, codes, Option, Result, ◌==◌, slice_index}
use Rattle.std.specs.Str.{bytes_eq}
use Rattle.timing.specs.declared.refusal.Refusal.{Refusal}
use Rattle.timing.specs.declared.refusal.Refusal.TheVariants.{Malformed}
use Rattle.script.specs.declared.command.Command.{Command}
use Rattle.script.specs.declared.command.Command.TheVariants as command
use Rattle.script.specs.declared.keyword.Keyword.{Keyword}
use Rattle.script.specs.declared.keyword.Keyword.TheVariants as keyword
use Rattle.script.specs.Text.{is_comment, numbers}

-- a command, with lists in the place of the code's vectors
pub data Order : Type 0 where
  settings : (ticks delay error last : ℕ) → Order
  receivers : (count : ℕ) → Order
  clocks : (ticks : List ℕ) → Order
  clock : (receiver tick : ℕ) → Order
  message : (interval : ℕ) → Order
  end : Order

abbrev pub meant : Command → Order
meant (command.Settings s) = settings s.ticks s.delay s.error s.last
meant (command.Receivers n) = receivers n
meant (command.Clocks ts) = clocks (vec_items ts)
meant (command.Clock r t) = clock r t
meant (command.Message i) = message i
meant command.End = end

unfoldable pub keyword_of : List ℕ → Option Keyword
keyword_of w =
    cond (bytes_eq w (codes "settings")) (Some keyword.Settings)
    (cond (bytes_eq w (codes "receivers")) (Some keyword.Receivers)
    (cond (bytes_eq w (codes "clocks")) (Some keyword.Clocks)
    (cond (bytes_eq w (codes "clock")) (Some keyword.Clock)
    (cond (bytes_eq w (codes "message")) (Some keyword.Message)
    (cond (bytes_eq w (codes "end")) (Some keyword.End)
    None)))))

-- an order that has this many fields
abbrev pub fields : (count : ℕ) → List ℕ → Order → Result Order Refusal
fields n ns o = cond (length ns == n) (Ok o) (Err Malformed)

abbrev pub order_of : Keyword → (numbers : List ℕ) → Result Order Refusal
order_of keyword.Settings ns = fields 4 ns (settings (slice_index ns 0) (slice_index ns 1) (slice_index ns 2) (slice_index ns 3))
order_of keyword.Receivers ns = fields 1 ns (receivers (slice_index ns 0))
order_of keyword.Clocks ns = Ok (clocks ns)
order_of keyword.Clock ns = fields 2 ns (clock (slice_index ns 0) (slice_index ns 1))
order_of keyword.Message ns = fields 1 ns (message (slice_index ns 0))
order_of keyword.End ns = fields 0 ns end

abbrev pub command_of : Option Keyword → (numbers : Result (List ℕ) Refusal) → Result Order Refusal
command_of None ns = Err Malformed
command_of (Some k) (Err e) = Err e
command_of (Some k) (Ok ns) = order_of k ns

abbrev pub some : Result Order Refusal → Result (Option Order) Refusal
some (Ok o) = Ok (Some o)
some (Err e) = Err e

-- an empty line and a comment are no order
abbrev pub line_of : (words : List (List ℕ)) → Result (Option Order) Refusal
line_of [] = Ok None
line_of (w ∷ ws) = cond (is_comment w) (Ok None) (some (command_of (keyword_of w) (numbers ws)))
