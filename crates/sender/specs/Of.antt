-- The state that a sender stands for.
use Rattle.timing.specs.Time.{parameters_of}
use Rattle.segments.specs.Held.{drawn_of}
use Rattle.sender.specs.declared.state.Sender.{Sender}
use Rattle.sender.specs.State.{State}

abbrev pub state_of : Sender → State
state_of s = record {
  numbers = parameters_of s.chain.parameters;
  drawn = drawn_of s.chain;
  clock = s.clock;
  index = s.index;
  told_in = s.told_in;
  turn = s.turn;
}
