-- What a call leaves and answers, by the event that its bytes are, if they are one.
use Rattle.std.specs.Prelude.{◌≡◌, List, Result, Option}
use Rattle.timing.specs.declared.refusal.Refusal.{Refusal}
use Rattle.model.specs.Receiver.{Said, Event, State}
use Rattle.receiver.specs.declared.calls.Answer.{Answer}
use Rattle.receiver.specs.declared.outcome.Accepted.{Accepted}
use Rattle.receiver.specs.declared.state.Receiver.{Receiver}
use Rattle.receiver.specs.State.{meant, params_of, state_of, Work}
use Rattle.receiver.specs.Calls.{state_by, outcome_by, delivered_by, steps_by}

-- the receiver has the parameters that it had, and this state
pub record Became (was is : Receiver) (s : State) : Type 0 where
  pub parameters : is.parameters ≡ was.parameters
  pub state : state_of is ≡ s

-- at its own clock
pub record Ticked (e : Option Event) (was is : Receiver) (o : Result Accepted Refusal) : Type 0 where
  pub parameters : is.parameters ≡ was.parameters
  pub state : state_of is ≡ state_by (params_of was) e (state_of was)
  pub outcome : meant o ≡ outcome_by (params_of was) e (state_of was)

-- from the air, with what is delivered
pub record Heard (e : Option Event) (was is : Receiver) (a : Answer) (out : List Said) : Type 0 where
  pub parameters : is.parameters ≡ was.parameters
  pub state : state_of is ≡ state_by (params_of was) e (state_of was)
  pub outcome : meant a.outcome ≡ outcome_by (params_of was) e (state_of was)
  pub delivered : out ≡ delivered_by (params_of was) e (state_of was)
  pub work : Work a.steps a.tags (steps_by (params_of was) e (state_of was))
