-- A message and then the key behind it.
use Rattle.std.proofs.Common.{◌≡◌, ℕ, true, cond, List, length, Some, Result, ap, ◌∙◌}
use Rattle.std.proofs.lemmas.Bool.{le-leb, eq-eqb, and_from}
use Rattle.timing.specs.Time.{Params, parameters_of}
use Rattle.timing.specs.declared.parameters.Parameters.{Parameters}
use Rattle.timing.specs.declared.refusal.Refusal.{Refusal}
use Rattle.sha256.specs.Hmac.{hmac}
use Rattle.model.specs.Receiver.{Said, Message, State, heard, disclosed, judge, hears, learns, delivers, in_chain, walk_steps, key_steps}
use Rattle.model.proofs.Always.{hears_newest}
use Rattle.wire.specs.Fits.{PacketFits}
use Rattle.wire.specs.Formats.{Packet}
use Rattle.buffer.specs.Buffers.{fits_buffer}
use Rattle.receiver.specs.declared.calls.Answer.{Answer}
use Rattle.receiver.specs.declared.outcome.Accepted.{Accepted}
use Rattle.receiver.specs.declared.state.Receiver.{Receiver}
use Rattle.receiver.specs.State.{meant, params_of, state_of}
use Rattle.receiver.specs.Heard.{Became, Heard}

-- what was read can be buffered
pub fits : (x : Packet) → PacketFits x → fits_buffer x.message.says.text x.message.tag ≡ true
fits x f = and_from _ _ (le-leb (length x.message.says.text) 200 f.says.text) (eq-eqb (length x.message.tag) 16 f.tag)

-- the key is heard by the receiver that the message left
pub both_heard : (x : Message) (j : ℕ) (k : List ℕ) (r r' r'' : Receiver) (o : Result Accepted Refusal) (a : Answer) (out : List Said)
    → Became r r' (hears (params_of r) x (state_of r)) → meant o ≡ judge (params_of r) (state_of r) x → Heard (Some (disclosed j k)) r' r'' a out
    → Heard (Some (heard x j k)) r r'' (record { outcome = o; steps = a.steps; tags = a.tags }) out
both_heard x j k r r' r'' o a out b f h = record {
  parameters = h.parameters ∙ b.parameters;
  state = h.state ∙ along {A = State} (λ p s. learns p hmac j k s);
  outcome = f;
  delivered = h.delivered ∙ along {A = List Said} (λ p s. delivers p hmac j k s);
  work = record {
    steps_are = h.work.steps_are ∙ along {A = ℕ} (λ p s. key_steps p j s) ∙ ap (λ (m : ℕ). cond (in_chain (params_of r) j) (walk_steps j m) 0) (hears_newest (params_of r) x (state_of r));
    few_steps = h.work.few_steps;
    few_tags = h.work.few_tags;
  };
}
  where
    along : {A : Type 0} (g : Params → State → A) → g (params_of r') (state_of r') ≡ g (params_of r) (hears (params_of r) x (state_of r))
    along g = ap (λ (z : Parameters). g (parameters_of z) (state_of r')) b.parameters ∙ ap (λ (s : State). g (params_of r) s) b.state
