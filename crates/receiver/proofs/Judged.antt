-- What a message that is buffered, and a key that is taken, tell of the state.
use Rattle.std.proofs.Common.{◌≡◌, Bool, true, false, cond, not, ◌&&◌, leb, ltb, List, [], ◌∷◌, ◌++◌, length, sym, refl, ap, ◌∙◌}
use Rattle.std.proofs.lemmas.Bool.{false≢true, not-false, cond-true, and_parts}
use Rattle.timing.specs.Time.{Params, may_be_out, too_early}
use Rattle.buffer.specs.Buffers.{messages_of}
use Rattle.buffer.proofs.Lists.{count_is}
use Rattle.receiver.specs.State.{params_of, state_of}
use Rattle.receiver.specs.declared.state.Receiver.{Receiver}
use Rattle.timing.specs.declared.refusal.Refusal.TheVariants as refusal
use Rattle.model.specs.Receiver.{Message, Outcome, buffered, already, refused, State, in_chain, is_in, has_room, judge, is_buffered}

past : (b : Bool) (a x : Outcome) → is_buffered a ≡ false → cond b a x ≡ buffered → (b ≡ false) × (x ≡ buffered)
past true a x n h = absurd (false≢true (sym n ∙ ap is_buffered h))
past false a x n h = (refl, h)

pub buffered_room : (p : Params) (s : State) (x : Message) → judge p s x ≡ buffered → has_room s.buffer x.says.interval ≡ true
buffered_room p s x h =
    let i = x.says.interval in
    let a = (past (not (in_chain p i && leb x.says.index 63)) (refused refusal.OutOfRange) _ refl h).1 in
    let b = (past (is_in x s.buffer) already _ refl a).1 in
    let c = (past (may_be_out p s.clock i) (refused refusal.TooLate) _ refl b).1 in
    let d = (past (leb i s.newest) (refused refusal.KeyHad) _ refl c).1 in
    let f = (past (too_early p s.clock i) (refused refusal.TooEarly) _ refl d).1 in
    not-false _ (past (not (has_room s.buffer i)) (refused refusal.NoRoom) buffered refl f).0

-- a buffer into which one more was pushed, where the message is to be buffered
pub buffered_after : (r : Receiver) (x : Message) (l : List Message) → judge (params_of r) (state_of r) x ≡ buffered
    → l ≡ cond (ltb r.buffer.len 64) (messages_of r.buffer ++ x ∷ []) (messages_of r.buffer) → l ≡ messages_of r.buffer ++ x ∷ []
buffered_after r x l h q =
    let n = count_is r.buffer in
    let a : ltb (length (messages_of r.buffer)) 64 ≡ true = (and_parts _ _ (buffered_room (params_of r) (state_of r) x h)).0 in
    let t : ltb r.buffer.len 64 ≡ true = rw n at a in
    q ∙ cond-true _ _ _ t
