use Rattle.std.proofs.Common.{◌≡◌, ◌-◌, ◌*◌, min, ap, ◌∙◌, arith, rules}
use Rattle.std.proofs.lemmas.List.{length-set}
use Rattle.segments.specs.Parts.{key_at, top_of, EndsAre}
use Rattle.segments.proofs.Keys.{key_from, key_last, ends_more, drawn_in_lem}
use Rattle.segments.proofs.walking.store_ends.Goals as goal

pub loop-number-init : goal.loop-number-init
loop-number-init c = record { long = search rules; here = key_last c.args.parameters.last _ c.args.drawn.bytes (omega arith); stored = λ b le lt. absurd (omega arith) }

pub loop-number-preserved : goal.loop-number-preserved
loop-number-preserved c =
    let last = c.args.parameters.last in
    let drawn = c.args.drawn.bytes in
    let w = c.loop-number.invariant in
    let part = c.loop-number.number - 1 in
    let t : min (128 * c.loop-number.number) last ≡ top_of last part = omega arith in
    let is = w.here ∙ ap (key_at last drawn) t in
    let u : 128 * part ≡ min (128 * part) last = omega arith in
    let down = key_from last (128 * part) (top_of last part) c.size.result drawn c.loop-number.key.bytes (omega arith) (omega arith) is in
    record {
      long = rw length-set w.long;
      here = cc (c.down-key.ensures, down, ap (key_at last drawn) u);
      stored = ends_more last part c.loop-number.number drawn c.loop-number.key c.loop-number.ends (omega arith) (omega arith) is w.stored;
    }

-- the ends by the key that was drawn
stored : (c : goal.After-loop-number) → EndsAre c.args.parameters.last c.args.drawn.bytes c.loop-number.ends
stored c b h = c.loop-number.invariant.stored b (omega arith) h

pub returns-clause-drawn : goal.returns-clause-drawn
returns-clause-drawn c = drawn_in_lem c.args.parameters.last c.args.drawn.bytes c.loop-number.ends (omega arith) (stored c)

pub returns-clause-stored : goal.returns-clause-stored
returns-clause-stored c = rw (drawn_in_lem c.args.parameters.last c.args.drawn.bytes c.loop-number.ends (omega arith) (stored c)) (stored c)
