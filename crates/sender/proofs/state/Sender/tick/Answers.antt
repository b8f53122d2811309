use Rattle.std.proofs.Common.{◌≡◌, true, Ok, sym, ap, ◌∙◌, arith}
use Rattle.sender.specs.Of.{state_of}
use Rattle.sender.specs.State.{advanced, due, alone, told_alone, key_of, shown_key, tick_bytes}
use Rattle.sender.proofs.Ticks.{at_due}
use Rattle.sender.proofs.Held.{alone_held, alone_sent}
use Rattle.sender.proofs.state.Sender.tick.Goals as goal

pub returns : goal.returns
returns c =
    let s = state_of c.args.self.now in
    let t = c.args.t in
    let u = state_of c.advance.new.self in
    let v = c.turn_alone-interval.new.self in
    let j = c.turn_alone-interval.result in
    let a = c.turn_alone-interval.ensures in
    let e = c.advance.ensures.after in
    let d : due (advanced s t) ≡ true = ap due (sym e) ∙ (sym c.is_due.ensures ∙ c.if-not-is_due.false) in
    let b = at_due s t (omega arith) d in
    let f = a.after ∙ ap told_alone e in
    let held = λ (some : j ≡ 0 → ⊥). alone_held v.chain v.clock j u v.there (ap (λ w. w.numbers) a.after) (ap (λ w. w.clock) a.after) some a.told in
    record {
      after = f ∙ sym b.0;
      told = ap (λ x. Ok x) c.sent_alone.ensures ∙ (alone_sent v.chain s j held (ap (λ w. key_of w j) f) ∙ sym (ap tick_bytes (b.1 ∙ ap (shown_key s) (sym (a.told ∙ ap alone e)))));
    }
