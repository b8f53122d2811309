use Rattle.std.proofs.Common.{◌≡◌, ℕ, ◌+◌, ◌-◌, ◌≤◌, ◌++◌, take, sym, ap, ◌∙◌, arith}
use Rattle.std.proofs.lemmas.List.{length-take-le}
use Rattle.sha256.specs.Hmac.{hmac}
use Rattle.model.specs.Receiver.{walked, right_up_to, right_of}
use Rattle.buffer.specs.Buffers.{messages_of, saids_in, saids_of}
use Rattle.buffer.proofs.Lists.{saids_none, messages_length, count_is}
use Rattle.buffer.proofs.Order.{upto_more, upto_few, delivery_none, delivery_more}
use Rattle.keychain.proofs.Chains.{down_none}
use Rattle.buffer.proofs.room.Buffer.deliver.Goals as goal

pub loop-i-init : goal.loop-i-init
loop-i-init c = (
  omega (arith, c.clear.ensures.count),
  omega arith,
  λ k o.
      let e = ap saids_in c.clear.ensures.messages ∙ saids_none in
      let f = delivery_none hmac (walked hmac (c.args.upto - c.args.from) k) (c.args.from - c.args.from) c.args.from (messages_of c.args.self.now) (omega arith) in
      e ∙ sym f,
)

pub loop-i-preserved : goal.loop-i-preserved
loop-i-preserved c =
    let i = c.loop-i.i in
    let ws = messages_of c.args.self.now in
    let u = upto_more i ws in (
      omega (arith, c.deliver_interval-tags.ensures.count, u, c.loop-i.invariant.0),
      omega (arith, c.deliver_interval-tags.ensures.tags, u, c.loop-i.invariant.1),
      λ k o.
          let m = delivery_more hmac k c.args.from i c.args.upto ws (omega arith) (omega arith) in
          let e = c.deliver_interval-tags.ensures.messages (walked hmac (c.args.upto - (i + 1)) k) (λ p d h z. o p d h (omega (arith, z)) (omega (arith, z)) ∙ ap (λ (n : ℕ). walked hmac (c.args.upto - n) k) z) in
          e ∙ ap (λ l. l ++ right_of hmac (walked hmac (c.args.upto - (i + 1)) k) (i + 1) ws) (c.loop-i.invariant.2 k o) ∙ sym m,
    )

pub deliver_interval-tags-requires : goal.deliver_interval-tags-requires
deliver_interval-tags-requires c =
    let b = c.args.self.now in
    let ws = messages_of b in
    let l = messages_length (take b.len b.messages) in
    let t = length-take-le b.len b.messages (omega (arith, b.few, b.sized)) in
    omega (arith, upto_more c.loop-i.i ws, upto_few (c.loop-i.i + 1) ws, c.loop-i.invariant.0, l, t, b.few)

pub returns : goal.returns
returns c = record {
  tags = λ h. let e : c.loop-i.i ≡ c.args.upto = omega (arith, c.loop-i.auto.i-end h) in rw (← e) (omega (arith, c.loop-i.invariant.1));
  messages = λ k h o.
      let e : c.loop-i.i ≡ c.args.upto = omega (arith, c.loop-i.auto.i-end h) in
      let z : c.args.upto - c.args.upto ≡ 0 = omega arith in
      let d = down_none k in
      let i : saids_of c.loop-i.out ≡ right_up_to hmac (walked hmac (c.args.upto - c.args.upto) k) (c.args.upto - c.args.from) c.args.upto (messages_of c.args.self.now) = rw e at (c.loop-i.invariant.2 k o) in
      rw (z, d) at i;
}

pub overflow_add-tags : goal.overflow_add-tags
overflow_add-tags c =
    let b = c.args.self.now in
    let ws = messages_of b in
    let l = count_is b in
    let m : c.loop-i.tags + c.deliver_interval-tags.result ≤ 64 = omega (arith, upto_more c.loop-i.i ws, upto_few (c.loop-i.i + 1) ws, c.loop-i.invariant.1, c.deliver_interval-tags.ensures.tags, l, b.few) in
    omega (arith, m)
