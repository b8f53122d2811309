use Rattle.std.proofs.Common.{◌≡◌, ℕ, ◌<◌, ◌≤◌, length, take, sym, ap, ◌∙◌, arith}
use Rattle.std.proofs.lemmas.Bool.{lt-ltb, cond-true}
use Rattle.std.specs.Slice.Iter.{iter_rest}
use Rattle.std.specs.Iterator.Adapters.{zip_first, zip_second}
use Rattle.model.specs.Receiver.{of_interval}
use Rattle.buffer.specs.Buffers.{messages_of}
use Rattle.buffer.proofs.Order.{of_take}
use Rattle.buffer.proofs.Part.{part_none, part_other, part_room, part_wrong, part_right, turned, all_met}
use Rattle.buffer.proofs.deliver_interval.Goals as goal

pub loop-m-init : goal.loop-m-init
loop-m-init c = part_none c.args.interval c.args.buffer.now c.args.keys.now c.args.out.now

pub loop-m-preserved : goal.loop-m-preserved
loop-m-preserved c =
    let s = c.into_iter-m-iterator.result in
    let first : iter_rest (zip_first s) ≡ take c.args.buffer.now.len c.args.buffer.now.messages = cc in
    let second : iter_rest (zip_second s) ≡ c.args.keys.now = ap (λ z. iter_rest (zip_second z)) c.into_iter-m-iterator.ensures.into_iter_gives ∙ c.zip-m-items.ensures.second.0 in
    let t = turned c.args.buffer.now c.args.keys.now c.loop-m.yielded s c.loop-m.m-iterator c.next.new.self c.next.result first second c.loop-m.yielded_by (c.in-Some.m, c.in-Some.key) c.in-Some.is c.next.ensures.steps in
    part_other _ t.more c.loop-m.invariant c.if-m-interval.false

pub loop-m-preserved-else-is_right : goal.loop-m-preserved-else-is_right
loop-m-preserved-else-is_right c =
    let s = c.into_iter-m-iterator.result in
    let first : iter_rest (zip_first s) ≡ take c.args.buffer.now.len c.args.buffer.now.messages = cc in
    let second : iter_rest (zip_second s) ≡ c.args.keys.now = ap (λ z. iter_rest (zip_second z)) c.into_iter-m-iterator.ensures.into_iter_gives ∙ c.zip-m-items.ensures.second.0 in
    let t = turned c.args.buffer.now c.args.keys.now c.loop-m.yielded s c.loop-m.m-iterator c.next.new.self c.next.result first second c.loop-m.yielded_by (c.in-Some.m, c.in-Some.key) c.in-Some.is c.next.ensures.steps in
    part_wrong _ t.more c.loop-m.invariant c.in-Some.key.now.bytes (λ k. t.of_place c.args.interval k c.if-m-interval.true) c.if-m-interval.true (sym c.is_right.ensures ∙ c.if-is_right.false)

pub loop-m-preserved-then-is_right : goal.loop-m-preserved-then-is_right
loop-m-preserved-then-is_right c =
    let s = c.into_iter-m-iterator.result in
    let first : iter_rest (zip_first s) ≡ take c.args.buffer.now.len c.args.buffer.now.messages = cc in
    let second : iter_rest (zip_second s) ≡ c.args.keys.now = ap (λ z. iter_rest (zip_second z)) c.into_iter-m-iterator.ensures.into_iter_gives ∙ c.zip-m-items.ensures.second.0 in
    let t = turned c.args.buffer.now c.args.keys.now c.loop-m.yielded s c.loop-m.m-iterator c.next.new.self c.next.result first second c.loop-m.yielded_by (c.in-Some.m, c.in-Some.key) c.in-Some.is c.next.ensures.steps in
    let ws = messages_of c.args.buffer.now in
    let room : c.loop-m.out.len < 64 = part_room _ t.more c.loop-m.invariant (of_interval c.args.interval ws) c.if-m-interval.true (of_take c.args.interval _ ws) c.requires in
    let l = lt-ltb c.loop-m.out.len 64 room in
    part_right _ t.more c.loop-m.invariant c.in-Some.key.now.bytes (λ k. t.of_place c.args.interval k c.if-m-interval.true) c.if-m-interval.true c.push.new.self
    (c.push.ensures.count ∙ cond-true {A = ℕ} _ _ _ l)
    (c.push.ensures.messages ∙ cond-true _ _ _ l)
    (sym c.is_right.ensures ∙ c.if-is_right.true)

pub overflow_add-tags : goal.overflow_add-tags
overflow_add-tags c =
    let m : c.loop-m.tags ≤ 64 = omega (arith, of_take c.args.interval (length c.loop-m.yielded) (messages_of c.args.buffer.now), c.requires, c.loop-m.invariant.tags_are) in
    omega (arith, m)

pub returns : goal.returns
returns c =
    let s = c.into_iter-m-iterator.result in
    let first : iter_rest (zip_first s) ≡ take c.args.buffer.now.len c.args.buffer.now.messages = cc in
    let second : iter_rest (zip_second s) ≡ c.args.keys.now = ap (λ z. iter_rest (zip_second z)) c.into_iter-m-iterator.ensures.into_iter_gives ∙ c.zip-m-items.ensures.second.0 in
    let all = all_met c.args.buffer.now c.args.keys.now c.loop-m.yielded s c.loop-m.m-iterator c.next.new.self c.next.result first second c.loop-m.yielded_by c.told-keys c.in-None.is c.next.ensures.steps in
    let p = c.loop-m.invariant in
    record { count = rw all at p.count; tags = rw all at p.tags_are; messages = λ k o. rw all at (p.saids_are k o) }
