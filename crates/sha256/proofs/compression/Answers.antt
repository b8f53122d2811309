use Rattle.std.proofs.Common.{◌≡◌, refl, arith}
use Rattle.sha256.specs.Sha256.{rounds, expanded, compress}
use Rattle.sha256.proofs.compression.Goals as goal

pub loop-v-init : goal.loop-v-init
unfolding rounds expanded
loop-v-init c = record { at_most = omega arith; whole = refl; stands = record { hash_is = refl; window_is = c.block_words.ensures } }

pub returns : goal.returns
unfolding compress
returns c =
    let e : c.four_turns-last.result.round ≡ 64 = omega arith in
    let a2 = c.four_turns-2.ensures.at _ _ c.loop-v.invariant.stands in
    let a = c.four_turns-last.ensures.at _ _ (c.four_turns-4.ensures.at _ _ (c.four_turns-3.ensures.at _ _ a2)) in
    let h = rw e at a.hash_is in
    cc
