use Rattle.std.proofs.Common.{refl}
use Rattle.sha256.specs.Sha256.{constants, initial_hash, words, next_word, expanded, schedule, step, rounds, sums, compress, absorb, padding, state_bytes, digest}
use Rattle.sha256.specs.Hmac.{key_block, xor_pad, hmac}
use Rattle.sha256.proofs.vectors_hold.Goals as goal

pub returns : goal.returns
unfolding constants initial_hash words next_word expanded schedule step rounds sums compress absorb padding state_bytes digest key_block xor_pad hmac
returns c = record { abc = refl; jefe = refl; two_blocks = refl; long_key = refl }
