use Rattle.sha256.proofs.Steps.{padded_length, padding-exact}
use Rattle.sha256.proofs.Keys.{digest_length, key_length, hmac_length}
use Rattle.sha256.proofs.laws_hold.Goals as goal

pub returns : goal.returns
returns c =
    record { whole = padded_length; exact = padding-exact; digest_length = digest_length; key_length = key_length; hmac_length = hmac_length }
