use Rattle.keychain.proofs.Chains.{chain_terms}
use Rattle.keychain.proofs.terms_stand.Goals as goal

pub returns : goal.returns
returns c = chain_terms
