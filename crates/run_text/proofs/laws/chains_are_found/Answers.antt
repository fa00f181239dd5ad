use Rattle.run_text.proofs.Chains.{chain_found}
use Rattle.run_text.proofs.laws.chains_are_found.Goals as goal

pub returns : goal.returns
returns c = chain_found
