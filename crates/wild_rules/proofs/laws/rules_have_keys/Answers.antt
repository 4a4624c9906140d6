use Rattle.wild_rules.proofs.Keys.{takes_by_key}
use Rattle.wild_rules.proofs.laws.rules_have_keys.Goals as goal

pub returns : goal.returns
returns c = takes_by_key
