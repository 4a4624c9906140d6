use Rattle.wild_rules.proofs.Firsts.{lowest_counts, none_counts}
use Rattle.wild_rules.proofs.laws.first_rule_counts.Goals as goal

pub returns-clause-lowest : goal.returns-clause-lowest
returns-clause-lowest c = lowest_counts

pub returns-clause-none : goal.returns-clause-none
returns-clause-none c = none_counts
