use Rattle.std.proofs.Common.{rules}
use Rattle.wild_patterns.proofs.Sorts.{nested_answers}
use Rattle.wild_patterns.proofs.pattern.sort_open.Goals as goal

pub returns-then-nested-clause-read : goal.returns-then-nested-clause-read
returns-then-nested-clause-read c = nested_answers c.in_ok-sort_bracket.ensures.read.ok (search rules) (search rules) (search rules)
