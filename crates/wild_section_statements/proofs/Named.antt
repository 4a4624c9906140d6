-- A section is read from its name on.
use Rattle.std.proofs.Common.{◌≡◌, ℕ, List, subst}
use Rattle.std.specs.Prelude.{Result}
use Rattle.wild_reading.specs.Position.{Position}
use Rattle.wild_reading.specs.Only.{Answers}
use Rattle.wild_reading.specs.declared.stop.Stop.{Stop}
use Rattle.wild_expression_words.specs.Dialect.{first_grammar}
use Rattle.wild_script_tree.specs.declared.tree.Section.{Section}
use Rattle.wild_section_statements.specs.Section.{named, named_section, section_parts}

pub from_name : {name : List ℕ} {x : Section} {s r : Position} {result : Result Section Stop} → x ≡ named_section name → Answers (section_parts first_grammar x) s r result → Answers (named first_grammar name) s r result
unfolding named
from_name {name} {x} {s} {r} {result} e h = subst (λ (y : Section). Answers (section_parts first_grammar y) s r result) e h
