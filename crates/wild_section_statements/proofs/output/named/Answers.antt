use Rattle.wild_section_statements.proofs.Named.{from_name}
use Rattle.wild_section_statements.proofs.output.named.Goals as goal

pub returns : goal.returns
returns c = from_name c.in_ok-section.ensures c.section_parts.ensures
