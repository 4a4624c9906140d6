use Rattle.wild_fates.proofs.Patterns.{passes_made, refuses_bad}
use Rattle.wild_fates.proofs.rules.pattern_rule.Goals as goal

pub returns-in-Ok-clause-passes : goal.returns-in-Ok-clause-passes
returns-in-Ok-clause-passes c =
    passes_made c.args.statement c.args.pattern.now _ c.args.matcher.now.input_file_pattern _ c.in-Ok.rule (rw (c.bytes.ensures, c.file_bytes.ensures) at c.in-Ok.ensures)

pub returns-in-Err-clause-passes : goal.returns-in-Err-clause-passes
returns-in-Err-clause-passes c =
    refuses_bad c.args.statement c.args.pattern.now _ c.args.matcher.now.input_file_pattern c.in-Err.reason c.fault_of.result (rw (c.bytes.ensures, c.file_bytes.ensures) at c.in-Err.ensures) c.fault_of.ensures.bad c.fault_of.ensures.memory
