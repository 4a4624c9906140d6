use Rattle.std.proofs.Common.{rules, sym, ◌∙◌}
use Rattle.wild_script.proofs.FirstVersion.{version_here, version_later, no_version}
use Rattle.wild_script.proofs.tree.LinkerScript.get_version_script_content.Goals as goal

pub returns-then-is_some : goal.returns-then-is_some
returns-then-is_some c =
    sym (c.loop-command.invariant ∙ version_here c.args.self.now.commands c.loop-command.command-index c.command-item.result (search rules) (search rules) c.version_content-content.result c.version_content-content.ensures (search rules))

pub loop-command-preserved : goal.loop-command-preserved
loop-command-preserved c =
    c.loop-command.invariant ∙ version_later c.args.self.now.commands c.loop-command.command-index c.command-item.result (search rules) (search rules) c.version_content-content.result c.version_content-content.ensures (search rules)

pub returns : goal.returns
returns c = sym (c.loop-command.invariant ∙ no_version c.args.self.now.commands c.loop-command.command-index (search rules))
