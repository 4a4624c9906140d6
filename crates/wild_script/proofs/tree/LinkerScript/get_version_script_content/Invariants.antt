-- the first is among those that are left
use Rattle.std.proofs.Common.{◌≡◌, drop}
use Rattle.wild_script.specs.Versions.{first_version}
use Rattle.wild_script.proofs.tree.LinkerScript.get_version_script_content.Given as goal

abbrev pub invariant-loop-command : goal.invariant-loop-command
invariant-loop-command l = first_version l.self.commands ≡ first_version (drop l.command-index l.self.commands)
