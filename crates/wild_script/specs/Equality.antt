-- Which scripts are equal.
use Rattle.std.specs.Prelude.{Bool}
use Rattle.std.specs.Cmp.{IsEquivalence, on_equiv}
use Rattle.std.specs.Ordering.{on}
use Rattle.wild_script_tree.specs.Equality.{same_commands, same_commands_equiv}
use Rattle.wild_script.specs.declared.tree.LinkerScript.{LinkerScript}

-- scripts whose commands are equal
abbrev pub same_script : LinkerScript → LinkerScript → Bool
same_script = on (λ s. s.commands) same_commands

-- ---- laws

pub same_script_equiv : IsEquivalence same_script
same_script_equiv = on_equiv (λ (s : LinkerScript). s.commands) same_commands_equiv
