-- from here on the walk ends as from the start
use Rattle.std.proofs.Common.{drop}
use Rattle.wild_script.specs.Inputs.{End, Shows, arguments}
use Rattle.wild_script.proofs.inputs.+inputs.Given as goal

abbrev pub invariant-show_commands-loop-command : goal.invariant-show_commands-loop-command
invariant-show_commands-loop-command g l =
    (v : g.row.V.Denot) (end : End) → Shows g.V.InputVisitor.step l.index l.visitor (arguments (drop l.command-index l.commands) l.modifiers) v end
    → Shows g.V.InputVisitor.step l.fn.first l.fn.visitor (arguments l.fn.commands l.fn.modifiers) v end
