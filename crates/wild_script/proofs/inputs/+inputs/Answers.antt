use Rattle.std.proofs.lemmas.Result.{err_from_is_err_and}
use Rattle.wild_script.proofs.Shown.{group_arguments, needed_arguments, no_arguments, arguments_more, arguments_end, shows_none, shows_on, shows_out}
use Rattle.wild_script.proofs.inputs.+inputs.Goals as goal

pub show_command-returns-in-Group : goal.show_command-returns-in-Group
show_command-returns-in-Group g t c = rw (c.in-Group.is, group_arguments c.in-Group.commands) (rw c.as_slice.ensures at c.show_commands.ensures)

pub show_command-returns-in-AsNeeded : goal.show_command-returns-in-AsNeeded
show_command-returns-in-AsNeeded g t c = rw (c.in-AsNeeded.is, needed_arguments c.in-AsNeeded.commands c.args.modifiers) (rw c.as_slice-in-AsNeeded.ensures at c.show_commands-in-AsNeeded.ensures)

pub show_command-returns-in_default : goal.show_command-returns-in_default
show_command-returns-in_default g t c = rw (no_arguments c.args.command.now c.in_default.not-Arg c.in_default.not-Group c.in_default.not-AsNeeded c.args.modifiers) shows_none

pub show_commands-loop-command-preserved : goal.show_commands-loop-command-preserved
show_commands-loop-command-preserved g t c = λ v end h. c.loop-command.invariant v end
    (rw (arguments_more c.args.commands.now c.loop-command.command-index c.command-item.result c.args.modifiers c.loop-command-test.true c.command-item.is) (shows_on c.in_ok-index.ensures h))

pub show_commands-returns-in_err-index : goal.show_commands-returns-in_err-index
show_commands-returns-in_err-index g t c =
    let p = err_from_is_err_and c.from_residual.result c.from_residual.ensures.1 in
    rw (p.1, p.2) (c.loop-command.invariant _ _
    (rw (arguments_more c.args.commands.now c.loop-command.command-index c.command-item.result c.args.modifiers c.loop-command-test.true c.command-item.is) (shows_out _ c.in_err-index.ensures)))

pub show_commands-returns : goal.show_commands-returns
show_commands-returns g t c = c.loop-command.invariant _ _ (rw (arguments_end c.args.commands.now c.loop-command.command-index c.args.modifiers c.loop-command-test.false) shows_none)
