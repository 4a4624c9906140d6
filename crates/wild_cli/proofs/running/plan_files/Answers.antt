use Rattle.wild_cli.proofs.Endings.{planned}
use Rattle.wild_cli.proofs.running.plan_files.Goals as goal

pub returns : goal.returns
returns g c =
    let second = rw c.load.ensures.held at c.in_ok-table.ensures.content in
    planned (g.F.Files.held c.args.files.now) c.args.script c.args.table c.args.options.now _ c.in_ok-script.script.items c.in_ok-table.table.items c.in_ok-inputs.inputs c.text_of.result
    c.in_ok-script.ensures.content second (rw c.deref.ensures.value at c.in_ok-inputs.ensures) (rw c.deref-2.ensures.value at c.text_of.ensures)
