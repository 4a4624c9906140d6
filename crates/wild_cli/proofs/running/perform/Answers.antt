use Rattle.wild_cli.proofs.Endings.{tells, left_alone}
use Rattle.wild_cli.specs.declared.refusal.Refusal.TheVariants.{NoMemory}
use Rattle.wild_cli.proofs.running.perform.Goals as goal

pub returns-in-Ok : goal.returns-in-Ok
returns-in-Ok g c =
    let put = rw c.in-Err-NoMemory.field-0-is at c.in-Err-NoMemory.ensures.got in
    tells _ _ _ _ _ NoMemory _ tt put c.tell.ensures

pub returns : goal.returns
returns g c = tells _ _ _ _ _ c.in-Err.refusal _ c.in-Err.ensures (left_alone (g.O.Sink.got c.args.out.now)) c.tell-in-Err.ensures
