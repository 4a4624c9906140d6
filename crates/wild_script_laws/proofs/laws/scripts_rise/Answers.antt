use Rattle.wild_script_laws.proofs.Commands.{rise}
use Rattle.wild_script_laws.proofs.laws.scripts_rise.Goals as goal

pub returns : goal.returns
returns c = rise
