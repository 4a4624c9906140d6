use Rattle.wild_script.proofs.Shown.{sees_library, sees_file}
use Rattle.wild_script.proofs.inputs.show_text.Goals as goal

pub returns-in-Some : goal.returns-in-Some
returns-in-Some g c = sees_library g.V.InputVisitor.step c.args.text.now c.in-Some.library.now c.args.modifiers c.in-Some.ensures.cases c.visit.ensures

pub returns-in-None : goal.returns-in-None
returns-in-None g c = sees_file g.V.InputVisitor.step c.args.text.now c.args.modifiers c.in-None.ensures.cases c.visit-in-None.ensures
