-- The headers that hold the sections of a SECTIONS, one statement after another.
use Rattle.std.proofs.Common.{◌≡◌, Bool, true, false, List, [], ◌∷◌, ◌++◌, cond, refl}
use Rattle.wild_script_tree.specs.declared.tree.SectionCommand.{SectionCommand}
use Rattle.wild_script_tree.specs.declared.tree.SectionCommand.TheVariants.{Section as OfSection}
use Rattle.wild_plan_spec.specs.Headers.{headers_in, own_headers}
use Rattle.wild_plan_spec.specs.Names.{Name}
use Rattle.wild_plan_spec.specs.Statements.{is_discard}
use Rattle.wild_fates.specs.Memories.{headers_behind, headers_here}

step_by : (discard : Bool) (before own : List Name) (cs : List SectionCommand)
    → cond discard (headers_in before cs) (own ∷ headers_in own cs) ≡ cond discard [] (cond discard before own ∷ []) ++ headers_in (cond discard before own) cs
step_by true before own cs = refl
step_by false before own cs = refl

-- those of the first statement, if it is a section, and then those of the others
pub headers_step : (before : List Name) (c : SectionCommand) (cs : List SectionCommand) → headers_in before (c ∷ cs) ≡ headers_here (headers_behind before c) c ++ headers_in (headers_behind before c) cs
headers_step before (OfSection x) cs = step_by (is_discard x) before (own_headers before x.phdrs) cs
headers_step before c cs = refl
