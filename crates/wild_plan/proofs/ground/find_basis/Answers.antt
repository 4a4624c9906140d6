use Rattle.std.proofs.Common.{List, ◌∙◌, ap}
use denote.Ref.{Bor}
use Rattle.wild_script_tree.specs.declared.tree.Section.{Section}
use Rattle.wild_fates.specs.Targets.{targets}
use Rattle.wild_plan_spec.specs.Facts.{facts_from}
use Rattle.wild_plan_spec.specs.Fates.{fates_of, section_names}
use Rattle.wild_plan_spec.specs.Names.{Name}
use Rattle.wild_plan_spec.specs.Statements.{sections_of}
use Rattle.wild_plan.specs.Facts.{alignments_in, shown_all}
use Rattle.wild_plan.proofs.Defined.{fates_counted}
use Rattle.wild_plan.proofs.ground.find_basis.Goals as goal

pub find_facts-requires : goal.find_facts-requires
find_facts-requires c = rw (c.as_slice-fates.ensures, c.as_slice-rows.ensures) (fates_counted _ _ c.requires)

pub find_chunks-requires : goal.find_chunks-requires
find_chunks-requires c = rw (c.as_slice-fates.ensures, c.as_slice-rows.ensures) (fates_counted _ _ c.requires)

pub returns : goal.returns
returns c =
    let fates = c.as_slice-fates.ensures ∙ c.requires.fates.fates in
    let names = c.as_slice-names.ensures ∙ c.requires.fates.names in
    let sections = ap (λ (xs : List (Bor Section)). targets xs) c.as_slice-sections.ensures ∙ c.requires.fates.sections in
    let inputs = c.args.case.now.inputs.now in
    let t = c.args.case.now.commands.now in
    let headers = ap (λ (xs : List (Bor (List Name))). targets xs) c.as_slice-headers.ensures ∙ c.requires.fates.section_headers in
    let facts =
    (rw (c.as_slice-rows.ensures, fates, names) at c.in_ok-facts.ensures)
    ∙ ap (λ (xs : List Section). facts_from xs (targets c.as_slice-headers.result.now) inputs.rows (fates_of t inputs) 0 (section_names t inputs)) sections
    ∙ ap (λ (hs : List (List Name)). facts_from (sections_of t) hs inputs.rows (fates_of t inputs) 0 (section_names t inputs)) headers in
    record {
      facts = facts;
      alignments = c.in_ok-alignments.ensures ∙ ap (λ fs. alignments_in (shown_all fs)) c.as_slice.ensures ∙ ap alignments_in facts;
      ordered = rw (c.as_slice-rows.ensures, fates) at c.in_ok-chunks.ensures;
    }
