use Rattle.std.proofs.Common.{◌≡◌, ◌+◌, ◌++◌, drop, arith}
use Rattle.std.proofs.lemmas.Grind.{common_steps}
use Rattle.wild_plan_spec.specs.Checks.{statement_checks, place_checks, failing}
use Rattle.wild_fates.specs.Shown.{shown_places, shown_place}
use Rattle.wild_fates.proofs.Failing.{wanted_here, exits}
use Rattle.wild_fates.proofs.rules.number_rules.Goals as goal

pub returns-in_err-push_statement-clause-passes : goal.returns-in_err-push_statement-clause-passes
returns-in_err-push_statement-clause-passes c =
    let n = c.loop-statement.statement in
    let here = statement_checks c.args.options.now n (shown_place c.index-places-statement.result) in
    let rest = place_checks c.args.options.now (n + 1) (shown_places (drop (n + 1) c.args.places.now)) in
    let all = place_checks c.args.options.now 0 (shown_places c.args.places.now) in
    let same : failing (here ++ rest) ≡ failing all = grind (arith, common_steps) in
    exits _ _ c.from_residual.ensures.1 (wanted_here here rest all _ same c.in_err-push_statement.ensures.passes.err)
