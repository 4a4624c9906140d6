use Rattle.std.proofs.Common.{◌≡◌, ◌++◌, drop}
use Rattle.wild_eval.specs.Addresses.{known_of}
use Rattle.wild_plan_spec.specs.Layout.{placed_inputs}
use Rattle.wild_plan.proofs.listing.placed_inputs.Given as goal

abbrev pub invariant-loop-i : goal.invariant-loop-i
invariant-loop-i l = l.placed ++ placed_inputs (known_of l.addresses) l.i (drop l.i l.fates) ≡ placed_inputs (known_of l.addresses) 0 l.fates
