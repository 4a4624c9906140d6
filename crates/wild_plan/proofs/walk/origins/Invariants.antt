use Rattle.std.proofs.Common.{◌≡◌, ◌++◌, map, drop}
use Rattle.wild_value_spec.specs.declared.region.Region.{Region}
use Rattle.wild_plan.proofs.walk.origins.Given as goal

abbrev pub invariant-loop-region : goal.invariant-loop-region
invariant-loop-region l = l.origins.items ++ map (λ (r : Region). r.origin) (drop l.region-index l.regions) ≡ map (λ (r : Region). r.origin) l.regions
