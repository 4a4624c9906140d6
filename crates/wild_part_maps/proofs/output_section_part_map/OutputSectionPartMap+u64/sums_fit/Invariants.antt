use Rattle.std.proofs.Common.{◌≡◌, ℕ, ◌+◌, ◌<◌, ◌^◌, length}
use Rattle.std.specs.Prelude.{IsTrue, is_some}
use Rattle.wild_part_maps.specs.Changes.{SumsFit}
use Rattle.wild_part_maps.specs.Parts.{kept, number_at, value_in, RisesFrom}
use Rattle.wild_part_maps.proofs.output_section_part_map.OutputSectionPartMap+u64.sums_fit.Given as goal

-- where the sums at the parts that are left fit, all do
abbrev pub invariant-loop-part : goal.invariant-loop-part
invariant-loop-part l = record {
  rising : RisesFrom 0 l.left;
  same : (q : ℕ) → IsTrue (is_some (value_in l.left q)) → kept l.fn.other q ≡ value_in l.left q;
  fits : ((q : ℕ) → IsTrue (is_some (value_in l.left q)) → number_at l.fn.self q + number_at l.fn.other q < 2 ^ 64) → SumsFit l.fn.self l.fn.other;
}

abbrev pub decreases-loop-part : goal.decreases-loop-part
decreases-loop-part l = length l.left
