use Rattle.std.proofs.Common.{◌≡◌, ◌+◌, length}
use Rattle.wild_ids.specs.Calls.{TriesEach}
use Rattle.wild_ids.proofs.output_section_map.try_each.Given as goal

abbrev pub invariant-loop-x : goal.invariant-loop-x
invariant-loop-x g l =
    goal.F-IsAlwaysCallable g l.cb
    × (l.id + length l.rest ≡ length l.fn.values)
    × ((answer : _) (last : _) → TriesEach (goal.F-step g) l.cb l.id l.rest answer last → TriesEach (goal.F-step g) l.fn.cb 0 l.fn.values answer last)

abbrev pub decreases-loop-x : goal.decreases-loop-x
decreases-loop-x g l = length l.rest
