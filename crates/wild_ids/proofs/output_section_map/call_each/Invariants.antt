use Rattle.std.proofs.Common.{◌≡◌, ◌+◌, length}
use Rattle.wild_ids.specs.Calls.{CallsEach}
use Rattle.wild_ids.proofs.output_section_map.call_each.Given as goal

abbrev pub invariant-loop-x : goal.invariant-loop-x
invariant-loop-x g l =
    goal.F-IsAlwaysCallable g l.cb
    × (l.id + length l.left ≡ length l.fn.values)
    × ((last : _) → CallsEach (goal.F-step g) l.cb l.id l.left last → CallsEach (goal.F-step g) l.fn.cb 0 l.fn.values last)

abbrev pub decreases-loop-x : goal.decreases-loop-x
decreases-loop-x g l = length l.left
