use Rattle.std.proofs.Common.{◌≡◌, ◌≤◌, ◌+◌, length}
use Rattle.std.specs.Vec.{vec_len, vec_capacity}
use Rattle.std.specs.Vec.Iter.{into_iter_items}
use Rattle.wild_ids.specs.Calls.{MapsEach}
use Rattle.wild_ids.proofs.output_section_map.map_each.Given as goal

-- there is room for an answer at each value that is left
abbrev pub invariant-loop-value : goal.invariant-loop-value
invariant-loop-value g l =
    goal.F-IsAlwaysCallable g l.cb
    × (vec_len l.all + length (into_iter_items l.value-iterator) ≤ vec_capacity l.all)
    × (length l.all.items ≡ length l.yielded)
    × MapsEach (goal.F-step g) l.fn.cb l.yielded l.all.items l.cb
