use Rattle.std.proofs.Common.{◌≡◌, ◌+◌, ◌-◌, ◌<◌, length, refl, arith}
use Rattle.wild_plan_spec.specs.Regions.{memories, memory_at, no_memory}
use Rattle.wild_fates.specs.Memories.{shown_memory}
use Rattle.wild_fates.proofs.LastListed.{last_here, none_from}
use Rattle.wild_fates.proofs.regions.last_memory.Goals as goal

pub returns-in-Some : goal.returns-in-Some
returns-in-Some c =
    let next = c.loop-place.place in
    let within : next - 1 < length c.args.places.now = omega arith in
    let follows : next ≡ (next - 1) + 1 = omega arith in
    last_here memory_at memories (λ n. refl) (λ n p ps. refl) c.args.places.now next (next - 1) c.index-places-place.result follows within c.index-places-place.is c.loop-place.invariant no_memory (shown_memory c.in-Some.memory) (rw c.in-Some.is at c.memory_at.ensures)

pub loop-place-preserved : goal.loop-place-preserved
loop-place-preserved c =
    let next = c.loop-place.place in
    let within : next - 1 < length c.args.places.now = omega arith in
    let follows : next ≡ (next - 1) + 1 = omega arith in
    none_from memory_at memories (λ n. refl) (λ n p ps. refl) c.args.places.now next (next - 1) c.index-places-place.result follows within c.index-places-place.is c.loop-place.invariant (rw c.in-None.is at c.memory_at.ensures)
