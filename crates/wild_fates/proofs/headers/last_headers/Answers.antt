use Rattle.std.proofs.Common.{◌≡◌, ◌+◌, ◌-◌, ◌<◌, length, refl, arith}
use Rattle.wild_plan_spec.specs.Headers.{header_lists, header_list_at, no_headers}
use Rattle.wild_fates.specs.Memories.{shown_headers}
use Rattle.wild_fates.proofs.LastListed.{last_here, none_from}
use Rattle.wild_fates.proofs.headers.last_headers.Goals as goal

pub returns-in-Some : goal.returns-in-Some
returns-in-Some c =
    let next = c.loop-place.place in
    let within : next - 1 < length c.args.places.now = omega arith in
    let follows : next ≡ (next - 1) + 1 = omega arith in
    last_here header_list_at header_lists (λ n. refl) (λ n p ps. refl) c.args.places.now next (next - 1) c.index-places-place.result follows within c.index-places-place.is c.loop-place.invariant no_headers (shown_headers c.in-Some.headers) (rw c.in-Some.is at c.headers_at.ensures)

pub loop-place-preserved : goal.loop-place-preserved
loop-place-preserved c =
    let next = c.loop-place.place in
    let within : next - 1 < length c.args.places.now = omega arith in
    let follows : next ≡ (next - 1) + 1 = omega arith in
    none_from header_list_at header_lists (λ n. refl) (λ n p ps. refl) c.args.places.now next (next - 1) c.index-places-place.result follows within c.index-places-place.is c.loop-place.invariant (rw c.in-None.is at c.headers_at.ensures)
