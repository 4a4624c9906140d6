use Rattle.std.proofs.Common.{◌≡◌, ◌+◌, ◌-◌, ℕ, length}
use Rattle.wild_eval.specs.Addresses.{known_at}
use Rattle.wild_eval.proofs.addresses.make_room.Given as goal

abbrev pub invariant-loop-known : goal.invariant-loop-known
invariant-loop-known l = (i : ℕ) → known_at l.known.items i ≡ known_at l.fn.known.items i

abbrev pub decreases-loop-known : goal.decreases-loop-known
decreases-loop-known l = l.index + 1 - length l.known.items
