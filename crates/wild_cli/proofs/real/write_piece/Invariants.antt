use Rattle.std.proofs.Common.{◌-◌, ◌≤◌, length, take}
use Rattle.wild_cli.specs.Device.{Got}
use Rattle.wild_cli.proofs.real.write_piece.Given as goal

-- the bytes so far are put
abbrev pub invariant-loop-taken : goal.invariant-loop-taken
invariant-loop-taken g l = (l.taken ≤ length l.piece) × Got (g.W.Write.contents l.initial.stream) (g.W.Write.contents l.stream) (take l.taken l.piece)

abbrev pub decreases-loop-taken : goal.decreases-loop-taken
decreases-loop-taken g l = length l.piece - l.taken
