use Rattle.std.proofs.Common.{◌≡◌, length}
use Rattle.wild_glob.specs.Spelling as spec
use Rattle.wild_glob.proofs.Pieces.{put_all}
use Rattle.wild_glob.proofs.spelling.pieces.Given as goal

abbrev pub invariant-loop-rest : goal.invariant-loop-rest
invariant-loop-rest l = put_all l.pieces (spec.pieces l.rest) ≡ spec.pieces l.text

abbrev pub decreases-loop-rest : goal.decreases-loop-rest
decreases-loop-rest l = length l.rest
