use Rattle.std.proofs.Common.{◌≡◌, take}
use Rattle.wild_glob.proofs.piece.copy_pieces.Given as goal

abbrev pub invariant-loop-piece : goal.invariant-loop-piece
invariant-loop-piece l = l.copies ≡ take l.piece-index l.pieces
