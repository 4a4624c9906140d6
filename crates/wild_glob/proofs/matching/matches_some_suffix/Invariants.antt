use Rattle.std.proofs.Common.{◌≡◌, ◌+◌, length}
use denote.Shadow.{shadow}
use denote.Text.{Utf8}
use Rattle.std.specs.Str.{chars}
use Rattle.wild_glob.specs.Match.{some_suffix, matches}
use Rattle.wild_glob.proofs.matching.matches_some_suffix.Given as goal

abbrev pub invariant-loop-rest : goal.invariant-loop-rest
invariant-loop-rest l = shadow (Utf8 l.start) × (some_suffix (matches l.left) (chars l.start) ≡ some_suffix (matches l.pieces) (chars l.text))

abbrev pub decreases-loop-rest : goal.decreases-loop-rest
decreases-loop-rest l = length l.left + length l.start
