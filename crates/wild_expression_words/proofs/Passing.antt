-- A position further on in the same text has less ahead.
use Rattle.std.proofs.Common.{◌≡◌, ◌≤◌, ◌<◌, length, ap, arith}
use Rattle.wild_reading.specs.Position.{Text, Position, ahead}

lengths : {t u : Text} → u ≡ t → length u.bytes ≡ length t.bytes
lengths e = ap (λ (n : Text). length n.bytes) e

pub passed_less : (s r : Position) → r.text ≡ s.text → s.at ≤ r.at → ahead r ≤ ahead s
unfolding ahead
passed_less s r e h = omega (arith, lengths e)

pub passed_shorter : (s r : Position) → r.text ≡ s.text → s.at < r.at → r.at ≤ length s.text.bytes → ahead r < ahead s
unfolding ahead
passed_shorter s r e h w = omega (arith, lengths e)

pub ruleset passing = (passed_less, passed_shorter)
