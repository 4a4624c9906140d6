-- Patterns and bytes that are a text, or none.
use Rattle.std.proofs.Common.{◌≡◌, ℕ, false, List, refl, IsUtf8, ⊎_elim}
use Rattle.std.specs.Str.{chars, is_utf8}
use Rattle.std.proofs.lemmas.Bool.{cases_Bool}
use Rattle.std.proofs.lemmas.Str.{is_utf8-from_IsUtf8, IsUtf8-from_is_utf8}
use Rattle.wild_glob.specs.Match.{matches}
use Rattle.wild_glob.specs.declared.piece.Piece.{Piece}
use Rattle.wild_rules.specs.Taking.{matches_bytes}

pub matches_bytes_of_text : (pattern : List Piece) (bytes : List ℕ) → IsUtf8 bytes → matches_bytes pattern bytes ≡ matches pattern (chars bytes)
matches_bytes_of_text pattern bytes u = rw (is_utf8-from_IsUtf8 bytes u) refl

pub matches_bytes_of_others : (pattern : List Piece) (bytes : List ℕ) → ¬ (IsUtf8 bytes) → matches_bytes pattern bytes ≡ false
matches_bytes_of_others pattern bytes n = ⊎_elim (λ e. absurd (n (IsUtf8-from_is_utf8 bytes e))) (λ e. rw e refl) (cases_Bool (is_utf8 bytes))
