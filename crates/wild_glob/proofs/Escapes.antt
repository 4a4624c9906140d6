-- One byte of a pattern, and what is after it.
use Rattle.std.proofs.Common.{◌≡◌, ◌≢◌, ℕ, ◌+◌, ◌<◌, Bool, true, false, List, [], ◌∷◌, ◌++◌, length, drop, get_or, eqb, refl, sym, ◌∙◌, append_assoc, ap}
use Rattle.std.specs.Prelude.{if◌then◌else◌, not, ◌&&◌}
use Rattle.std.specs.List.{list_any}
use Rattle.std.proofs.lemmas.List.{at_drop_more}
use Rattle.std.proofs.lemmas.Bool.{ne_eqb, eqb-false, eqb-true}
use Rattle.wild_glob.specs.Character.{backslash}
use Rattle.wild_glob.specs.Escape.{unescaped_from, without_escapes}

abbrev pub has_from : ℕ → Bool → List ℕ → Bool
has_from wanted escaped bs = list_any (λ b. eqb b wanted) (unescaped_from escaped bs)

pub has_behind_escaped : (wanted : ℕ) (bs : List ℕ) (i : ℕ) → i < length bs → has_from wanted true (drop i bs) ≡ has_from wanted false (drop (i + 1) bs)
has_behind_escaped wanted bs i h = at_drop_more (has_from wanted true) bs i 0 h

pub has_behind_other : (wanted : ℕ) (bs : List ℕ) (i : ℕ) → i < length bs → get_or bs i 0 ≢ wanted → has_from wanted false (drop i bs) ≡ has_from wanted (eqb (get_or bs i 0) backslash) (drop (i + 1) bs)
has_behind_other wanted bs i h n = at_drop_more (has_from wanted false) bs i 0 h ∙ rw (ne_eqb (get_or bs i 0) wanted n) refl

-- what is still to be written, where a backslash was read and not yet written or none was
abbrev pub rest_of : Bool → List ℕ → List ℕ
rest_of escaped bs = without_escapes (if escaped then backslash ∷ bs else bs)

kept : (b : ℕ) (bs : List ℕ) → b ≢ backslash → without_escapes (b ∷ bs) ≡ b ∷ without_escapes bs
kept b [] n = refl
kept b (c ∷ bs) n = rw (ne_eqb b backslash n) refl

pub rest_behind_kept : (escaped : Bool) (out bs : List ℕ) (i : ℕ) → i < length bs → (not escaped && eqb (get_or bs i 0) backslash) ≡ false → out ++ rest_of escaped (drop i bs) ≡ (out ++ get_or bs i 0 ∷ []) ++ rest_of false (drop (i + 1) bs)
rest_behind_kept true out bs i h e = ap (λ r. out ++ r) (at_drop_more (rest_of true) bs i 0 h) ∙ sym (append_assoc out (get_or bs i 0 ∷ []) (rest_of false (drop (i + 1) bs)))
rest_behind_kept false out bs i h e =
    ap (λ r. out ++ r) (at_drop_more (rest_of false) bs i 0 h ∙ kept (get_or bs i 0) (drop (i + 1) bs) (eqb-false (get_or bs i 0) backslash e))
    ∙ sym (append_assoc out (get_or bs i 0 ∷ []) (rest_of false (drop (i + 1) bs)))

pub rest_behind_escape : (escaped : Bool) (bs : List ℕ) (i : ℕ) → i < length bs → (not escaped && eqb (get_or bs i 0) backslash) ≡ true → rest_of escaped (drop i bs) ≡ rest_of true (drop (i + 1) bs)
rest_behind_escape true bs i h e = cc
rest_behind_escape false bs i h e = at_drop_more (rest_of false) bs i 0 h ∙ ap (λ b. without_escapes (b ∷ drop (i + 1) bs)) (eqb-true (get_or bs i 0) backslash e)
