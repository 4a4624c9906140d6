-- Texts and the bytes of patterns.
use Rattle.std.proofs.Common.{◌≡◌, ◌≢◌, ℕ, ◌<◌, false, List, [], ◌∷◌, ◌++◌, length, Option, None, Result, Err, refl, sym, ◌∙◌, ◌⊎◌, inl, inr, eqb, ap, arith, length-append, IsUtf8, ⊎_elim}
use Rattle.std.specs.Str.{chars, is_utf8}
use Rattle.std.proofs.lemmas.Bool.{cases_Bool}
use Rattle.std.proofs.lemmas.Str.{chars_past_char, length-encode, len_utf8_bounds, is_utf8-from_IsUtf8, IsUtf8-from_is_utf8}
use lib.Utf8.{encode}
use Rattle.wild_glob.specs.Spelling.{pieces}
use Rattle.wild_glob.specs.Compiled.{read, compiled, IsText}
use Rattle.wild_glob.specs.declared.piece.Piece.{Piece}
use Rattle.wild_glob.specs.declared.fault.PatternFault.{PatternFault}
use Rattle.wild_glob.specs.declared.fault.PatternFault.TheVariants.{NotUtf8, Shape, NoMemory}

pub split_off : (bs rest : List ℕ) (c : ℕ) → IsUtf8 bs → bs ≡ encode c ++ rest → (chars bs ≡ c ∷ chars rest) × (length rest < length bs)
split_off bs rest c u e =
    (chars_past_char bs rest c u e, omega (arith, ap length e, length-append (encode c) rest, length-encode c, (len_utf8_bounds c).0))

pub compiled_other : (bs : List ℕ) → bs ≢ [] → ¬ (IsUtf8 bs) → compiled bs ≡ Err NotUtf8
compiled_other [] n u = absurd (n refl)
compiled_other (b ∷ bs) n u = ⊎_elim (λ e. absurd (u (IsUtf8-from_is_utf8 (b ∷ bs) e))) (λ e. rw e refl) (cases_Bool (is_utf8 (b ∷ bs)))

pub compiled_text : (bs : List ℕ) → bs ≢ [] → IsUtf8 bs → compiled bs ≡ read (pieces (chars bs))
compiled_text [] n u = absurd (n refl)
compiled_text (b ∷ bs) n u = rw (is_utf8-from_IsUtf8 (b ∷ bs) u) refl

pub nonempty : (bs : List ℕ) → eqb (length bs) 0 ≡ false → bs ≢ []
nonempty [] h = λ e. cc
nonempty (b ∷ bs) h = λ e. cc

-- what a reading of the characters gives
pub compiled_read : (bs cs : List ℕ) (o : Option (List Piece)) → bs ≢ [] → IsUtf8 bs → cs ≡ chars bs → pieces cs ≡ o → compiled bs ≡ read o
compiled_read bs cs o n u e f = compiled_text bs n u ∙ ap (λ ds. read (pieces ds)) (sym e) ∙ ap read f

-- what is answered where a reading stops
pub refused : (bs cs : List ℕ) (fault : PatternFault) (r : Result (List Piece) PatternFault) → r ≡ Err fault → bs ≢ [] → IsUtf8 bs → cs ≡ chars bs → (fault ≡ NoMemory) ⊎ ((fault ≡ Shape) × (pieces cs ≡ None)) → (r ≡ compiled bs) ⊎ (IsText bs × (r ≡ Err NoMemory))
refused bs cs fault r a n u e (inl m) = inr ((n, u), a ∙ ap (λ f. Err f) m)
refused bs cs fault r a n u e (inr s) = inl (a ∙ ap (λ f. Err f) s.0 ∙ sym (compiled_read bs cs None n u e s.1))
