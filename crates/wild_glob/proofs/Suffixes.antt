-- Tests at some suffix of a text.
use Rattle.std.proofs.Common.{◌≡◌, ℕ, Bool, true, false, List, [], ◌∷◌, refl, sym, ◌⊎◌, inl, inr, ⊎_elim}
use Rattle.std.specs.Prelude.{◌||◌}
use Rattle.std.proofs.lemmas.Bool.{and_parts}
use Rattle.wild_glob.specs.declared.piece.Piece.{Piece}
use Rattle.wild_glob.specs.Match.{some_suffix, one_then}

or_cases : (a b : Bool) → (a || b) ≡ true → (a ≡ true) ⊎ (b ≡ true)
or_cases true b e = inl refl
or_cases false b e = inr e

or_right : (a b : Bool) → b ≡ true → (a || b) ≡ true
or_right true b e = refl
or_right false b e = e

pub same : (a b : Bool) → (a ≡ true → b ≡ true) → (b ≡ true → a ≡ true) → a ≡ b
same true b f g = sym (f refl)
same false true f g = g refl
same false false f g = refl

pub suffix_here : (f : List ℕ → Bool) (cs : List ℕ) → f cs ≡ true → some_suffix f cs ≡ true
suffix_here f [] e = e
suffix_here f (c ∷ cs) e = rw e refl

pub suffix_later : (f : List ℕ → Bool) (c : ℕ) (cs : List ℕ) → some_suffix f cs ≡ true → some_suffix f (c ∷ cs) ≡ true
suffix_later f c cs e = or_right (f (c ∷ cs)) (some_suffix f cs) e

-- a suffix of a suffix is a suffix
pub suffix_twice : (f : List ℕ → Bool) (cs : List ℕ) → some_suffix (some_suffix f) cs ≡ true → some_suffix f cs ≡ true
suffix_twice f [] e = e
suffix_twice f (c ∷ cs) e = ⊎_elim (λ h. h) (λ t. suffix_later f c cs (suffix_twice f cs t)) (or_cases (some_suffix f (c ∷ cs)) (some_suffix (some_suffix f) cs) e)

abbrev pub behind_first : List ℕ → List ℕ
behind_first [] = []
behind_first (c ∷ cs) = cs

suffix_wider : (f : List ℕ → Bool) (cs : List ℕ) → some_suffix f (behind_first cs) ≡ true → some_suffix f cs ≡ true
suffix_wider f [] e = e
suffix_wider f (c ∷ cs) e = suffix_later f c cs e

-- where a suffix begins with a character that the piece admits, the rest of it is a suffix after the first character
suffix_one : (p : Piece) (f : List ℕ → Bool) (cs : List ℕ) → some_suffix (one_then p f) cs ≡ true → some_suffix f (behind_first cs) ≡ true
suffix_one p f [] e = cc
suffix_one p f (c ∷ cs) e =
    ⊎_elim (λ h. suffix_here f cs (and_parts _ (f cs) h).1) (λ t. suffix_wider f cs (suffix_one p f cs t))
    (or_cases (one_then p f (c ∷ cs)) (some_suffix (one_then p f) cs) e)

pub suffix_past : (p : Piece) (f : List ℕ → Bool) (c : ℕ) (cs : List ℕ) → some_suffix (one_then p f) (c ∷ cs) ≡ true → some_suffix f cs ≡ true
suffix_past p f c cs e = suffix_one p f (c ∷ cs) e
