-- The walk up to the next `*`, and from there on.
use Rattle.std.proofs.Common.{◌≡◌, ◌≤◌, ◌<◌, ℕ, true, false, List, [], ◌∷◌, length, drop, refl, ◌∙◌, ap, arith}
use Rattle.std.specs.Str.{chars}
use Rattle.wild_glob.specs.declared.piece.Piece.{Piece}
use Rattle.wild_glob.specs.declared.piece.Piece.TheVariants.{AnyRun, AnyCharacter, Class, Literal}
use Rattle.wild_glob.specs.Match.{is_any_run, admits, some_suffix, one_then, matches}
use Rattle.wild_glob.specs.Walk.{Comes, RunsTo}
use Rattle.wild_glob.proofs.Suffixes.{same, suffix_here, suffix_twice, suffix_past}

single : (p : Piece) (ps : List Piece) → is_any_run p ≡ false → matches (p ∷ ps) ≡ one_then p (matches ps)
single AnyRun ps e = cc
single AnyCharacter ps e = refl
single (Class negated items) ps e = refl
single (Literal a) ps e = refl

any_run : (p : Piece) (ps : List Piece) → is_any_run p ≡ true → matches (p ∷ ps) ≡ some_suffix (matches ps)
any_run AnyRun ps e = refl
any_run AnyCharacter ps e = cc
any_run (Class negated items) ps e = cc
any_run (Literal a) ps e = cc

-- one character further
pub comes_one : (ps : List Piece) (text : List ℕ) (p : Piece) (left qs : List Piece) (rest later : List ℕ) (c : ℕ)
    → Comes ps text left rest → left ≡ p ∷ qs → is_any_run p ≡ false → chars rest ≡ c ∷ chars later → length later < length rest
    → admits p c ≡ true → Comes ps text qs later
comes_one ps text p left qs rest later c so e single_p first shorter admitted = record {
  same = so.same ∙ ap (λ l. matches l (chars rest)) e ∙ ap (λ f. f (chars rest)) (single p qs single_p) ∙ ap (one_then p (matches qs)) first ∙ rw admitted refl;
  later = λ h. suffix_past p (matches qs) c (chars later) (rw (e, single p qs single_p, first) at (so.later h));
  fewer = omega (arith, ap length e, so.fewer);
  shorter = omega (arith, so.shorter);
}

-- a `*` after a run that fits here
pub passes_run : (ps : List Piece) (text : List ℕ) (left : List Piece) (rest : List ℕ) → RunsTo ps text left rest → 1 ≤ length left
    → matches ps (chars text) ≡ some_suffix (matches (drop 1 left)) (chars rest)
passes_run ps text [] rest run h = absurd (omega arith)
passes_run ps text (p ∷ qs) rest run h = run.comes.same ∙ ap (λ f. f (chars rest)) (any_run p qs run.stops)

pub passes_run_later : (ps : List Piece) (text : List ℕ) (left : List Piece) (rest : List ℕ) → RunsTo ps text left rest → 1 ≤ length left
    → some_suffix (matches ps) (chars text) ≡ some_suffix (matches (drop 1 left)) (chars rest)
passes_run_later ps text [] rest run h = absurd (omega arith)
passes_run_later ps text (p ∷ qs) rest run h =
    same (some_suffix (matches ps) (chars text)) (some_suffix (matches qs) (chars rest))
    (λ t. suffix_twice (matches qs) (chars rest) (rw (any_run p qs run.stops) at (run.comes.later t)))
    (λ t. suffix_here (matches ps) (chars text) (passes_run ps text (p ∷ qs) rest run h ∙ t))

-- a run that fits here, up to the end of both
pub reaches_end : (ps : List Piece) (text : List ℕ) (left : List Piece) (rest : List ℕ) → RunsTo ps text left rest → length left < 1
    → matches [] (chars rest) ≡ true → some_suffix (matches ps) (chars text) ≡ true
reaches_end ps text [] rest run h e = suffix_here (matches ps) (chars text) (run.comes.same ∙ e)
reaches_end ps text (p ∷ qs) rest run h e = absurd (omega arith)
