-- The bytes with which a pattern begins, one after the other.
use Rattle.std.proofs.Common.{◌≡◌, ◌∙◌, ℕ, zero, suc, ◌+◌, List, [], ◌∷◌, ◌++◌, length, drop, Some, None, refl, sym, ap, arith}
use Rattle.std.proofs.lemmas.List.{append_assoc, append-nil, length-append}
use Rattle.wild_glob.specs.declared.piece.Piece.{Piece}
use Rattle.wild_rules.specs.Index.{ascii_run, byte_of, byte_then}

-- a byte more
pub run_more : (ps : List Piece) (i b : ℕ) → byte_of ps i ≡ Some b → ascii_run (drop i ps) ≡ b ∷ ascii_run (drop (i + 1) ps)
run_more [] i b e = absurd (cc)
run_more (p ∷ ps) zero b e = ap (λ o. byte_then o (ascii_run ps)) e
run_more (p ∷ ps) (suc i) b e = let k : suc (i + 1) ≡ suc i + 1 = omega arith in run_more ps i b e ∙ ap (λ n. b ∷ ascii_run (drop n (p ∷ ps))) k

-- the last one
pub run_ends : (ps : List Piece) (i : ℕ) → byte_of ps i ≡ None → ascii_run (drop i ps) ≡ []
run_ends [] zero e = refl
run_ends [] (suc i) e = refl
run_ends (p ∷ ps) zero e = ap (λ o. byte_then o (ascii_run ps)) e
run_ends (p ∷ ps) (suc i) e = run_ends ps i e

pub run_step : (ps : List Piece) (bytes new run : List ℕ) (b : ℕ) → new ≡ bytes ++ b ∷ [] → byte_of ps (length bytes) ≡ Some b → bytes ++ ascii_run (drop (length bytes) ps) ≡ run → new ++ ascii_run (drop (length new) ps) ≡ run
run_step ps bytes new run b same e inv =
    let size : length new ≡ length bytes + 1 = ap (λ l. length l) same ∙ length-append bytes (b ∷ []) in
    ap (λ l. l ++ ascii_run (drop (length new) ps)) same
    ∙ append_assoc bytes (b ∷ []) (ascii_run (drop (length new) ps))
    ∙ ap (λ n. bytes ++ b ∷ ascii_run (drop n ps)) size
    ∙ ap (λ l. bytes ++ l) (sym (run_more ps (length bytes) b e)) ∙ inv

pub run_done : (ps : List Piece) (bytes run : List ℕ) → byte_of ps (length bytes) ≡ None → bytes ++ ascii_run (drop (length bytes) ps) ≡ run → bytes ≡ run
run_done ps bytes run e inv = sym (append-nil bytes) ∙ ap (λ l. bytes ++ l) (sym (run_ends ps (length bytes) e)) ∙ inv
