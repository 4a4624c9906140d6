-- The first piece of a text, and the pieces after it.
use Rattle.std.proofs.Common.{◌≡◌, ◌≤◌, length, arith, ℕ, zero, suc, List, [], ◌∷◌, ◌++◌, drop, Option, Some, None, refl, sym, ◌∙◌, ap, append_assoc}
use Rattle.wild_glob.specs.declared.piece.First.{First}
use Rattle.wild_glob.specs.declared.piece.Piece.{Piece}
use Rattle.wild_glob.specs.Spelling.{first_piece, put_first, first_then, pieces_behind, pieces}

-- pieces that were read, before those that are to be read
abbrev pub put_all : List Piece → Option (List Piece) → Option (List Piece)
put_all ps None = None
put_all ps (Some qs) = Some (ps ++ qs)

pub pieces_behind-drop : (n : ℕ) (cs : List ℕ) → pieces_behind n cs ≡ pieces (drop n cs)
pieces_behind-drop zero cs = refl
pieces_behind-drop (suc n) [] = refl
pieces_behind-drop (suc n) (c ∷ cs) = pieces_behind-drop n cs

put_all-put_first : (ps : List Piece) (p : Piece) (o : Option (List Piece)) → put_all ps (put_first p o) ≡ put_all (ps ++ p ∷ []) o
put_all-put_first ps p None = refl
put_all-put_first ps p (Some qs) = ap (λ rs. Some rs) (sym (append_assoc ps (p ∷ []) qs))

pub pieces_step : (ps : List Piece) (cs : List ℕ) (f : First) → first_piece cs ≡ Some f → put_all ps (pieces cs) ≡ put_all (ps ++ f.piece ∷ []) (pieces (drop f.behind (drop 1 cs)))
pieces_step ps [] f e = cc
pieces_step ps (c ∷ cs) f e =
    ap (λ o. put_all ps (first_then o (λ n. pieces_behind n cs))) e
    ∙ put_all-put_first ps f.piece (pieces_behind f.behind cs)
    ∙ ap (λ o. put_all (ps ++ f.piece ∷ []) o) (pieces_behind-drop f.behind cs)

pub pieces_stop : (ps : List Piece) (cs : List ℕ) → 1 ≤ length cs → first_piece cs ≡ None → put_all ps (pieces cs) ≡ None
pieces_stop ps [] h e = absurd (omega arith)
pieces_stop ps (c ∷ cs) h e = ap (λ o. put_all ps (first_then o (λ n. pieces_behind n cs))) e
