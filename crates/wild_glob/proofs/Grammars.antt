-- The pieces of a text are those that it spells.
use Rattle.std.proofs.Common.{◌≡◌, ◌≢◌, ◌⊎◌, inl, inr, ℕ, ◌+◌, Bool, true, false, List, [], ◌∷◌, ◌++◌, length, take, drop, Option, Some, None, refl, sym, ◌∙◌, ap, subst, eqb, arith, ⊎_elim, append_assoc, length-append}
use Rattle.std.specs.List.{list_any}
use Rattle.std.proofs.lemmas.Bool.{ne_eqb, eqb-true, cases_Bool}
use Rattle.std.proofs.lemmas.Bool.Decides.{eqb_tells}
use Rattle.std.proofs.lemmas.List.{drop-drop, drop_at, take_at}
use Rattle.wild_glob.specs.declared.piece.ClassItem.{ClassItem}
use Rattle.wild_glob.specs.declared.piece.First.{First}
use Rattle.wild_glob.specs.declared.piece.Piece.{Piece}
use Rattle.wild_glob.specs.declared.piece.Piece.TheVariants.{AnyRun, AnyCharacter, Class, Literal}
use Rattle.wild_glob.specs.Character.{star, question_mark, open_bracket, close_bracket, exclamation_mark, backslash}
use Rattle.wild_glob.specs.Class.{items_len, class_items}
use Rattle.wild_glob.specs.Spelling.{first_of, any_run, class_of, class, escaped, first_piece, put_first, first_then, pieces_behind, pieces}
use Rattle.wild_glob.specs.Grammar.{opening, IsContent, IsPlain, IsSpelling, IsApart, Spells}
use Rattle.wild_glob.proofs.Pieces.{pieces_behind-drop}
use Rattle.wild_glob.proofs.Closing.{closes, position_of_bracket, split_at_bracket}

abbrev pub begins_star : List ℕ → Bool
begins_star [] = false
begins_star (c ∷ cs) = eqb c star

-- a spelling of a piece, and what is after it
pub record Begins (cs : List ℕ) (p : Piece) (n : ℕ) : Type 0 where
  pub first : List ℕ
  pub rest : List ℕ
  pub whole : cs ≡ first ++ rest
  pub is : IsSpelling p first
  pub long : length first ≡ 1 + n
  pub apart : p ≡ AnyRun → begins_star rest ≡ false

-- ---- from the first piece to its spelling

another_first : (cs : List ℕ) (f g : First) → Some f ≡ Some g → Begins cs f.piece f.behind → Begins cs g.piece g.behind
another_first cs f g e b =
    let same : f ≡ g = cc in
    let P : First → Type 0 = λ h. Begins cs h.piece h.behind in
    subst P same b

from_any_run : (cs : List ℕ) (f : First) → any_run cs ≡ Some f → Begins (star ∷ cs) f.piece f.behind
from_any_run [] f e = another_first (star ∷ []) _ f e (record { first = star ∷ []; rest = []; whole = refl; is = refl; long = refl; apart = λ h. refl })
from_any_run (c ∷ cs) f e =
    ⊎_elim
    (λ t. let h : None ≡ Some f = rw t.0 at e in cc)
    (λ t. another_first (star ∷ c ∷ cs) (record { piece = AnyRun; behind = 0 }) f (rw t.0 at e) (record { first = star ∷ []; rest = c ∷ cs; whole = refl; is = refl; long = refl; apart = λ h. t.0 }))
    (eqb_tells c star)

from_escaped : (cs : List ℕ) (f : First) → escaped cs ≡ Some f → Begins (backslash ∷ cs) f.piece f.behind
from_escaped [] f e = cc
from_escaped (c ∷ cs) f e = another_first (backslash ∷ c ∷ cs) _ f e (record { first = backslash ∷ c ∷ []; rest = cs; whole = refl; is = inl refl; long = refl; apart = λ h. cc })

-- how many characters are between `[` and the items
abbrev pub before : Bool → ℕ
before false = 0
before true = 1

length-opening : (negated : Bool) → length (opening negated) ≡ 1 + before negated
length-opening false = refl
length-opening true = refl

from_class_of : (negated : Bool) (c : ℕ) (cs : List ℕ) (f : First) (o : Option ℕ) → (negated ≡ false → c ≢ exclamation_mark)
    → items_len (c ∷ cs) ≡ o → class_of negated (before negated) (c ∷ cs) o ≡ Some f → Begins (opening negated ++ (c ∷ cs)) f.piece f.behind
from_class_of negated c cs f None other len e = cc
from_class_of negated c cs f (Some n) other len e =
    let s = split_at_bracket cs 1 n len in
    let front = s.1.1.front in
    let content = c ∷ front in
    let whole : (c ∷ cs) ≡ content ++ close_bracket ∷ s.1.1.rest = ap (λ xs. c ∷ xs) s.1.1.whole in
    let long : length content ≡ n = omega (arith, s.1.0, s.1.1.len) in
    let taken : take n (c ∷ cs) ≡ content = ap (λ xs. take n xs) whole ∙ take_at content (close_bracket ∷ s.1.1.rest) n long in
    another_first (opening negated ++ (c ∷ cs)) (record { piece = Class negated (class_items (take n (c ∷ cs))); behind = before negated + n + 1 }) f e
    (record {
      first = opening negated ++ (content ++ close_bracket ∷ []);
      rest = s.1.1.rest;
      whole = ap (λ xs. opening negated ++ xs) whole ∙ simp append_assoc;
      is = (content, ((other, s.1.1.none), ap class_items taken, refl));
      long = length-append (opening negated) (content ++ close_bracket ∷ []) ∙ omega (arith, length-opening negated, length-append content (close_bracket ∷ []), long);
      apart = λ h. cc;
    })

from_negated : (cs : List ℕ) (f : First) → class_of true 1 cs (items_len cs) ≡ Some f → Begins (open_bracket ∷ exclamation_mark ∷ cs) f.piece f.behind
from_negated [] f e = cc
from_negated (c ∷ cs) f e = from_class_of true c cs f (items_len (c ∷ cs)) (λ h. cc) refl e

from_class : (cs : List ℕ) (f : First) → class cs ≡ Some f → Begins (open_bracket ∷ cs) f.piece f.behind
from_class [] f e = cc
from_class (c ∷ cs) f e =
    ⊎_elim
    (λ t. rw t.1 (from_negated cs f (rw t.0 at e)))
    (λ t. from_class_of false c cs f (items_len (c ∷ cs)) (λ h. t.1) refl (rw t.0 at e))
    (eqb_tells c exclamation_mark)

from_first : (cs : List ℕ) (f : First) → first_piece cs ≡ Some f → Begins cs f.piece f.behind
from_first [] f e = cc
from_first (c ∷ cs) f e =
    ⊎_elim (λ t. rw t.1 (from_any_run cs f (rw t.0 at e)))
    (λ t. let e1 = rw t.0 at e in
    ⊎_elim (λ u. rw u.1 (another_first (question_mark ∷ cs) (record { piece = AnyCharacter; behind = 0 }) f (rw u.0 at e1)
    (record { first = question_mark ∷ []; rest = cs; whole = refl; is = refl; long = refl; apart = λ h. cc })))
    (λ u. let e2 = rw u.0 at e1 in
    ⊎_elim (λ v. rw v.1 (from_class cs f (rw v.0 at e2)))
    (λ v. let e3 = rw v.0 at e2 in
    ⊎_elim (λ w. rw w.1 (from_escaped cs f (rw w.0 at e3)))
    (λ w. another_first (c ∷ cs) (record { piece = Literal c; behind = 0 }) f (rw w.0 at e3)
    (record { first = c ∷ []; rest = cs; whole = refl; is = inr ((t.1, u.1, v.1, w.1), refl); long = refl; apart = λ h. cc }))
    (eqb_tells c backslash))
    (eqb_tells c open_bracket))
    (eqb_tells c question_mark))
    (eqb_tells c star)

-- ---- from a spelling to the first piece

any_run_apart : (cs : List ℕ) → begins_star cs ≡ false → any_run cs ≡ first_of AnyRun 0
any_run_apart [] e = refl
any_run_apart (c ∷ cs) e = rw e refl

first_plain : (c : ℕ) (cs : List ℕ) → IsPlain c → first_piece (c ∷ cs) ≡ first_of (Literal c) 0
first_plain c cs h = rw (ne_eqb c star h.0, ne_eqb c question_mark h.1, ne_eqb c open_bracket h.2, ne_eqb c backslash h.3) refl

to_class_of : (negated : Bool) (c : ℕ) (cs rest : List ℕ) → list_any closes cs ≡ false
    → class_of negated (before negated) ((c ∷ cs) ++ close_bracket ∷ rest) (items_len ((c ∷ cs) ++ close_bracket ∷ rest)) ≡ first_of (Class negated (class_items (c ∷ cs))) (before negated + (1 + length cs) + 1)
to_class_of negated c cs rest none =
    let content = c ∷ cs in
    let text = content ++ close_bracket ∷ rest in
    let long : length content ≡ 1 + length cs = omega arith in
    ap (λ o. class_of negated (before negated) text o) (position_of_bracket cs rest 1 none)
    ∙ ap (λ xs. first_of (Class negated (class_items xs)) (before negated + (1 + length cs) + 1)) (take_at content (close_bracket ∷ rest) (1 + length cs) long)

class_negated : (cs : List ℕ) → class (exclamation_mark ∷ cs) ≡ class_of true 1 cs (items_len cs)
class_negated cs = refl

class_plain : (c : ℕ) (cs : List ℕ) → c ≢ exclamation_mark → class (c ∷ cs) ≡ class_of false 0 (c ∷ cs) (items_len (c ∷ cs))
class_plain c cs n = rw (ne_eqb c exclamation_mark n) refl

to_class : (negated : Bool) (c : ℕ) (cs rest : List ℕ) → IsContent negated (c ∷ cs)
    → first_piece (opening negated ++ ((c ∷ cs) ++ close_bracket ∷ rest)) ≡ first_of (Class negated (class_items (c ∷ cs))) (before negated + (1 + length cs) + 1)
to_class true c cs rest h = class_negated ((c ∷ cs) ++ close_bracket ∷ rest) ∙ to_class_of true c cs rest h.1
to_class false c cs rest h = class_plain c (cs ++ close_bracket ∷ rest) (h.0 refl) ∙ to_class_of false c cs rest h.1

-- the first piece of a text that begins with a spelling of it, and how many characters that has
pub record Finds (p : Piece) (first rest : List ℕ) : Type 0 where
  pub behind : ℕ
  pub found : first_piece (first ++ rest) ≡ first_of p behind
  pub long : length first ≡ 1 + behind

class_found : (negated : Bool) (items : List ClassItem) (first rest content : List ℕ) → IsContent negated content → items ≡ class_items content
    → first ≡ opening negated ++ (content ++ close_bracket ∷ []) → Finds (Class negated items) first rest
class_found negated items first rest [] h listed is = absurd h
class_found negated items first rest (c ∷ cs) h listed is =
    let content = c ∷ cs in
    let whole : first ++ rest ≡ opening negated ++ (content ++ close_bracket ∷ rest) = ap (λ xs. xs ++ rest) is ∙ simp append_assoc in
    record {
      behind = before negated + (1 + length cs) + 1;
      found = ap first_piece whole ∙ to_class negated c cs rest h ∙ ap (λ xs. first_of (Class negated xs) (before negated + (1 + length cs) + 1)) (sym listed);
      long = ap length is ∙ length-append (opening negated) (content ++ close_bracket ∷ []) ∙ omega (arith, length-opening negated, length-append content (close_bracket ∷ []));
    }

to_first : (p : Piece) (first rest : List ℕ) → IsSpelling p first → (p ≡ AnyRun → begins_star rest ≡ false) → Finds p first rest
to_first AnyRun first rest is apart = rw is (record { behind = 0; found = any_run_apart rest (apart refl); long = refl })
to_first AnyCharacter first rest is apart = rw is (record { behind = 0; found = refl; long = refl })
to_first (Literal c) first rest (inl is) apart = rw is (record { behind = 1; found = refl; long = refl })
to_first (Literal c) first rest (inr is) apart = rw is.1 (record { behind = 0; found = first_plain c rest is.0; long = refl })
to_first (Class negated items) first rest is apart = class_found negated items first rest is.0 is.1.0 is.1.1 is.1.2

-- ---- texts

behind_spelling : (first rest : List ℕ) (n : ℕ) → length first ≡ 1 + n → drop n (drop 1 (first ++ rest)) ≡ rest
behind_spelling first rest n e = drop-drop n 1 (first ++ rest) ∙ drop_at first rest (1 + n) e

-- a text is empty, or it has a first piece and others
pub record Takes (cs : List ℕ) (ps : List Piece) : Type 0 where
  pub f : First
  pub qs : List Piece
  pub found : first_piece cs ≡ Some f
  pub pieces_are : ps ≡ f.piece ∷ qs
  pub others : pieces (drop f.behind (drop 1 cs)) ≡ Some qs

put_parts : (p : Piece) (o : Option (List Piece)) (ps : List Piece) → put_first p o ≡ Some ps → (qs : List Piece) × ((ps ≡ p ∷ qs) × (o ≡ Some qs))
put_parts p None ps e = cc
put_parts p (Some qs) ps e = (qs, (cc, refl))

takes : (c : ℕ) (cs : List ℕ) (ps : List Piece) (o : Option First) → first_piece (c ∷ cs) ≡ o → first_then o (λ n. pieces_behind n cs) ≡ Some ps → Takes (c ∷ cs) ps
takes c cs ps None found e = cc
takes c cs ps (Some f) found e =
    let parts = put_parts f.piece (pieces_behind f.behind cs) ps e in
    record { f = f; qs = parts.0; found = found; pieces_are = parts.1.0; others = sym (pieces_behind-drop f.behind cs) ∙ parts.1.1 }

empty_or_takes : (cs : List ℕ) (ps : List Piece) → pieces cs ≡ Some ps → ((cs ≡ []) × (ps ≡ [])) ⊎ Takes cs ps
empty_or_takes [] ps e = inl (refl, cc)
empty_or_takes (c ∷ cs) ps e = inr (takes c cs ps (first_piece (c ∷ cs)) refl e)

-- a spelling that begins with `*` is that of `*`
star_spells : (p : Piece) (first rest : List ℕ) → IsSpelling p first → begins_star (first ++ rest) ≡ true → p ≡ AnyRun
star_spells AnyRun first rest is e = refl
star_spells AnyCharacter first rest is e = let h : false ≡ true = rw is at e in cc
star_spells (Literal c) first rest (inl is) e = let h : false ≡ true = rw is at e in cc
star_spells (Literal c) first rest (inr is) e = let h : begins_star ((c ∷ []) ++ rest) ≡ true = rw is.1 at e in absurd (is.0.0 (eqb-true c star h))
star_spells (Class false items) first rest is e = let h : begins_star ((opening false ++ (is.0 ++ close_bracket ∷ [])) ++ rest) ≡ true = rw is.1.2 at e in cc
star_spells (Class true items) first rest is e = let h : begins_star ((opening true ++ (is.0 ++ close_bracket ∷ [])) ++ rest) ≡ true = rw is.1.2 at e in cc

apart_behind : (p : Piece) (ps : List Piece) (rest : List ℕ) → (p ≡ AnyRun → begins_star rest ≡ false) → Spells ps rest → IsApart p ps
apart_behind p [] rest apart h = tt
apart_behind p (AnyRun ∷ qs) rest apart h = λ e. let t : false ≡ true = sym (apart e) ∙ ap begins_star h.1.1.0 ∙ ap (λ xs. begins_star (xs ++ h.1.0)) h.1.1.1 in cc
apart_behind p (AnyCharacter ∷ qs) rest apart h = λ e. λ q. cc
apart_behind p (Class negated items ∷ qs) rest apart h = λ e. λ q. cc
apart_behind p (Literal c ∷ qs) rest apart h = λ e. λ q. cc

-- what pieces are read is what the text spells
pub spelled : (ps : List Piece) (cs : List ℕ) → pieces cs ≡ Some ps → Spells ps cs
spelled [] cs e = ⊎_elim (λ h. h.0) (λ t. let no : [] ≡ t.f.piece ∷ t.qs = t.pieces_are in cc) (empty_or_takes cs [] e)
spelled (p ∷ ps) cs e =
    ⊎_elim
    (λ h. let no : (p ∷ ps) ≡ [] = h.1 in cc)
    (λ t.
    let b = from_first cs t.f t.found in
    let piece : t.f.piece ≡ p = cc in
    let others : t.qs ≡ ps = cc in
    let rest : drop t.f.behind (drop 1 cs) ≡ b.rest = ap (λ xs. drop t.f.behind (drop 1 xs)) b.whole ∙ behind_spelling b.first b.rest t.f.behind b.long in
    let tail = spelled ps b.rest (ap pieces (sym rest) ∙ t.others ∙ ap (λ qs. Some qs) others) in
    (b.first, (b.rest, (b.whole, subst (λ (q : Piece). IsSpelling q b.first) piece b.is, apart_behind p ps b.rest (λ a. b.apart (piece ∙ a)) tail, tail))))
    (empty_or_takes cs (p ∷ ps) e)

-- after a `*` that is apart comes no other
no_star_behind : (p : Piece) (ps : List Piece) (rest : List ℕ) → p ≡ AnyRun → IsApart p ps → Spells ps rest → begins_star rest ≡ false
no_star_behind p [] rest e a h = ap begins_star h
no_star_behind p (q ∷ qs) rest e a h =
    ⊎_elim (λ t. absurd (a e (star_spells q h.0 h.1.0 h.1.1.1 (sym (ap begins_star h.1.1.0) ∙ t)))) (λ t. t) (cases_Bool (begins_star rest))

pieces_of_first : (cs : List ℕ) (p : Piece) (n : ℕ) → first_piece cs ≡ first_of p n → pieces cs ≡ put_first p (pieces (drop n (drop 1 cs)))
pieces_of_first [] p n e = cc
pieces_of_first (c ∷ cs) p n e = ap (λ o. first_then o (λ m. pieces_behind m cs)) e ∙ ap (λ o. put_first p o) (pieces_behind-drop n cs)

-- what a text spells is what is read
pub spells : (ps : List Piece) (cs : List ℕ) → Spells ps cs → pieces cs ≡ Some ps
spells [] cs h = ap pieces h
spells (p ∷ ps) cs h =
    let first = h.0 in
    let rest = h.1.0 in
    let parts = h.1.1 in
    let f = to_first p first rest parts.1 (λ e. no_star_behind p ps rest e parts.2 parts.3) in
    ap pieces parts.0
    ∙ pieces_of_first (first ++ rest) p f.behind f.found
    ∙ ap (λ xs. put_first p (pieces xs)) (behind_spelling first rest f.behind f.long)
    ∙ ap (λ o. put_first p o) (spells ps rest parts.3)
