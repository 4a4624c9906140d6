-- Where the closing bracket of a class is.
use Rattle.std.proofs.Common.{◌≡◌, ℕ, ◌+◌, Bool, false, List, [], ◌∷◌, ◌++◌, length, Some, refl, sym, ◌∙◌, ap, eqb, arith, add-zero, ⊎_elim}
use Rattle.std.specs.List.{list_any, position_from}
use Rattle.std.proofs.lemmas.Bool.{or_parts}
use Rattle.std.proofs.lemmas.Bool.Decides.{eqb_tells}
use Rattle.wild_glob.specs.Character.{close_bracket}

abbrev pub closes : ℕ → Bool
closes c = eqb c close_bracket

pub position_of_bracket : (front rest : List ℕ) (i : ℕ) → list_any closes front ≡ false → position_from closes i (front ++ close_bracket ∷ rest) ≡ Some (i + length front)
position_of_bracket [] rest i e = ap (λ n. Some n) (sym (add-zero i))
position_of_bracket (c ∷ cs) rest i e =
    let p = or_parts (closes c) (list_any closes cs) e in
    rw p.0 (position_of_bracket cs rest (i + 1) p.1 ∙ ap (λ n. Some n) (omega arith))

some_same : (a b : ℕ) → Some a ≡ Some b → a ≡ b
some_same a b e = cc

-- what is before the first closing bracket, and after it
pub record Splits (cs : List ℕ) (n : ℕ) : Type 0 where
  pub front : List ℕ
  pub rest : List ℕ
  pub whole : cs ≡ front ++ close_bracket ∷ rest
  pub none : list_any closes front ≡ false
  pub len : n ≡ length front

pub split_at_bracket : (cs : List ℕ) (i n : ℕ) → position_from closes i cs ≡ Some n → (m : ℕ) × ((n ≡ i + m) × Splits cs m)
split_at_bracket [] i n e = cc
split_at_bracket (c ∷ cs) i n e =
    ⊎_elim
    (λ t. let h : Some i ≡ Some n = rw t.0 at e in
    (0, (omega (arith, some_same i n h), record { front = []; rest = cs; whole = ap (λ x. x ∷ cs) t.1; none = refl; len = refl })))
    (λ t. let h : position_from closes (i + 1) cs ≡ Some n = rw t.0 at e in
    let s = split_at_bracket cs (i + 1) n h in (
      s.0 + 1,
      (
        omega (arith, s.1.0),
        record {
          front = c ∷ s.1.1.front;
          rest = s.1.1.rest;
          whole = ap (λ xs. c ∷ xs) s.1.1.whole;
          none = rw t.0 s.1.1.none;
          len = omega (arith, s.1.1.len);
        },
      ),
    ))
    (eqb_tells c close_bracket)
