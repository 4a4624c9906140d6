-- What is read by a new cursor is read from its position.
use Rattle.std.proofs.Common.{◌≡◌, ◌⊎◌, ℕ, ◌≤◌, ◌<◌, length, subst, sym, ◌∙◌, ap, inl, inr, refl, arith}
use Rattle.std.proofs.lemmas.Bool.{cases_lt}
use Rattle.wild_names.specs.declared.fault.Fault.TheVariants as fault
use Rattle.wild_reading.specs.Position.{Bytes, Text, Position, ahead, max_depth}
use Rattle.wild_reading.specs.Only.{IsOnly, Refuses, IsCause}
use Rattle.wild_reading.specs.declared.stop.Stop.{Stop}
use Rattle.wild_reading.specs.declared.stop.Stop.TheVariants.{Syntax, OpenComment, NestedSort, TooDeep, NoMemory}
use Rattle.wild_expression_tree.specs.declared.tree.Expression.{Expression}
use Rattle.wild_expression.specs.declared.measured.Measured.{Measured}
use Rattle.wild_expression_words.specs.declared.operators.Level.TheVariants.{Ternary}
use Rattle.wild_expression.specs.Grammar.{value}
use Rattle.wild_expression.proofs.Depths.{into, back}
use Rattle.wild_expression.specs.Readings.{plain_fault, is_read, IsExpression, HasNone, Never, IsRefusal}

-- less is ahead further on alone
further : (s r : Position) → r.text ≡ s.text → ahead r < ahead s → s.at < r.at
unfolding ahead
further s r e h =
    let same : length r.text.bytes ≡ length s.text.bytes = ap (λ (t : Text). length t.bytes) e in
    omega (arith, h, same)

above_by : {d : ℕ} → (d ≤ max_depth → ⊥) → (max_depth < d) ⊎ (d ≤ max_depth) → max_depth < d
above_by h (inl e) = e
above_by h (inr e) = absurd (h e)

above : {d : ℕ} → (d ≤ max_depth → ⊥) → max_depth < d
above {d} h = above_by h (cases_lt max_depth d)

module _ {b : Bytes} {i : ℕ} {s : Position} (w : s.text ≡ record { bytes = b; start = i; limit = max_depth }) (g : s.at ≡ i) (l : s.left ≡ max_depth) where
  same_bytes : s.text.bytes ≡ b
  same_bytes = ap (λ (t : Text). t.bytes) w

  from_position : (limit : ℕ) (x : Measured) (j : ℕ) → value Ternary s.text.bytes limit s.at x j → value Ternary b limit i x j
  from_position limit x j h = subst (λ (n : ℕ). value Ternary b limit n x j) g (subst (λ (n : Bytes). value Ternary n limit s.at x j) same_bytes h)

  to_position : (limit : ℕ) (x : Measured) (j : ℕ) → value Ternary b limit i x j → value Ternary s.text.bytes limit s.at x j
  to_position limit x j h = subst (λ (n : ℕ). value Ternary s.text.bytes limit n x j) (sym g) (subst (λ (n : Bytes). value Ternary n limit i x j) (sym same_bytes) h)

  here : {x : Measured} {r : Position} → IsOnly (value Ternary) s x r → is_read b i x.expression x.depth r.at
  unfolding is_read
  here {x} {r} p = (s.left, from_position s.left x r.at p.reads)

  shallow : {x : Measured} {r : Position} → IsOnly (value Ternary) s x r → x.depth ≤ max_depth
  shallow {x} {r} p = into Ternary s.text.bytes max_depth s.at x r.at (subst (λ (n : ℕ). value Ternary s.text.bytes n s.at x r.at) l p.reads)

  one : {x : Measured} {r : Position} → IsOnly (value Ternary) s x r → (y : Expression) (d k : ℕ) → is_read b i y d k → (y ≡ x.expression) × (d ≡ x.depth) × (k ≡ r.at)
  unfolding is_read
  one {x} {r} p y d k h =
      let same = p.only h.0 (record { expression = y; depth = d }) k (to_position h.0 (record { expression = y; depth = d }) k h.1) in
      (ap (λ (m : Measured). m.expression) same.0, ap (λ (m : Measured). m.depth) same.0, same.1)

  pub one_expression : {x : Measured} {r : Position} {y : Expression} {j : ℕ} → y ≡ x.expression → j ≡ r.at → j ≤ length r.text.bytes → ahead r < ahead s → IsOnly (value Ternary) s x r → IsExpression b i y j
  one_expression {x} {r} {y} {j} e k h d p =
      let at_end : r.at ≤ length b = subst (λ (n : ℕ). n ≤ length b) k (subst (λ (c : Bytes). j ≤ length c) (ap (λ (t : Text). t.bytes) (p.text ∙ w)) h) in
      let all : IsExpression b i x.expression r.at = record { depth = x.depth; is = here p; deep = shallow p; only = one p; forward = subst (λ (n : ℕ). n < r.at) g (further s r p.text d); within = at_end } in
      subst (λ (z : Expression). IsExpression b i z j) (sym e) (subst (λ (n : ℕ). IsExpression b i x.expression n) (sym k) all)

  never : ((limit : ℕ) (x : Measured) (j : ℕ) → value Ternary s.text.bytes limit s.at x j → ⊥) → Never b i
  unfolding is_read
  never h x d j k = h k.0 (record { expression = x; depth = d }) j (to_position k.0 (record { expression = x; depth = d }) j k.1)

  none : ((x : Measured) (j : ℕ) → value Ternary s.text.bytes s.left s.at x j → ⊥) → HasNone b i
  unfolding is_read
  none h x d j k = above (λ e.
      let y : Measured = record { expression = x; depth = d } in
      h y j (back Ternary s.text.bytes s.left s.at y j k.0 (to_position k.0 y j k.1) (omega (arith, e, l))))

  pub no_expression : (stop : Stop) → Refuses (value Ternary) s stop → (plain_fault stop ≡ fault.NoMemory) ⊎ IsRefusal b i (plain_fault stop)
  no_expression (Syntax n) p = inr (never (p.never tt), subst (λ (t : Text). IsCause (Syntax n) t) w p.cause)
  no_expression (OpenComment n) p = inr (never (p.never tt), subst (λ (t : Text). IsCause (OpenComment n) t) w p.cause)
  no_expression (NestedSort n) p = inr (never (p.never tt), (subst (λ (t : Text). IsCause (NestedSort n) t) w p.cause).within)
  no_expression (TooDeep n) p = inr (none (p.none tt), subst (λ (t : Text). IsCause (TooDeep n) t) w p.cause)
  no_expression NoMemory p = inl refl
