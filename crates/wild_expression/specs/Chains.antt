-- A chain of operators of one level as a list of operators and operands, grouped to the left.
use Rattle.std.specs.Prelude.{◌≡◌, ◌↔◌, ℕ, ◌<◌, true, false, List, [], ◌∷◌}
use Rattle.wild_reading.specs.Position.{Bytes}
use Rattle.wild_expression_words.specs.declared.operators.Level.{Level}
use Rattle.wild_expression_words.specs.declared.operators.Operator.{Operator}
use Rattle.wild_expression.specs.declared.measured.Measured.{Measured}
use Rattle.wild_expression_words.specs.Operators.{operand, operator, ends, is_chain}
use Rattle.wild_expression.specs.Grammar.{binary_tree, value, inner_value}

-- an operator and the operand after it
pub record Link : Type 0 where
  pub operator : Operator
  pub operand : Measured

-- grouped to the left
abbrev pub grouped : Measured → List Link → Measured
grouped x [] = x
grouped x (link ∷ links) = grouped (binary_tree link.operator x link.operand) links

module _ (level : Level) (b : Bytes) (limit : ℕ) where
  -- From i to j an operator of the level and its operand are read, after what has that depth.
  pub record IsLink (depth i : ℕ) (link : Link) (j : ℕ) : Type 0 where
    pub more : ends level b i ≡ false
    pub middle : ℕ
    pub operator : operator level b limit i link.operator middle
    pub room : depth < limit
    pub operand : inner_value (operand level) b limit middle link.operand j

  -- the links are read one after the other, and no operator of the level is after the last
  abbrev pub Links : Measured → ℕ → List Link → ℕ → Type 0
  Links x i [] j = (ends level b i ≡ true) × (j ≡ i)
  Links x i (link ∷ links) j = (k : ℕ) × IsLink x.depth i link k × Links (binary_tree link.operator x link.operand) k links j

  -- a first operand, and the links after it
  pub record IsChain (i : ℕ) (y : Measured) (j : ℕ) : Type 0 where
    pub first : Measured
    pub middle : ℕ
    pub links : List Link
    pub reads : value (operand level) b limit i first middle
    pub follow : Links first middle links j
    pub is : y ≡ grouped first links

-- what a level of chains reads is a chain
abbrev pub ChainsAreLists : Type 0
ChainsAreLists = (level : Level) → is_chain level ≡ true → (b : Bytes) (limit i : ℕ) (y : Measured) (j : ℕ) → value level b limit i y j ↔ IsChain level b limit i y j
