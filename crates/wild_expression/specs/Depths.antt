-- What a limit of depth allows.
use Rattle.std.specs.Prelude.{◌↔◌, ℕ, ◌≤◌}
use Rattle.wild_reading.specs.Position.{Bytes}
use Rattle.wild_expression_words.specs.declared.operators.Level.{Level}
use Rattle.wild_expression.specs.declared.measured.Measured.{Measured}
use Rattle.wild_expression.specs.Grammar.{value}

-- it is read there within some limit
abbrev pub IsRead : Level → Bytes → ℕ → Measured → ℕ → Type 0
IsRead level b i x j = (limit : ℕ) × value level b limit i x j

-- within a limit is read what is read within any, and is no deeper
abbrev pub DepthsAreBudgets : Type 0
DepthsAreBudgets = (level : Level) (b : Bytes) (limit i : ℕ) (x : Measured) (j : ℕ) → value level b limit i x j ↔ (IsRead level b i x j × (x.depth ≤ limit))
