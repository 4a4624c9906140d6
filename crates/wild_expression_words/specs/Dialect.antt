-- What differs between grammars.
use Rattle.wild_reading.specs.Reader.{Reader}
use Rattle.wild_reading.specs.Lex.{white}

-- what a grammar chooses
pub record Dialect : Type 1 where
  -- what is passed between the parts of an expression
  pub between : Reader (Unit {0})

-- white alone is passed
abbrev pub first_grammar : Dialect
first_grammar = record { between = white }
