use Rattle.wild_reading.specs.Lex.{sort_bracket}
use Rattle.wild_reading.proofs.Readers.{answers_err, bind_refuses}
use Rattle.wild_patterns.proofs.pattern.sort_bracket.Goals as goal

pub returns-in_err-sort_word-clause-read : goal.returns-in_err-sort_word-clause-read
unfolding sort_bracket
returns-in_err-sort_word-clause-read c = answers_err c.from_residual.ensures.1 (bind_refuses c.in_err-sort_word.ensures.read.err)
