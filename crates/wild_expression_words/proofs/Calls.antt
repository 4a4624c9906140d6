-- A call by its word.
use Rattle.std.proofs.Common.{◌≡◌, sym, subst, Option, Some}
use Rattle.std.specs.Prelude.{Ok}
use Rattle.wild_reading.specs.Position.{Position}
use Rattle.wild_reading.specs.Only.{Answers}
use Rattle.wild_reading.proofs.Readers.{answers_ok, give_only}
use Rattle.wild_expression_words.specs.declared.words.Call.{Call}
use Rattle.wild_expression_words.specs.declared.words.Head.TheVariants.{Before}
use Rattle.wild_expression_words.specs.Words.{known_call}

pub before_answers : {o : Option Call} {call : Call} {s : Position} → o ≡ Some call → Answers (known_call o) s s (Ok (Before call))
before_answers {o} {call} {s} e = subst (λ (k : Option Call). Answers (known_call k) s s (Ok (Before call))) (sym e) (answers_ok give_only)
