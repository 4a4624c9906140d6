use Rattle.wild_expression_words.proofs.Calls.{before_answers}
use Rattle.wild_expression_words.proofs.words.known_call.Goals as goal

pub returns-in-Some : goal.returns-in-Some
returns-in-Some c = before_answers c.in-Some.is
