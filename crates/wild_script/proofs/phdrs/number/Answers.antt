use Rattle.wild_reading.proofs.Readers.{answers_ok, give_by}
use Rattle.wild_script.proofs.phdrs.number.Goals as goal

pub returns-in_ok-new-in-Some : goal.returns-in_ok-new-in-Some
returns-in_ok-new-in-Some c = rw c.in-Some.is (answers_ok (give_by c.in_ok-new-in-Some.ensures))
