use Rattle.wild_reading.proofs.Readers.{answers_ok, bind_only, give_only}
use Rattle.wild_script.specs.Phdrs.{header}
use Rattle.wild_script.proofs.phdrs.header.Goals as goal

pub returns-clause-read : goal.returns-clause-read
unfolding header
returns-clause-read c =
    answers_ok (bind_only c.in_ok-name.ensures.read.ok (bind_only c.in_ok-ptype.ensures.ok
    (bind_only (rw c.into_inner.ensures at c.in_ok-whole.ensures.ok) (bind_only c.in_ok-optional_symbol.ensures.ok give_only))))
