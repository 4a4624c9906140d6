use Rattle.wild_reading.proofs.Readers.{answers_err}
use Rattle.wild_expression_words.proofs.Operations.{sign_reads, sign_missing, sign_stands}
use Rattle.wild_expression_words.proofs.operators.pass_sign.Goals as goal

pub returns-in_err-byte-in-Some-clause-read : goal.returns-in_err-byte-in-Some-clause-read
returns-in_err-byte-in-Some-clause-read c = answers_err c.from_residual.ensures.1 (sign_stands c.bytes.ensures c.position-position.ensures.value c.in-Some.ensures.value c.sign_byte.ensures c.in_err-byte-in-Some.ensures.read.err)

pub returns-in_ok-byte-in-Some-clause-read : goal.returns-in_ok-byte-in-Some-clause-read
returns-in_ok-byte-in-Some-clause-read c = sign_reads c.bytes.ensures c.position-position.ensures.value c.in-Some.ensures.value c.sign_byte.ensures c.in_ok-byte-in-Some.ensures.read.ok

pub returns-in-None-clause-read : goal.returns-in-None-clause-read
returns-in-None-clause-read c = sign_missing c.bytes.ensures c.position-position.ensures.value c.in-None.ensures.value c.position-position.ensures.within
