use Rattle.std.proofs.Common.{arith}
use Rattle.wild_reading.proofs.Readers.{answers_err}
use Rattle.wild_expression_words.proofs.Operations.{operator_reads, operator_missing, operator_stands, operator_marks, byte_end, marked_on}
use Rattle.wild_expression_words.proofs.operators.pass_operator.Goals as goal

pub returns-in_err-byte-in-Some-clause-read : goal.returns-in_err-byte-in-Some-clause-read
returns-in_err-byte-in-Some-clause-read c =
    answers_err c.from_residual.ensures.1 (operator_stands c.args.level c.bytes.ensures c.position-position.ensures.value c.in-Some.ensures.value c.first_byte.ensures c.in_err-byte-in-Some.ensures.read.err)

pub returns-in_ok-byte-in-Some-clause-read : goal.returns-in_ok-byte-in-Some-clause-read
returns-in_ok-byte-in-Some-clause-read c =
    operator_reads c.args.level c.bytes.ensures c.position-position.ensures.value c.in-Some.ensures.value c.first_byte.ensures c.width.ensures.value c.in_ok-byte-in-Some.ensures.read.ok c.pass_to.ensures.text c.pass_to.ensures.at c.pass_to.ensures.left

pub pass_to-requires-clause-forward : goal.pass_to-requires-clause-forward
pass_to-requires-clause-forward c = omega (arith, byte_end c.first_byte.result c.in_ok-byte-in-Some.ensures.read.ok, c.width.ensures.some, c.position-position.ensures.value)

pub returns-in_ok-byte-in-Some-clause-marked : goal.returns-in_ok-byte-in-Some-clause-marked
returns-in_ok-byte-in-Some-clause-marked c =
    marked_on (c.in_ok-byte-in-Some.ensures.marked (rw c.first_byte.ensures (operator_marks c.in-Some.operator))) c.pass_to.ensures.text c.pass_to.ensures.left
    (omega (arith, byte_end c.first_byte.result c.in_ok-byte-in-Some.ensures.read.ok, c.pass_to.ensures.at, c.width.ensures.some, c.position-position.ensures.value))

pub returns-in-None-clause-read : goal.returns-in-None-clause-read
returns-in-None-clause-read c = operator_missing c.args.level c.bytes.ensures c.position-position.ensures.value c.in-None.ensures.value c.position-position.ensures.within
