use Rattle.std.proofs.Common.{arith}
use Rattle.wild_reading.proofs.Readers.{answers_ok, answers_refused}
use Rattle.wild_reading.proofs.Families.{room_only, room_refuses}
use Rattle.wild_reading.proofs.cursor.Cursor.room.Goals as goal

pub returns-then-depth-depth_left-clause-read : goal.returns-then-depth-depth_left-clause-read
returns-then-depth-depth_left-clause-read c =
    answers_refused (room_refuses (omega arith) (record { within = c.position.ensures.within; marks = rw c.position.ensures.value (omega (arith, c.requires.paid)) }))

pub returns-clause-read : goal.returns-clause-read
returns-clause-read c = answers_ok (room_only (omega arith))
