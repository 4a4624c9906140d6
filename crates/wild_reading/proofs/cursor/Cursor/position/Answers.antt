use Rattle.std.proofs.Common.{refl}
use Rattle.wild_reading.proofs.Readers.{here_only}
use Rattle.wild_reading.proofs.cursor.Cursor.position.Goals as goal

pub returns-clause-read : goal.returns-clause-read
returns-clause-read c = here_only (rw (← c.self.view_is) refl)
