-- Less is ahead after what takes a byte.
use Rattle.std.proofs.Common.{◌≤◌, ◌<◌, ℕ, arith}
use Rattle.std.specs.Prelude.{Result, Ok, Err}
use Rattle.std.specs.Result.{OnOk}
use Rattle.wild_reading.specs.Position.{Position, ahead}
use Rattle.wild_reading.specs.Reader.{Reader}
use Rattle.wild_reading.specs.Only.{Answers}
use Rattle.wild_reading.specs.declared.stop.Stop.{Stop}

-- where what stood before took some
pub less_before : {A : Type 0} (result : Result A Stop) (n m k : ℕ) → m ≤ k → OnOk result (n < m) → OnOk result (n < k)
less_before (Ok x) n m k l h = omega (arith, l, h)
less_before (Err e) n m k l h = tt

-- where what is read after takes none
pub less_behind : {A : Type 0} {R : Reader A} (s r : Position) (result : Result A Stop) (n : ℕ) → Answers R s r result → ahead s < n → OnOk result (ahead r < n)
less_behind s r (Ok x) n h l = omega (arith, l, h.ok.shrinks)
less_behind s r (Err e) n h l = tt

pub ruleset shorter = (less_before, less_behind)
