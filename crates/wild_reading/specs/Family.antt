-- Readers by a key, that nest in one another; and folds.
use Rattle.std.specs.Prelude.{◌≡◌, ℕ, zero, suc, ◌<◌, Bool, true, false}
use Rattle.wild_reading.specs.Position.{Bytes}
use Rattle.wild_reading.specs.Reader.{Reader}

-- what the function makes of nothing, so many times
unfoldable pub levels : {I A : Type 0} → ((I → Reader A) → I → Reader A) → ℕ → I → Reader A
levels F zero k b limit i y j = ⊥
levels F (suc n) k b limit i y j = F (levels F n) k b n i y j

-- what the function makes of itself, one deeper
pub record InsideAt {I A : Type 0} (F : (I → Reader A) → I → Reader A) (k : I) (b : Bytes) (limit i : ℕ) (y : A) (j : ℕ) : Type 0 where
  pub is : levels F limit k b limit i y j

-- no bytes, where what has that depth may be one deeper
pub record HasRoom (depth : ℕ) (b : Bytes) (limit i : ℕ) (y : Unit {0}) (j : ℕ) : Type 0 where
  pub deep : depth < limit
  pub end : j ≡ i

-- as a step
unfoldable pub room : ℕ → Reader (Unit {0})
room depth = HasRoom depth

-- step after step, each from the value before, up to where the test holds of what is ahead
pub data Fold {A : Type 0} (stop : Bytes → ℕ → Bool) (step : A → Reader A) (b : Bytes) (limit : ℕ) : A → ℕ → A → ℕ → Type 0 where
  done : {x : A} {i : ℕ} → stop b i ≡ true → Fold stop step b limit x i x i
  next : {x y z : A} {i m j : ℕ} → stop b i ≡ false → step x b limit i y m → Fold stop step b limit y m z j → Fold stop step b limit x i z j

-- the whole of it, as a reader
pub record Folds {A : Type 0} (stop : Bytes → ℕ → Bool) (step : A → Reader A) (x : A) (b : Bytes) (limit i : ℕ) (y : A) (j : ℕ) : Type 0 where
  pub is : Fold stop step b limit x i y j
