-- What a grammar is made of.
use Rattle.std.specs.Prelude.{◌≡◌, ℕ, zero, suc, Bool, true, false, List, [], ◌∷◌, Option, Some}
use Rattle.wild_reading.specs.Position.{Bytes}

-- A reader relates bytes, a limit of depth and a position to a value that is read there, and to the position after it.
abbrev pub Reader : Type 0 → Type 1
Reader X = Bytes → ℕ → ℕ → X → ℕ → Type 0

-- P, and after it what f says of P's value
pub record Then {A B : Type 0} (P : Reader A) (f : A → Reader B) (b : Bytes) (limit i : ℕ) (y : B) (j : ℕ) : Type 0 where
  pub value : A
  pub middle : ℕ
  pub first : P b limit i value middle
  pub second : f value b limit middle y j

-- P, and after it what P's value is given to
infixl 10 ◌>>=◌
abbrev pub ◌>>=◌ : {A B : Type 0} → Reader A → (A → Reader B) → Reader B
P >>= f = Then P f

-- P, and after it Q
infixl 10 ◌>>◌
abbrev pub ◌>>◌ : {A B : Type 0} → Reader A → Reader B → Reader B
P >> Q = P >>= (λ _. Q)

-- the value, of no bytes
pub record Give {A : Type 0} (x : A) (b : Bytes) (limit i : ℕ) (y : A) (j : ℕ) : Type 0 where
  pub value : y ≡ x
  pub end : j ≡ i

-- the position, of no bytes
pub record Here (b : Bytes) (limit i : ℕ) (y : ℕ) (j : ℕ) : Type 0 where
  pub value : y ≡ i
  pub end : j ≡ i

-- as a step
unfoldable pub here : Reader ℕ
here = Here

-- no bytes, where the test holds of what is ahead
pub record Ahead (test : Bytes → ℕ → Bool) (b : Bytes) (limit i : ℕ) (y : Unit {0}) (j : ℕ) : Type 0 where
  pub holds : test b i ≡ true
  pub end : j ≡ i

-- no bytes, where the condition holds
unfoldable pub check : Bool → Reader (Unit {0})
check c = Ahead (λ _ _. c)

-- nothing
pub record Nothing {A : Type 0} (b : Bytes) (limit i : ℕ) (y : A) (j : ℕ) : Type 0 where
  pub never : ⊥

-- up to where the function says
pub record Passes (f : Bytes → ℕ → Option ℕ) (b : Bytes) (limit i : ℕ) (y : Unit {0}) (j : ℕ) : Type 0 where
  pub found : f b i ≡ Some j

-- the value and the end that the function finds
pub record Takes {A : Type 0} (f : Bytes → ℕ → Option (A × ℕ)) (b : Bytes) (limit i : ℕ) (y : A) (j : ℕ) : Type 0 where
  pub found : f b i ≡ Some (y, j)

-- P where the test holds of what is ahead, and else Q
pub data Choice {A : Type 0} (test : Bytes → ℕ → Bool) (P Q : Reader A) (b : Bytes) (limit i : ℕ) (y : A) (j : ℕ) : Type 0 where
  yes : test b i ≡ true → P b limit i y j → Choice test P Q b limit i y j
  no : test b i ≡ false → Q b limit i y j → Choice test P Q b limit i y j

-- P where the condition holds, and else Q
abbrev pub If : {A : Type 0} → Bool → Reader A → Reader A → Reader A
If c P Q = Choice (λ _ _. c) P Q

-- one after another, up to where the test holds of what is ahead
pub data Until {A : Type 0} (stop : Bytes → ℕ → Bool) (item : Reader A) (b : Bytes) (limit : ℕ) : ℕ → List A → ℕ → Type 0 where
  none : {i : ℕ} → stop b i ≡ true → Until stop item b limit i [] i
  more : {i m j : ℕ} {x : A} {xs : List A} → stop b i ≡ false → item b limit i x m → Until stop item b limit m xs j → Until stop item b limit i (x ∷ xs) j

-- ---- what nests

-- what the function makes of nothing, so many times
unfoldable pub level : {A : Type 0} → (Reader A → Reader A) → ℕ → Reader A
level F zero b limit i y j = ⊥
level F (suc n) b limit i y j = F (level F n) b n i y j

-- what the function makes of itself, one deeper
pub record Inside {A : Type 0} (F : Reader A → Reader A) (b : Bytes) (limit i : ℕ) (y : A) (j : ℕ) : Type 0 where
  pub is : level F limit b limit i y j
