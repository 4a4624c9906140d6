-- What references point to.
use Rattle.std.specs.Prelude.{List, map}
use denote.Ref.{Bor}

-- the values that these references point to
abbrev pub targets : {A : Type 0} → List (Bor A) → List A
targets xs = map (λ x. x.now) xs
