-- Names and scripts are lists of bytes.
use Rattle.std.specs.Prelude.{ℕ, List, [], Option, Some, None}

-- the bytes of a name
abbrev pub Name : Type 0
Name = List ℕ

-- the bytes of a script
abbrev pub Bytes : Type 0
Bytes = List ℕ

-- the name, or the empty one where there is none
abbrev pub or_empty : Option Name → Name
or_empty (Some name) = name
or_empty None = []
