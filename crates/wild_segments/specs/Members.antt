-- What segments look at in output sections and in program headers.
use Rattle.std.specs.Prelude.{ℕ, Bool, List, Option}
use Rattle.wild_names.specs.declared.input_flags.InputFlags.{InputFlags}

-- an output section
pub record Member : Type 0 where
  pub flags : InputFlags
  -- it moves the counter
  pub counted : Bool
  -- the name of its memory region
  pub region : Option (List ℕ)
  -- its script says where it starts
  pub has_start : Bool
  -- the names of the program headers that hold it
  pub headers : List (List ℕ)

-- a program header of a script
pub record Header : Type 0 where
  pub name : List ℕ
  pub ptype : ℕ
  -- what it says of flags
  pub flags : Option ℕ
  pub has_filehdr : Bool
  pub has_phdrs : Bool
