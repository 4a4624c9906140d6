-- What addresses tell of a layout.
use Rattle.std.specs.Prelude.{ℕ, List, Option, None}
use Rattle.std.specs.List.{slice_index_or}
use Rattle.wild_eval.specs.declared.addresses.Addresses.{Addresses}
use Rattle.wild_value_spec.specs.Known.{Start, Load, End, Address, Dot, LoadDot, Known}

-- what is known at an index: nothing behind the end
abbrev pub known_at : List (Option ℕ) → ℕ → Option ℕ
known_at numbers i = slice_index_or numbers i None

-- what is known of each thing that may be asked
abbrev pub known_of : Addresses → Known
known_of a (Start s) = known_at a.starts.items s
known_of a (Load s) = known_at a.loads.items s
known_of a (End s) = known_at a.ends.items s
known_of a (Address r) = known_at a.rows.items r
known_of a (Dot p) = known_at a.dots.items p
known_of a (LoadDot p) = known_at a.load_dots.items p
