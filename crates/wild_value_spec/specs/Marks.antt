-- Values with their marks and their heights.
use Rattle.std.specs.Prelude.{ℕ, ◌+◌, max, true, false, ◌||◌}
use Rattle.wild_value_spec.specs.declared.value.Value.{Value}

-- the greatest height: work begins with so many levels
abbrev pub max_height : ℕ
max_height = 1024

-- a number that is no node
abbrev pub bare : ℕ → Value
bare n = record { number = n; relative = false; absolute = false; height = 0 }

-- a leaf with no mark
abbrev pub unmarked : ℕ → Value
unmarked n = record { number = n; relative = false; absolute = false; height = 1 }

-- with the absolute mark: an address
abbrev pub absolutely : ℕ → Value
absolutely n = record { number = n; relative = false; absolute = true; height = 1 }

-- with the relative mark: counted from the start of a section
abbrev pub relatively : ℕ → Value
relatively n = record { number = n; relative = true; absolute = false; height = 1 }

-- an address, over parts that are so high
abbrev pub absolutely_over : ℕ → ℕ → Value
absolutely_over n height = record { number = n; relative = false; absolute = true; height = height + 1 }

-- counted from the start of a section, over parts that are so high
abbrev pub relatively_over : ℕ → ℕ → Value
relatively_over n height = record { number = n; relative = true; absolute = false; height = height + 1 }

-- a node over one part: it is one higher, and has the marks of the part
abbrev pub over : ℕ → Value → Value
over n x = record { number = n; relative = x.relative; absolute = x.absolute; height = x.height + 1 }

-- a node over one part with its number, which becomes an address, too
abbrev pub addressed_over : Value → Value
addressed_over x = record { number = x.number; relative = x.relative; absolute = true; height = x.height + 1 }

-- a node over two parts, with the marks of both
abbrev pub over_both : ℕ → Value → Value → Value
over_both n x y = record {
  number = n;
  relative = x.relative || y.relative;
  absolute = x.absolute || y.absolute;
  height = max x.height y.height + 1;
}

-- a node over two parts that keep their marks
abbrev pub unmarked_over : ℕ → Value → Value → Value
unmarked_over n x y = record { number = n; relative = false; absolute = false; height = max x.height y.height + 1 }
