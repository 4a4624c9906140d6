-- How faults are printed.
use Rattle.std.specs.Prelude.{ℕ, ◌-◌, List, [], ◌∷◌, ◌++◌, slice_index_or, codes, decimal}
use Rattle.wild_names.specs.Fault.{number_of}
use Rattle.wild_names.specs.declared.fault.Fault.{Fault}
use Rattle.wild_names.specs.declared.fault.Fault.TheVariants as fault
use Rattle.wild_plan_spec.specs.Text.{field, printed_name}

-- the names of faults, by their numbers from 1 on
abbrev pub variant_names : List (List ℕ)
variant_names =
    codes "Syntax" ∷ codes "UnclosedComment" ∷ codes "UnsupportedNestedSort" ∷ codes "TooDeep"
    ∷ codes "BadRow" ∷ codes "BadSymbolRow" ∷ codes "BadDiscard" ∷ codes "BadPattern" ∷ codes "BadName"
    ∷ codes "BadAlignment" ∷ codes "BadFill" ∷ codes "BadHeader" ∷ codes "NotConstant"
    ∷ codes "DuplicateSection" ∷ codes "DuplicateSymbol" ∷ codes "DuplicateName" ∷ codes "OutputFormat"
    ∷ codes "UnknownRegion" ∷ codes "UnknownPhdr" ∷ codes "TooManySections" ∷ codes "TooManySegments"
    ∷ codes "DivisionByZero" ∷ codes "ModuloByZero" ∷ codes "AlignZero" ∷ codes "UnknownSection"
    ∷ codes "UnknownSymbol" ∷ codes "NotLaidOut" ∷ codes "SymbolCycle" ∷ codes "DeepValue"
    ∷ codes "BeforeSection" ∷ codes "MovesBack" ∷ codes "Overlap" ∷ codes "RegionFull" ∷ codes "Overflow"
    ∷ codes "AlignOverflow" ∷ codes "AssertFailed" ∷ codes "NoMemory" ∷ []

-- the name of a fault
abbrev pub variant_name : Fault → List ℕ
variant_name f = slice_index_or variant_names (number_of f - 1) []

-- a field of a fault: ` WORD=TEXT`
unfoldable pub fault_field : List ℕ → List ℕ → List ℕ
fault_field word text = field (word ++ 61 ∷ text)

-- where a fault is: the number of a byte, a row, a symbol, a statement, a header or a line
unfoldable pub where_field : Fault → List ℕ
where_field (fault.Syntax position) = fault_field (codes "position") (decimal position)
where_field (fault.UnclosedComment position) = fault_field (codes "position") (decimal position)
where_field (fault.UnsupportedNestedSort position) = fault_field (codes "position") (decimal position)
where_field (fault.TooDeep position) = fault_field (codes "position") (decimal position)
where_field (fault.BadRow row) = fault_field (codes "row") (decimal row)
where_field (fault.BadSymbolRow symbol) = fault_field (codes "symbol") (decimal symbol)
where_field (fault.BadDiscard statement) = fault_field (codes "statement") (decimal statement)
where_field (fault.BadPattern statement name) = fault_field (codes "statement") (decimal statement)
where_field (fault.BadName statement) = fault_field (codes "statement") (decimal statement)
where_field (fault.BadAlignment statement value) = fault_field (codes "statement") (decimal statement)
where_field (fault.BadFill statement value) = fault_field (codes "statement") (decimal statement)
where_field (fault.BadHeader index value) = fault_field (codes "index") (decimal index)
where_field (fault.NotConstant statement) = fault_field (codes "statement") (decimal statement)
where_field (fault.DivisionByZero statement) = fault_field (codes "statement") (decimal statement)
where_field (fault.ModuloByZero statement) = fault_field (codes "statement") (decimal statement)
where_field (fault.AlignZero statement) = fault_field (codes "statement") (decimal statement)
where_field (fault.NotLaidOut statement name) = fault_field (codes "statement") (decimal statement)
where_field (fault.DeepValue statement) = fault_field (codes "statement") (decimal statement)
where_field (fault.MovesBack statement from to) = fault_field (codes "statement") (decimal statement)
where_field (fault.AssertFailed line message) = fault_field (codes "line") (decimal line)
where_field f = []

-- what else is said of a fault: names and numbers
unfoldable pub what_fields : Fault → List ℕ
what_fields (fault.BadPattern statement name) = fault_field (codes "name") (printed_name name)
what_fields (fault.BadAlignment statement value) = fault_field (codes "value") (decimal value)
what_fields (fault.BadFill statement value) = fault_field (codes "value") (decimal value)
what_fields (fault.BadHeader index value) = fault_field (codes "value") (decimal value)
what_fields (fault.DuplicateSection name) = fault_field (codes "name") (printed_name name)
what_fields (fault.DuplicateSymbol name) = fault_field (codes "name") (printed_name name)
what_fields (fault.DuplicateName name) = fault_field (codes "name") (printed_name name)
what_fields (fault.OutputFormat name) = fault_field (codes "name") (printed_name name)
what_fields (fault.UnknownRegion name) = fault_field (codes "name") (printed_name name)
what_fields (fault.UnknownPhdr name) = fault_field (codes "name") (printed_name name)
what_fields (fault.TooManySections count) = fault_field (codes "count") (decimal count)
what_fields (fault.TooManySegments segments) = fault_field (codes "segments") (decimal segments)
what_fields (fault.UnknownSection name) = fault_field (codes "name") (printed_name name)
what_fields (fault.UnknownSymbol name) = fault_field (codes "name") (printed_name name)
what_fields (fault.NotLaidOut statement name) = fault_field (codes "name") (printed_name name)
what_fields (fault.SymbolCycle name) = fault_field (codes "name") (printed_name name)
what_fields (fault.BeforeSection name) = fault_field (codes "name") (printed_name name)
what_fields (fault.MovesBack statement from to) = fault_field (codes "from") (decimal from) ++ fault_field (codes "to") (decimal to)
what_fields (fault.Overlap first second) = fault_field (codes "first") (printed_name first) ++ fault_field (codes "second") (printed_name second)
what_fields (fault.RegionFull region «section») = fault_field (codes "region") (printed_name region) ++ fault_field (codes "section") (printed_name «section»)
what_fields (fault.Overflow left right) = fault_field (codes "left") (decimal left) ++ fault_field (codes "right") (decimal right)
what_fields (fault.AlignOverflow value align) = fault_field (codes "value") (decimal value) ++ fault_field (codes "align") (decimal align)
what_fields (fault.AssertFailed line message) = fault_field (codes "message") (printed_name message)
what_fields f = []

-- `fault NUMBER VARIANT`, and the fields, each with its name
abbrev pub fault_text : Fault → List ℕ
fault_text f = codes "fault" ++ field (decimal (number_of f)) ++ field (variant_name f) ++ where_field f ++ what_fields f
