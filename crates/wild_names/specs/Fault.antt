-- The numbers of faults, and the errors of scripts that they tell of.
use Rattle.std.specs.Prelude.{ℕ, Option, Some, None}
use Rattle.wild_names.specs.declared.fault.Fault.{Fault}
use Rattle.wild_names.specs.declared.fault.Fault.TheVariants as fault
use Rattle.wild_names.specs.declared.script_error.LinkerScriptError.{LinkerScriptError}
use Rattle.wild_names.specs.declared.script_error.LinkerScriptError.TheVariants as error

-- the number of a fault, which stays the same from one version to the next
abbrev pub number_of : Fault → ℕ
number_of (fault.Syntax position) = 1
number_of (fault.UnclosedComment position) = 2
number_of (fault.UnsupportedNestedSort position) = 3
number_of (fault.TooDeep position) = 4
number_of (fault.BadRow row) = 5
number_of (fault.BadSymbolRow symbol) = 6
number_of (fault.BadDiscard statement) = 7
number_of (fault.BadPattern statement name) = 8
number_of (fault.BadName statement) = 9
number_of (fault.BadAlignment statement value) = 10
number_of (fault.BadFill statement value) = 11
number_of (fault.BadHeader index value) = 12
number_of (fault.NotConstant statement) = 13
number_of (fault.DuplicateSection name) = 14
number_of (fault.DuplicateSymbol name) = 15
number_of (fault.DuplicateName name) = 16
number_of (fault.OutputFormat name) = 17
number_of (fault.UnknownRegion name) = 18
number_of (fault.UnknownPhdr name) = 19
number_of (fault.TooManySections count) = 20
number_of (fault.TooManySegments segments) = 21
number_of (fault.DivisionByZero statement) = 22
number_of (fault.ModuloByZero statement) = 23
number_of (fault.AlignZero statement) = 24
number_of (fault.UnknownSection name) = 25
number_of (fault.UnknownSymbol name) = 26
number_of (fault.NotLaidOut statement name) = 27
number_of (fault.SymbolCycle name) = 28
number_of (fault.DeepValue statement) = 29
number_of (fault.BeforeSection name) = 30
number_of (fault.MovesBack statement from to) = 31
number_of (fault.Overlap first second) = 32
number_of (fault.RegionFull region «section») = 33
number_of (fault.Overflow left right) = 34
number_of (fault.AlignOverflow value align) = 35
number_of (fault.AssertFailed line message) = 36
number_of fault.NoMemory = 37

-- an open comment and a nested sort are errors of a script
abbrev pub script_error_of : Fault → Option LinkerScriptError
script_error_of (fault.UnclosedComment position) = Some error.UnclosedComment
script_error_of (fault.UnsupportedNestedSort position) = Some error.UnsupportedNestedSort
script_error_of f = None
