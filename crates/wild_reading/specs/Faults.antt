-- The faults of what stops reading.
use Rattle.wild_names.specs.declared.fault.Fault.{Fault}
use Rattle.wild_names.specs.declared.fault.Fault.TheVariants as fault
use Rattle.wild_reading.specs.declared.stop.Stop.{Stop}
use Rattle.wild_reading.specs.declared.stop.Stop.TheVariants as stop

-- which fault says why reading stopped
abbrev pub fault_of : Stop → Fault
fault_of (stop.Syntax position) = fault.Syntax position
fault_of (stop.OpenComment position) = fault.UnclosedComment position
fault_of (stop.NestedSort position) = fault.UnsupportedNestedSort position
fault_of (stop.TooDeep position) = fault.TooDeep position
fault_of stop.NoMemory = fault.NoMemory
