-- Which plan fits the bytes of a script and a table, and which fault stands there instead.
use Rattle.std.specs.Prelude.{◌≡◌, ◌⊎◌}
use Rattle.wild_names.specs.declared.fault.Fault.{Fault}
use Rattle.wild_script.specs.Tree.{Bytes, tree, IsParseFault}
use Rattle.wild_script.specs.declared.tree.LinkerScript.{LinkerScript}
use Rattle.wild_plan_spec.specs.declared.options.PlanOptions.{PlanOptions}
use Rattle.wild_plan_spec.specs.declared.row.InputTable.{InputTable}
use Rattle.wild_plan_spec.specs.Case.{Case}
use Rattle.wild_plan_spec.specs.Fit.{Fits, FaultIn}
use Rattle.wild_plan_spec.specs.Layout.{Layout}
use Rattle.wild_plan_spec.specs.Settled.{IsSettled}

module _ (script : Bytes) (inputs : InputTable) (options : PlanOptions) where
  -- the case of this tree
  abbrev pub case_of : LinkerScript → Case
  case_of t = record { script = script; commands = t.commands; inputs = inputs; options = options }

  -- a plan that fits a tree of the bytes
  pub record IsPlan (plan : Layout) : Type 0 where
    pub script_tree : LinkerScript
    pub is_tree : tree script script_tree
    pub fits : Fits (case_of script_tree) plan

  -- the fault of a tree of the bytes, and the table
  pub record IsLaterFault (fault : Fault) : Type 0 where
    pub script_tree : LinkerScript
    pub is_tree : tree script script_tree
    pub fault_in : FaultIn (case_of script_tree) fault

  -- the bytes have no tree, or the tree and the table have this fault
  abbrev pub IsFault : Fault → Type 0
  IsFault fault = IsParseFault script fault ⊎ IsLaterFault fault

  -- It is the one plan that fits, and there is no fault. What its script sets and defines is worth its expressions over the
  -- finished table, and no condition is 0.
  pub record IsThePlan (plan : Layout) : Type 0 where
    pub is : IsPlan plan
    pub only : (other : Layout) → IsPlan other → other ≡ plan
    pub no_fault : (fault : Fault) → IsFault fault → ⊥
    pub settled : (f : IsPlan plan) → IsSettled (case_of f.script_tree) f.fits.state.known plan

  -- There is this fault, and no plan fits. Where the bytes have a tree it is the one fault.
  pub record IsTheFault (fault : Fault) : Type 0 where
    pub is : IsFault fault
    pub none_fits : (plan : Layout) → IsPlan plan → ⊥
    pub only : (other : Fault) → IsFault other → (other ≡ fault) ⊎ (IsParseFault script other × IsParseFault script fault)
