-- What is planned.
use Rattle.std.specs.Prelude.{List}
use Rattle.wild_script_tree.specs.declared.tree.Command.{Command}
use Rattle.wild_plan_spec.specs.declared.options.PlanOptions.{PlanOptions}
use Rattle.wild_plan_spec.specs.declared.row.InputTable.{InputTable}
use Rattle.wild_plan_spec.specs.Names.{Bytes}

-- the bytes of a script and the commands of its tree, the rows and symbols of a table, and what the plan is made for
pub record Case : Type 0 where
  pub script : Bytes
  pub commands : List Command
  pub inputs : InputTable
  pub options : PlanOptions
