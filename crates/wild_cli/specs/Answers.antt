-- What the parts of a run answer.
use Rattle.std.specs.Prelude.{◌≡◌, ◌<◌, ◌≤◌, ℕ, List, length, Option, Some, IfSome, Result, Ok, Err, Vec, ⊤}
use Rattle.std.specs.declared.alloc.Global.{Global}
use Rattle.wild_plan_spec.specs.declared.options.PlanOptions.{PlanOptions}
use Rattle.wild_plan_spec.specs.declared.row.InputTable.{InputTable}
use Rattle.wild_plan_spec.specs.Layout.{Layout}
use Rattle.wild_plan_spec.specs.Names.{Name}
use Rattle.wild_plan_spec.specs.Text.{plan_text}
use Rattle.wild_plan.specs.Planned.{IsThePlan, IsTheFault}
use Rattle.wild_cli.specs.Device.{Rose, max_length}
use Rattle.wild_cli.specs.Due.{Answer}
use Rattle.wild_cli.specs.declared.refusal.Refusal as r
use Rattle.wild_cli.specs.declared.refusal.Refusal.TheVariants.{Fault, Usage, NotLoaded, NoMemory, BadRecord, TooLong}

-- the fault, unless memory ran out
abbrev pub PlanRefused : List ℕ → InputTable → PlanOptions → r.Refusal → Type 0
PlanRefused script inputs options (Fault fault) = IsTheFault script inputs options fault
PlanRefused script inputs options NoMemory = ⊤
PlanRefused script inputs options Usage = ⊥
PlanRefused script inputs options (NotLoaded name) = ⊥
PlanRefused script inputs options (BadRecord index) = ⊥
PlanRefused script inputs options (TooLong name) = ⊥

-- the text of the one plan that fits, or why there is none
abbrev pub Plans : List ℕ → InputTable → PlanOptions → Answer → Type 0
Plans script inputs options (Ok text) = (plan : Layout) × IsThePlan script inputs options plan × (text ≡ plan_text plan)
Plans script inputs options (Err why) = PlanRefused script inputs options why

-- the content of a file of this name, or a refusal, and what the counts then show
abbrev pub LoadRefused : Name → Option (List ℕ) → r.Refusal → Type 0
LoadRefused name content (TooLong other) = (other ≡ name) × IfSome content (λ bytes. max_length < length bytes)
LoadRefused name content (NotLoaded other) = other ≡ name
LoadRefused name content NoMemory = ⊤
LoadRefused name content Usage = ⊥
LoadRefused name content (Fault fault) = ⊥
LoadRefused name content (BadRecord index) = ⊥

-- these bytes are the content, where it is told
abbrev pub LoadTold : Option (List ℕ) → List ℕ → Type 0
LoadTold content bytes = IfSome content (λ told. (bytes ≡ told) × (length told ≤ max_length))

-- the content of a file of this name, or why it is not had
abbrev pub LoadsFile : Name → Option (List ℕ) → Result (Vec ℕ Global) r.Refusal → Type 0
LoadsFile name content (Ok bytes) = LoadTold content bytes.items
LoadsFile name content (Err why) = LoadRefused name content why

-- the count of failed loads, where this refusal came
abbrev pub RefusalCounts : ℕ → ℕ → Option Name → r.Refusal → Type 0
RefusalCounts before now failed (NotLoaded name) = Rose before now × (failed ≡ Some name)
RefusalCounts before now failed (TooLong name) = now ≡ before
RefusalCounts before now failed NoMemory = now ≡ before
RefusalCounts before now failed Usage = now ≡ before
RefusalCounts before now failed (Fault fault) = now ≡ before
RefusalCounts before now failed (BadRecord index) = now ≡ before

-- the count of failed loads after one load
abbrev pub FileCounts : ℕ → ℕ → Option Name → Result (Vec ℕ Global) r.Refusal → Type 0
FileCounts before now failed (Ok bytes) = now ≡ before
FileCounts before now failed (Err why) = RefusalCounts before now failed why
