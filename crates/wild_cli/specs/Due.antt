-- What the words and the told files ask for, and which answers meet that.
use Rattle.std.specs.Prelude.{◌≡◌, ◌⊎◌, ℕ, Bool, nat_lt, List, length, Option, Some, None, IfSome, IsSome, Result, Ok, Err, if◌then◌else◌}
use Rattle.wild_names.specs.declared.fault.Fault as f
use Rattle.wild_plan_spec.specs.declared.options.PlanOptions.{PlanOptions}
use Rattle.wild_plan_spec.specs.declared.row.InputTable.{InputTable}
use Rattle.wild_plan_spec.specs.Layout.{Layout}
use Rattle.wild_plan_spec.specs.Names.{Name}
use Rattle.wild_plan_spec.specs.Text.{plan_text}
use Rattle.wild_plan.specs.Planned.{IsPlan, IsFault}
use Rattle.wild_cli.specs.Device.{max_length}
use Rattle.wild_cli.specs.Refusal.{status_of}
use Rattle.wild_table.specs.Table.{table}
use Rattle.wild_words.specs.declared.words.Request.{Request}
use Rattle.wild_words.specs.declared.words.Request.TheVariants.{Plan}
use Rattle.wild_cli.specs.declared.refusal.Refusal as r
use Rattle.wild_cli.specs.declared.refusal.Refusal.TheVariants as refusal

-- the text that is to be written, or why there is none
abbrev pub Answer : Type 0
Answer = Result (List ℕ) r.Refusal

-- ---- tasks

-- what is asked for: nothing, a file that is too long, a table with a bad record, or the plan of a script over a table, made
-- for these options
pub data Task : Type 0 where
  NoCommand : Task
  LongFile : Name → Task
  BadTable : ℕ → Task
  PlanOf : List ℕ → InputTable → PlanOptions → Task

-- the content is longer than a file may be
abbrev pub is_too_long : List ℕ → Bool
is_too_long content = nat_lt max_length (length content)

-- the script is at hand, and this is what its table says
abbrev pub task_of_inputs : PlanOptions → List ℕ → Result InputTable ℕ → Task
task_of_inputs options script (Ok inputs) = PlanOf script inputs options
task_of_inputs options script (Err index) = BadTable index

-- the script is at hand; the table is this, where it is told
abbrev pub task_of_table : PlanOptions → List ℕ → Name → Option (List ℕ) → Option Task
task_of_table options script name None = None
task_of_table options script name (Some content) = Some (if is_too_long content then LongFile name else task_of_inputs options script (table content))

-- the script is this, and the table this, where they are told
abbrev pub task_of_script : PlanOptions → Name → Option (List ℕ) → Name → Option (List ℕ) → Option Task
task_of_script options name None table_name table_content = None
task_of_script options name (Some content) table_name table_content =
    if is_too_long content then Some (LongFile name) else task_of_table options content table_name table_content

-- the task, where the files that decide it are told
abbrev pub task_of : (Name → Option (List ℕ)) → Option Request → Option Task
task_of held None = Some NoCommand
task_of held (Some (Plan script name options)) = task_of_script options script (held script) name (held name)

-- ---- answers

-- a text is that of a plan that fits, and a fault is one of the script and the table
abbrev pub MeetsPlan : List ℕ → InputTable → PlanOptions → Answer → Type 0
MeetsPlan script inputs options (Ok text) = (plan : Layout) × IsPlan script inputs options plan × (text ≡ plan_text plan)
MeetsPlan script inputs options (Err (refusal.Fault fault)) = IsFault script inputs options fault
MeetsPlan script inputs options (Err refusal.Usage) = ⊥
MeetsPlan script inputs options (Err (refusal.NotLoaded name)) = ⊥
MeetsPlan script inputs options (Err refusal.NoMemory) = ⊥
MeetsPlan script inputs options (Err (refusal.BadRecord index)) = ⊥
MeetsPlan script inputs options (Err (refusal.TooLong name)) = ⊥

-- an answer meets a task
abbrev pub Meets : Task → Answer → Type 0
Meets NoCommand answer = answer ≡ Err refusal.Usage
Meets (LongFile name) answer = answer ≡ Err (refusal.TooLong name)
Meets (BadTable index) answer = answer ≡ Err (refusal.BadRecord index)
Meets (PlanOf script inputs options) answer = MeetsPlan script inputs options answer

-- two answers are one, or both are faults
abbrev pub Agree : Answer → Answer → Type 0
Agree a b = (a ≡ b) ⊎ ((fault : f.Fault) × (other : f.Fault) × (a ≡ Err (refusal.Fault fault)) × (b ≡ Err (refusal.Fault other)))

-- the answer meets the task, and every other that does agrees with it: one text, or no text and a fault
pub record Settles (task : Task) (answer : Answer) : Type 0 where
  pub meets : Meets task answer
  pub only : (other : Answer) → Meets task other → Agree other answer

-- the words are a command, and the answer settles their task, where it is told
pub record IsDue (held : Name → Option (List ℕ)) (command : Option Request) (answer : Answer) : Type 0 where
  pub asked : IsSome command
  pub settles : IfSome (task_of held command) (λ task. Settles task answer)

-- the status that an answer comes with
abbrev pub status_of_answer : Answer → ℕ
status_of_answer (Ok text) = 0
status_of_answer (Err why) = status_of why
