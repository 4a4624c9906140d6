-- How a run ends: what it answers, why, and what it wrote.
use Rattle.std.specs.Prelude.{◌≡◌, ◌≤◌, ◌⊎◌, ℕ, List, [], Option, Some, None, IfSome, Ok, Err, ⊤}
use Rattle.wild_names.specs.declared.fault.Fault as f
use Rattle.wild_plan_spec.specs.Names.{Name}
use Rattle.wild_cli.specs.Device.{Rose, Got, GotPrefix}
use Rattle.wild_cli.specs.Due.{Answer, Task, task_of, Meets, IsDue, status_of_answer}
use Rattle.wild_cli.specs.Refusal.{status_of, line_of}
use Rattle.wild_words.specs.declared.words.Request.{Request}
use Rattle.wild_words.specs.declared.words.Request.TheVariants.{Plan}
use Rattle.wild_cli.specs.declared.refusal.Refusal as r
use Rattle.wild_cli.specs.declared.refusal.Refusal.TheVariants.{Fault, Usage, NotLoaded, NoMemory, BadRecord, TooLong}

-- ---- what the devices show

-- of the files: the count of faults at the call and after it, and the name that failed last
pub record Loading : Type 0 where
  pub before : ℕ
  pub now : ℕ
  pub failed : Option Name

-- of a sink: the count of faults and what it got, at the call and after it
pub record Putting : Type 0 where
  pub before : ℕ
  pub now : ℕ
  pub got_before : Option (List ℕ)
  pub got_now : Option (List ℕ)

-- what the files show, by their counts at the call and after it
abbrev pub loading : {D : Type 0} → (D → ℕ) → (D → Option Name) → D → D → Loading
loading faults failed old new = record { before = faults old; now = faults new; failed = failed new }

-- what a sink shows, by its counts and what it got at the call and after it
abbrev pub putting : {D : Type 0} → (D → ℕ) → (D → Option (List ℕ)) → D → D → Putting
putting faults got old new = record { before = faults old; now = faults new; got_before = got old; got_now = got new }

-- the sink got exactly this
abbrev pub Wrote : Putting → List ℕ → Type 0
Wrote sink piece = Got sink.got_before sink.got_now piece

-- the sink failed, and got a prefix of this
abbrev pub Broke : Putting → List ℕ → Type 0
Broke sink piece = Rose sink.before sink.now × GotPrefix sink.got_before sink.got_now piece

-- ---- causes

-- the name is one of the files of the words
abbrev pub Names : Option Request → Name → Type 0
Names None name = ⊥
Names (Some (Plan script table options)) name = (name ≡ script) ⊎ (name ≡ table)

-- an answer has its cause
abbrev pub HasCause : (Name → Option (List ℕ)) → Option Request → Loading → Answer → Type 0
HasCause held command files (Ok text) = IsDue held command (Ok text)
HasCause held command files (Err Usage) = command ≡ None
HasCause held command files (Err (NotLoaded name)) = Rose files.before files.now × (files.failed ≡ Some name) × Names command name
HasCause held command files (Err NoMemory) = ⊤
HasCause held command files (Err (Fault fault)) = IsDue held command (Err (Fault fault))
HasCause held command files (Err (BadRecord index)) = IsDue held command (Err (BadRecord index))
HasCause held command files (Err (TooLong name)) = IsDue held command (Err (TooLong name))

-- ---- the end of a run

-- the sink got a line, with this status; or it failed; or it found no memory
abbrev pub WroteLine : Putting → List ℕ → ℕ → ℕ → Type 0
WroteLine sink line wanted status = ((status ≡ wanted) × Wrote sink line) ⊎ ((status ≡ 4) × Broke sink line) ⊎ ((status ≡ 5) × Wrote sink [])

-- an answer was written, with this status
abbrev pub Written : Answer → Putting → Putting → ℕ → Type 0
Written (Ok text) out err status = Wrote err [] × (((status ≡ 0) × Wrote out text) ⊎ ((status ≡ 4) × Broke out text))
Written (Err why) out err status = Wrote out [] × WroteLine err (line_of why) (status_of why) status

-- some answer that has its cause was written
pub record Ends (held : Name → Option (List ℕ)) (command : Option Request) (files : Loading) (out err : Putting) (status : ℕ) : Type 0 where
  pub answer : Answer
  pub cause : HasCause held command files answer
  pub written : Written answer out err status

-- the line of this refusal was written, or the line that memory ran out
abbrev pub Told : Putting → r.Refusal → ℕ → Type 0
Told err why status = WroteLine err (line_of why) (status_of why) status ⊎ WroteLine err (line_of NoMemory) (status_of NoMemory) status

-- ---- each status and its cause

-- an answer that meets the task comes with its status, but for a load that failed, a sink that failed, and memory that ran out
abbrev pub Comes : Option Task → Loading → Putting → Putting → ℕ → Type 0
Comes wanted files out err status = IfSome wanted (λ task. (answer : Answer) → Meets task answer → (status ≡ status_of_answer answer)
    ⊎ ((status ≡ 3) × Rose files.before files.now)
    ⊎ ((status ≡ 4) × (Rose out.before out.now ⊎ Rose err.before err.now))
    ⊎ (status ≡ 5))

-- what each status of a run says
pub record Outcome (held : Name → Option (List ℕ)) (command : Option Request) (files : Loading) (out err : Putting) (status : ℕ) : Type 0 where
  -- 0: the text of the one plan that fits was put on out
  pub printed : status ≡ 0 → (text : List ℕ) × IsDue held command (Ok text) × Wrote out text × Wrote err []
  -- 1: no plan fits, and there is this fault
  pub fault : status ≡ 1 → (fault : f.Fault) × IsDue held command (Err (Fault fault)) × Wrote out [] × Wrote err (line_of (Fault fault))
  -- 2: the words are no command
  pub usage : status ≡ 2 → (command ≡ None) × Wrote out [] × Wrote err (line_of Usage)
  -- 3: a load failed, of a file of the words
  pub not_loaded : status ≡ 3 → (name : Name) × Rose files.before files.now × (files.failed ≡ Some name) × Names command name × Wrote out [] × Wrote err (line_of (NotLoaded name))
  -- 4: a sink failed: out at the text, or err at the line of a refusal that has its cause
  pub not_written : status ≡ 4 → ((text : List ℕ) × IsDue held command (Ok text) × Broke out text × Wrote err [])
      ⊎ ((why : r.Refusal) × HasCause held command files (Err why) × Wrote out [] × Broke err (line_of why))
  -- 5: memory ran out
  pub no_memory : status ≡ 5 → Wrote out [] × (Wrote err (line_of NoMemory) ⊎ Wrote err [])
  -- 6: a record of the table is not of the form
  pub bad_record : status ≡ 6 → (index : ℕ) × IsDue held command (Err (BadRecord index)) × Wrote out [] × Wrote err (line_of (BadRecord index))
  -- 7: a file is too long
  pub too_long : status ≡ 7 → (name : Name) × IsDue held command (Err (TooLong name)) × Wrote out [] × Wrote err (line_of (TooLong name))
  pub no_other : status ≤ 7
  -- where the words are no command, no status of one comes
  pub without_command : command ≡ None → (status ≡ 2) ⊎ (status ≡ 4) ⊎ (status ≡ 5)
  -- where an answer is due, its status comes
  pub comes : Comes (task_of held command) files out err status
