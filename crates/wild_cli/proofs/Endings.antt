-- How the parts of a run make its end.
use Rattle.std.proofs.Common.{◌≡◌, ◌∙◌, sym, ap, refl, ℕ, ◌≤◌, false, List, [], length, Option, Some, None, IfSome, Ok, Err, inl, inr, ⊎_elim}
use Rattle.std.proofs.lemmas.Bool.{le-ltb}
use Rattle.std.proofs.lemmas.List.{append-nil}
use Rattle.wild_names.specs.declared.fault.Fault as f
use Rattle.wild_plan_spec.specs.declared.options.PlanOptions.{PlanOptions}
use Rattle.wild_plan_spec.specs.declared.row.InputTable.{InputTable}
use Rattle.wild_plan_spec.specs.Layout.{Layout}
use Rattle.wild_plan_spec.specs.Names.{Name}
use Rattle.wild_plan_spec.specs.Text.{plan_text}
use Rattle.wild_plan.specs.Planned.{IsThePlan, IsTheFault}
use Rattle.wild_cli.specs.Answers.{LoadTold, Plans}
use Rattle.wild_cli.specs.Device.{Got, max_length}
use Rattle.wild_cli.specs.Due.{Answer, PlanOf, is_too_long, task_of_script, MeetsPlan, Agree, Settles}
use Rattle.wild_cli.specs.Run.{Loading, Putting, HasCause, Ends, Told, Wrote}
use Rattle.wild_table.specs.Table.{table}
use Rattle.wild_words.specs.declared.words.Request.{Request}
use Rattle.wild_words.specs.declared.words.Request.TheVariants.{Plan}
use Rattle.wild_cli.specs.declared.refusal.Refusal as r
use Rattle.wild_cli.specs.declared.refusal.Refusal.TheVariants.{Fault, Usage, NotLoaded, NoMemory, BadRecord, TooLong}

-- ---- answers that settle a task

text_agrees : (script : List ℕ) (inputs : InputTable) (options : PlanOptions) (plan : Layout) (text : List ℕ) → IsThePlan script inputs options plan → text ≡ plan_text plan
    → (other : Answer) → MeetsPlan script inputs options other → Agree other (Ok text)
text_agrees script inputs options plan text is e (Ok another) meets = inl (ap (λ (l : List ℕ). Ok l) (meets.2 ∙ ap plan_text (is.only meets.0 meets.1) ∙ sym e))
text_agrees script inputs options plan text is e (Err (Fault fault)) meets = absurd (is.no_fault fault meets)
text_agrees script inputs options plan text is e (Err Usage) meets = absurd meets
text_agrees script inputs options plan text is e (Err (NotLoaded name)) meets = absurd meets
text_agrees script inputs options plan text is e (Err NoMemory) meets = absurd meets
text_agrees script inputs options plan text is e (Err (BadRecord index)) meets = absurd meets
text_agrees script inputs options plan text is e (Err (TooLong name)) meets = absurd meets

fault_agrees : (script : List ℕ) (inputs : InputTable) (options : PlanOptions) (fault : f.Fault) → IsTheFault script inputs options fault
    → (other : Answer) → MeetsPlan script inputs options other → Agree other (Err (Fault fault))
fault_agrees script inputs options fault is (Ok text) meets = absurd (is.none_fits meets.0 meets.1)
fault_agrees script inputs options fault is (Err (Fault other)) meets = inr (other, fault, refl, refl)
fault_agrees script inputs options fault is (Err Usage) meets = absurd meets
fault_agrees script inputs options fault is (Err (NotLoaded name)) meets = absurd meets
fault_agrees script inputs options fault is (Err NoMemory) meets = absurd meets
fault_agrees script inputs options fault is (Err (BadRecord index)) meets = absurd meets
fault_agrees script inputs options fault is (Err (TooLong name)) meets = absurd meets

text_settles : (script : List ℕ) (inputs : InputTable) (options : PlanOptions) (text : List ℕ) → Plans script inputs options (Ok text) → Settles (PlanOf script inputs options) (Ok text)
text_settles script inputs options text h = record { meets = (h.0, h.1.is, h.2); only = text_agrees script inputs options h.0 text h.1 h.2 }

fault_settles : (script : List ℕ) (inputs : InputTable) (options : PlanOptions) (fault : f.Fault) → IsTheFault script inputs options fault → Settles (PlanOf script inputs options) (Err (Fault fault))
fault_settles script inputs options fault h = record { meets = h.is; only = fault_agrees script inputs options fault h }

-- ---- what a told script and table ask for

fits : (content : List ℕ) → length content ≤ max_length → is_too_long content ≡ false
fits content h = le-ltb max_length (length content) h

-- both files were loaded, and the table was read
due_plan : (options : PlanOptions) (script name : Name) (sc tc : Option (List ℕ)) (a b : List ℕ) (inputs : InputTable) (answer : Answer)
    → LoadTold sc a → LoadTold tc b → table b ≡ Ok inputs → Settles (PlanOf a inputs options) answer
    → IfSome (task_of_script options script sc name tc) (λ task. Settles task answer)
due_plan options script name None tc a b inputs answer ha hb ht h = tt
due_plan options script name (Some x) None a b inputs answer ha hb ht h = rw (fits x ha.1) tt
due_plan options script name (Some x) (Some y) a b inputs answer ha hb ht h = rw (fits x ha.1, fits y hb.1, ← ha.0, ← hb.0, ht) h

-- ---- causes

module _ (held : Name → Option (List ℕ)) (script name : Name) (options : PlanOptions) (files : Loading) where
  pub planned : (a b : List ℕ) (inputs : InputTable) (answer : Answer)
      → LoadTold (held script) a → LoadTold (held name) b → table b ≡ Ok inputs → Plans a inputs options answer
      → HasCause held (Some (Plan script name options)) files answer
  planned a b inputs (Ok text) ha hb ht h = record { asked = refl; settles = due_plan options script name (held script) (held name) a b inputs _ ha hb ht (text_settles a inputs options text h) }
  planned a b inputs (Err (Fault fault)) ha hb ht h = record { asked = refl; settles = due_plan options script name (held script) (held name) a b inputs _ ha hb ht (fault_settles a inputs options fault h) }
  planned a b inputs (Err NoMemory) ha hb ht h = tt
  planned a b inputs (Err Usage) ha hb ht h = absurd h
  planned a b inputs (Err (NotLoaded other)) ha hb ht h = absurd h
  planned a b inputs (Err (BadRecord index)) ha hb ht h = absurd h
  planned a b inputs (Err (TooLong other)) ha hb ht h = absurd h

-- ---- ends

-- a sink that was left alone got nothing
pub left_alone : (got : Option (List ℕ)) → Got got got []
left_alone None = tt
left_alone (Some bytes) = ap (λ (l : List ℕ). Some l) (sym (append-nil bytes))

pub tells : (held : Name → Option (List ℕ)) (command : Option Request) (files : Loading) (out err : Putting) (why : r.Refusal) (status : ℕ)
    → HasCause held command files (Err why) → Wrote out [] → Told err why status → Ends held command files out err status
tells held command files out err why status cause wrote told = ⊎_elim
    (λ line. record { answer = Err why; cause = cause; written = (wrote, line) })
    (λ line. record { answer = Err NoMemory; cause = tt; written = (wrote, line) })
    told
