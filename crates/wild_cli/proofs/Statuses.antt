-- Each status has its cause, from the end of a run.
use Rattle.std.proofs.Common.{◌≡◌, ◌⊎◌, ◌∙◌, sym, ap, refl, ℕ, List, [], Option, Some, None, IfSome, IsSome, Ok, Err, inl, inr, arith}
use Rattle.wild_plan_spec.specs.Names.{Name}
use Rattle.wild_cli.specs.Device.{Rose}
use Rattle.wild_cli.specs.Due.{Answer, Task, task_of, Settles, Agree, IsDue, status_of_answer}
use Rattle.wild_cli.specs.Refusal.{status_of, line_of}
use Rattle.wild_cli.specs.Run.{Loading, Putting, HasCause, Written, WroteLine, Ends, Wrote, Broke, Outcome, Comes}
use Rattle.wild_words.specs.declared.words.Request.{Request}
use Rattle.wild_cli.specs.declared.refusal.Refusal as r
use Rattle.wild_cli.specs.declared.refusal.Refusal.TheVariants.{Fault, Usage, NotLoaded, NoMemory, BadRecord, TooLong}

-- ---- what comes

-- answers that agree have one status
one_status : (a b : Answer) → Agree a b → status_of_answer b ≡ status_of_answer a
one_status a b (inl e) = ap status_of_answer (sym e)
one_status a b (inr h) = rw (h.2, h.3) refl

due_comes : (wanted : Option Task) (files : Loading) (out err : Putting) (status : ℕ) (answer : Answer)
    → IfSome wanted (λ task. Settles task answer) → status ≡ status_of_answer answer → Comes wanted files out err status
due_comes None files out err status answer h e = tt
due_comes (Some task) files out err status answer h e = λ other meets. inl (e ∙ one_status other answer (h.only other meets))

others_come : (wanted : Option Task) (files : Loading) (out err : Putting) (status : ℕ)
    → ((status ≡ 3) × Rose files.before files.now) ⊎ ((status ≡ 4) × (Rose out.before out.now ⊎ Rose err.before err.now)) ⊎ (status ≡ 5) → Comes wanted files out err status
others_come None files out err status h = tt
others_come (Some task) files out err status (inl h) = λ other meets. inr (inl h)
others_come (Some task) files out err status (inr (inl h)) = λ other meets. inr (inr (inl h))
others_come (Some task) files out err status (inr (inr h)) = λ other meets. inr (inr (inr h))

usage_comes : (held : Name → Option (List ℕ)) (command : Option Request) (files : Loading) (out err : Putting) (status : ℕ)
    → command ≡ None → status ≡ 2 → Comes (task_of held command) files out err status
usage_comes held None files out err status e is = λ other meets. inl (is ∙ ap status_of_answer (sym meets))
usage_comes held (Some request) files out err status e is = absurd (cc)

no_command : (command : Option Request) → IsSome command → command ≡ None → ⊥
no_command None h e = absurd (cc)
no_command (Some request) h e = absurd (cc)

-- ---- each end

printed : (held : Name → Option (List ℕ)) (command : Option Request) (files : Loading) (out err : Putting) (status : ℕ) (text : List ℕ)
    → IsDue held command (Ok text) → Wrote err [] → status ≡ 0 → Wrote out text → Outcome held command files out err status
printed held command files out err status text cause quiet is wrote = record {
  printed = λ _. (text, cause, wrote, quiet);
  fault = λ e. absurd (omega arith);
  usage = λ e. absurd (omega arith);
  not_loaded = λ e. absurd (omega arith);
  not_written = λ e. absurd (omega arith);
  no_memory = λ e. absurd (omega arith);
  bad_record = λ e. absurd (omega arith);
  too_long = λ e. absurd (omega arith);
  no_other = omega arith;
  without_command = λ e. absurd (no_command command cause.asked e);
  comes = due_comes (task_of held command) files out err status (Ok text) cause.settles is;
}

not_written : (held : Name → Option (List ℕ)) (command : Option Request) (files : Loading) (out err : Putting) (status : ℕ)
    → ((text : List ℕ) × IsDue held command (Ok text) × Broke out text × Wrote err []) ⊎ ((why : r.Refusal) × HasCause held command files (Err why) × Wrote out [] × Broke err (line_of why))
    → (Rose out.before out.now ⊎ Rose err.before err.now) → status ≡ 4 → Outcome held command files out err status
not_written held command files out err status why rose is = record {
  printed = λ e. absurd (omega arith);
  fault = λ e. absurd (omega arith);
  usage = λ e. absurd (omega arith);
  not_loaded = λ e. absurd (omega arith);
  not_written = λ _. why;
  no_memory = λ e. absurd (omega arith);
  bad_record = λ e. absurd (omega arith);
  too_long = λ e. absurd (omega arith);
  no_other = omega arith;
  without_command = λ _. inr (inl is);
  comes = others_come (task_of held command) files out err status (inr (inl (is, rose)));
}

no_memory : (held : Name → Option (List ℕ)) (command : Option Request) (files : Loading) (out err : Putting) (status : ℕ)
    → Wrote out [] → (Wrote err (line_of NoMemory) ⊎ Wrote err []) → status ≡ 5 → Outcome held command files out err status
no_memory held command files out err status quiet wrote is = record {
  printed = λ e. absurd (omega arith);
  fault = λ e. absurd (omega arith);
  usage = λ e. absurd (omega arith);
  not_loaded = λ e. absurd (omega arith);
  not_written = λ e. absurd (omega arith);
  no_memory = λ _. (quiet, wrote);
  bad_record = λ e. absurd (omega arith);
  too_long = λ e. absurd (omega arith);
  no_other = omega arith;
  without_command = λ _. inr (inr is);
  comes = others_come (task_of held command) files out err status (inr (inr is));
}

-- the line of a refusal was written
refused : (held : Name → Option (List ℕ)) (command : Option Request) (files : Loading) (out err : Putting) (status : ℕ) (why : r.Refusal)
    → HasCause held command files (Err why) → Wrote out [] → status ≡ status_of why → Wrote err (line_of why) → Outcome held command files out err status
refused held command files out err status (Fault fault) cause quiet is wrote = record {
  printed = λ e. absurd (omega arith);
  fault = λ _. (fault, cause, quiet, wrote);
  usage = λ e. absurd (omega arith);
  not_loaded = λ e. absurd (omega arith);
  not_written = λ e. absurd (omega arith);
  no_memory = λ e. absurd (omega arith);
  bad_record = λ e. absurd (omega arith);
  too_long = λ e. absurd (omega arith);
  no_other = omega arith;
  without_command = λ e. absurd (no_command command cause.asked e);
  comes = due_comes (task_of held command) files out err status (Err (Fault fault)) cause.settles is;
}
refused held command files out err status Usage cause quiet is wrote = record {
  printed = λ e. absurd (omega arith);
  fault = λ e. absurd (omega arith);
  usage = λ _. (cause, quiet, wrote);
  not_loaded = λ e. absurd (omega arith);
  not_written = λ e. absurd (omega arith);
  no_memory = λ e. absurd (omega arith);
  bad_record = λ e. absurd (omega arith);
  too_long = λ e. absurd (omega arith);
  no_other = omega arith;
  without_command = λ _. inl is;
  comes = usage_comes held command files out err status cause is;
}
refused held command files out err status (NotLoaded name) cause quiet is wrote = record {
  printed = λ e. absurd (omega arith);
  fault = λ e. absurd (omega arith);
  usage = λ e. absurd (omega arith);
  not_loaded = λ _. (name, cause.0, cause.1, cause.2, quiet, wrote);
  not_written = λ e. absurd (omega arith);
  no_memory = λ e. absurd (omega arith);
  bad_record = λ e. absurd (omega arith);
  too_long = λ e. absurd (omega arith);
  no_other = omega arith;
  without_command = λ e. absurd (rw e at cause.2);
  comes = others_come (task_of held command) files out err status (inl (is, cause.0));
}
refused held command files out err status NoMemory cause quiet is wrote = no_memory held command files out err status quiet (inl wrote) is
refused held command files out err status (BadRecord index) cause quiet is wrote = record {
  printed = λ e. absurd (omega arith);
  fault = λ e. absurd (omega arith);
  usage = λ e. absurd (omega arith);
  not_loaded = λ e. absurd (omega arith);
  not_written = λ e. absurd (omega arith);
  no_memory = λ e. absurd (omega arith);
  bad_record = λ _. (index, cause, quiet, wrote);
  too_long = λ e. absurd (omega arith);
  no_other = omega arith;
  without_command = λ e. absurd (no_command command cause.asked e);
  comes = due_comes (task_of held command) files out err status (Err (BadRecord index)) cause.settles is;
}
refused held command files out err status (TooLong name) cause quiet is wrote = record {
  printed = λ e. absurd (omega arith);
  fault = λ e. absurd (omega arith);
  usage = λ e. absurd (omega arith);
  not_loaded = λ e. absurd (omega arith);
  not_written = λ e. absurd (omega arith);
  no_memory = λ e. absurd (omega arith);
  bad_record = λ e. absurd (omega arith);
  too_long = λ _. (name, cause, quiet, wrote);
  no_other = omega arith;
  without_command = λ e. absurd (no_command command cause.asked e);
  comes = due_comes (task_of held command) files out err status (Err (TooLong name)) cause.settles is;
}

line_written : (held : Name → Option (List ℕ)) (command : Option Request) (files : Loading) (out err : Putting) (status : ℕ) (why : r.Refusal)
    → HasCause held command files (Err why) → Wrote out [] → WroteLine err (line_of why) (status_of why) status → Outcome held command files out err status
line_written held command files out err status why cause quiet (inl h) = refused held command files out err status why cause quiet h.0 h.1
line_written held command files out err status why cause quiet (inr (inl h)) = not_written held command files out err status (inr (why, cause, quiet, h.1)) (inr h.1.0) h.0
line_written held command files out err status why cause quiet (inr (inr h)) = no_memory held command files out err status quiet (inr h.1) h.0

text_written : (held : Name → Option (List ℕ)) (command : Option Request) (files : Loading) (out err : Putting) (status : ℕ) (text : List ℕ)
    → IsDue held command (Ok text) → Wrote err [] → ((status ≡ 0) × Wrote out text) ⊎ ((status ≡ 4) × Broke out text) → Outcome held command files out err status
text_written held command files out err status text cause quiet (inl h) = printed held command files out err status text cause quiet h.0 h.1
text_written held command files out err status text cause quiet (inr h) = not_written held command files out err status (inl (text, cause, h.1, quiet)) (inl h.1.0) h.0

by_answer : (held : Name → Option (List ℕ)) (command : Option Request) (files : Loading) (out err : Putting) (status : ℕ) (answer : Answer)
    → HasCause held command files answer → Written answer out err status → Outcome held command files out err status
by_answer held command files out err status (Ok text) cause written = text_written held command files out err status text cause written.0 written.1
by_answer held command files out err status (Err why) cause written = line_written held command files out err status why cause written.0 written.1

pub outcome : (held : Name → Option (List ℕ)) (command : Option Request) (files : Loading) (out err : Putting) (status : ℕ)
    → Ends held command files out err status → Outcome held command files out err status
outcome held command files out err status e = by_answer held command files out err status e.answer e.cause e.written
