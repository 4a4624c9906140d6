-- Why a run writes no plan: the status and the line of each refusal.
use Rattle.std.specs.Prelude.{ℕ, List, [], ◌∷◌, ◌++◌, codes, decimal}
use Rattle.wild_plan_spec.specs.Text.{printed_name}
use Rattle.wild_plan_spec.specs.FaultText.{fault_text}
use Rattle.wild_words.specs.declared.words.WordsFault.{WordsFault}
use Rattle.wild_words.specs.declared.words.WordsFault.TheVariants as words
use Rattle.wild_table.specs.declared.table.TableFault.{TableFault}
use Rattle.wild_table.specs.declared.table.TableFault.TheVariants as table
use Rattle.wild_cli.specs.declared.refusal.Refusal as r
use Rattle.wild_cli.specs.declared.refusal.Refusal.TheVariants.{Fault, Usage, NotLoaded, NoMemory, BadRecord, TooLong}

-- the refusal that words come to
abbrev pub refusal_of_words : WordsFault → r.Refusal
refusal_of_words words.Usage = Usage
refusal_of_words words.NoMemory = NoMemory

-- the refusal that a table comes to
abbrev pub refusal_of_table : TableFault → r.Refusal
refusal_of_table (table.BadRecord index) = BadRecord index
refusal_of_table table.NoMemory = NoMemory

-- the status of a refusal
abbrev pub status_of : r.Refusal → ℕ
status_of (Fault fault) = 1
status_of Usage = 2
status_of (NotLoaded name) = 3
status_of NoMemory = 5
status_of (BadRecord index) = 6
status_of (TooLong name) = 7

-- what the words may be
abbrev pub usage : List ℕ
usage = codes "usage: plan SCRIPT TABLE [--kind=K] [--arch=A] [--endian=E] [--headers=N] [--start=NAME=N] | sample N"

-- the line that is written for a refusal, with its newline
abbrev pub line_of : r.Refusal → List ℕ
line_of (Fault fault) = fault_text fault ++ 10 ∷ []
line_of Usage = usage ++ 10 ∷ []
line_of (NotLoaded name) = codes "cannot load " ++ printed_name name ++ 10 ∷ []
line_of NoMemory = codes "out of memory" ++ 10 ∷ []
line_of (BadRecord index) = codes "bad record " ++ decimal index ++ 10 ∷ []
line_of (TooLong name) = codes "too long " ++ printed_name name ++ 10 ∷ []
