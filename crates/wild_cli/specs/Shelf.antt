-- Files and sinks in memory.
use Rattle.std.specs.Prelude.{ℕ, ◌≡◌, Bool, true, false, ◌||◌, ◌==◌, List, [], ◌∷◌, ◌++◌, take, Option, Some, None, is_none, unwrap_or, Result, Ok, Err, Vec, ⊤, if◌then◌else◌}
use Rattle.std.specs.List.{list_any}
use Rattle.std.specs.Str.{bytes_eq}
use Rattle.std.specs.declared.alloc.Global.{Global}
use Rattle.wild_cli.specs.Device.{next_count}
use Rattle.wild_cli.specs.declared.device.LoadFault.{LoadFault}
use Rattle.wild_cli.specs.declared.device.LoadFault.TheVariants as load
use Rattle.wild_cli.specs.declared.device.SinkFault.{SinkFault}
use Rattle.wild_cli.specs.declared.device.SinkFault.TheVariants as sink
use Rattle.wild_cli.specs.declared.shelf.FailingPut.{FailingPut}
use Rattle.wild_cli.specs.declared.sure.ShelfFile.{ShelfFile}

-- the content of the first file of the name, where one has it
abbrev pub find_content : List ShelfFile → List ℕ → Option (List ℕ)
find_content [] name = None
find_content (file ∷ files) name = if bytes_eq file.name name then Some file.bytes else find_content files name

-- the same, or nothing
abbrev pub content_of : List ShelfFile → List ℕ → List ℕ
content_of files name = unwrap_or (find_content files name) []

-- ---- files of which chosen loads fail

-- the files, the numbers of the loads that fail, how many loads came and failed, and the name that failed last
pub record OnShelf : Type 0 where
  pub files : List ShelfFile
  pub failing : List ℕ
  pub calls : ℕ
  pub faults : ℕ
  pub failed : Option (List ℕ)

-- a load fails by its number, or where no file has the name
abbrev pub load_fails : OnShelf → List ℕ → Bool
load_fails shelf name = list_any (λ number. number == shelf.calls) shelf.failing || is_none (find_content shelf.files name)

-- a load that is to fail does so, and no other, unless memory ran out
abbrev pub FailsWhere : Bool → Result (Vec ℕ Global) LoadFault → Type 0
FailsWhere fails (Ok bytes) = fails ≡ false
FailsWhere fails (Err load.Failed) = fails ≡ true
FailsWhere fails (Err load.TooLong) = fails ≡ false
FailsWhere fails (Err load.NoMemory) = ⊤

-- one load more
abbrev pub loaded : OnShelf → OnShelf
loaded shelf = record shelf { calls = next_count shelf.calls }

-- one load more, of this name, which failed
abbrev pub failed_load : OnShelf → List ℕ → OnShelf
failed_load shelf name = record shelf { calls = next_count shelf.calls; faults = next_count shelf.faults; failed = Some name }

-- the shelf after a load that answered this
abbrev pub after_load : OnShelf → List ℕ → Result (Vec ℕ Global) LoadFault → OnShelf
after_load shelf name (Ok bytes) = loaded shelf
after_load shelf name (Err load.Failed) = failed_load shelf name
after_load shelf name (Err load.TooLong) = loaded shelf
after_load shelf name (Err load.NoMemory) = loaded shelf

-- ---- a sink of which chosen puts fail

-- the bytes that it got, the puts that fail, and how many puts came and failed
pub record OnTray : Type 0 where
  pub bytes : List ℕ
  pub failing : List FailingPut
  pub calls : ℕ
  pub faults : ℕ

-- how many bytes the put of this number writes, if it is to fail
abbrev pub written_of : List FailingPut → ℕ → Option ℕ
written_of [] call = None
written_of (put ∷ puts) call = if put.call == call then Some put.written else written_of puts call

-- the tray after one put more, which gave it these bytes and faults
abbrev pub with_put : OnTray → List ℕ → ℕ → OnTray
with_put tray bytes faults = record tray { bytes = tray.bytes ++ bytes; calls = next_count tray.calls; faults = faults }

-- a put that is to fail does so after that many bytes at most, and no other fails, unless memory ran out
abbrev pub AfterPut : OnTray → OnTray → List ℕ → Option ℕ → Result (Unit {0}) SinkFault → Type 0
AfterPut old new piece None (Ok done) = new ≡ with_put old piece old.faults
AfterPut old new piece None (Err sink.Failed) = ⊥
AfterPut old new piece None (Err sink.NoMemory) = new ≡ with_put old [] old.faults
AfterPut old new piece (Some written) (Ok done) = ⊥
AfterPut old new piece (Some written) (Err sink.Failed) = new ≡ with_put old (take written piece) (next_count old.faults)
AfterPut old new piece (Some written) (Err sink.NoMemory) = new ≡ with_put old [] old.faults
