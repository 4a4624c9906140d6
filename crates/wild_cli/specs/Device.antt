-- What a load and a put do, and why they fail.
use Rattle.std.specs.Prelude.{◌≡◌, ◌+◌, ◌-◌, ◌^◌, ◌<◌, ◌≤◌, ℕ, min, List, [], ◌++◌, length, take, Option, Some, IfSome, Result, Ok, Err, Vec, ⊤}
use Rattle.std.specs.declared.alloc.Global.{Global}
use Rattle.wild_cli.specs.declared.device.LoadFault.{LoadFault}
use Rattle.wild_cli.specs.declared.device.LoadFault.TheVariants as load
use Rattle.wild_cli.specs.declared.device.SinkFault.{SinkFault}
use Rattle.wild_cli.specs.declared.device.SinkFault.TheVariants as sink

-- one more, up to the end of the type
abbrev pub next_count : ℕ → ℕ
next_count n = min (n + 1) (2 ^ 64 - 1)

-- a count has risen, or is at its type's end
abbrev pub Rose : ℕ → ℕ → Type 0
Rose before now = (before ≤ now) × (next_count before ≤ now)

-- how many loads failed, and the name that failed last
pub record Failures : Type 0 where
  pub faults : ℕ
  pub failed : Option (List ℕ)

-- how many bytes a file may have
abbrev pub max_length : ℕ
max_length = 2 ^ 24

-- what the load of a file with this content may answer
abbrev pub Loads : List ℕ → Result (Vec ℕ Global) LoadFault → Type 0
Loads content (Ok bytes) = (bytes.items ≡ content) × (length content ≤ max_length)
Loads content (Err load.Failed) = ⊤
Loads content (Err load.TooLong) = max_length < length content
Loads content (Err load.NoMemory) = ⊤

-- the counts stay, but where the load failed: then the count rose, and the name that failed is this one
abbrev pub LoadCounts : ℕ → ℕ → Option (List ℕ) → Option (List ℕ) → List ℕ → Result (Vec ℕ Global) LoadFault → Type 0
LoadCounts before now was failed name (Ok bytes) = (now ≡ before) × (failed ≡ was)
LoadCounts before now was failed name (Err load.Failed) = Rose before now × (failed ≡ Some name)
LoadCounts before now was failed name (Err load.TooLong) = (now ≡ before) × (failed ≡ was)
LoadCounts before now was failed name (Err load.NoMemory) = (now ≡ before) × (failed ≡ was)

-- a sink got this piece more, where it tells
abbrev pub Got : Option (List ℕ) → Option (List ℕ) → List ℕ → Type 0
Got before now piece = IfSome before (λ bytes. now ≡ Some (bytes ++ piece))

-- it got a prefix of the piece
abbrev pub GotPrefix : Option (List ℕ) → Option (List ℕ) → List ℕ → Type 0
GotPrefix before now piece = (n : ℕ) × Got before now (take n piece)

-- what a put gives the sink
abbrev pub Puts : Option (List ℕ) → Option (List ℕ) → List ℕ → Result (Unit {0}) SinkFault → Type 0
Puts before now piece (Ok done) = Got before now piece
Puts before now piece (Err sink.Failed) = GotPrefix before now piece
Puts before now piece (Err sink.NoMemory) = Got before now []

-- the count of a sink never falls, and rises where a put failed
abbrev pub SinkCounts : ℕ → ℕ → Result (Unit {0}) SinkFault → Type 0
SinkCounts before now (Ok done) = before ≤ now
SinkCounts before now (Err sink.Failed) = Rose before now
SinkCounts before now (Err sink.NoMemory) = before ≤ now
