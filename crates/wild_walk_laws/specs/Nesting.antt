-- Where places stand: between sections, or in one. Each leads from where it stands to where the next one does.
use Rattle.std.specs.Prelude.{◌≡◌, ℕ, ◌+◌, List, [], ◌∷◌, Some, None, IfSome}
use Rattle.wild_plan_spec.specs.declared.place.Where.TheVariants as stand
use Rattle.wild_plan_spec.specs.Places.{Place, SetLocation, Wait, Open, Collect, Rows, Close, Discard, Idle, Memory, Headers, Format}

-- where a place stands
pub data Zone : Type 0 where
  -- between sections, of which the next has this number
  Free : ℕ → Zone
  -- in the section of this number
  Inside : ℕ → Zone

-- a place leads from the one zone to the other: a section begins between sections, what stands in it is its own, and it ends
abbrev pub Turns : Zone → Place → Zone → Type 0
Turns (Free n) (SetLocation None e) z = z ≡ Free n
Turns (Free n) (Wait (stand.Outermost s) task) z = (s ≡ n) × (z ≡ Free n)
Turns (Free n) (Wait stand.Between task) z = z ≡ Free n
Turns (Free n) (Open s x) z = (s ≡ n) × (z ≡ Inside n)
Turns (Free n) (Collect None m) z = z ≡ Free n
Turns (Free n) (Discard x) z = z ≡ Free n
Turns (Free n) Idle z = z ≡ Free n
Turns (Free n) (Memory regions) z = z ≡ Free n
Turns (Free n) (Headers headers) z = z ≡ Free n
Turns (Free n) (Format format) z = z ≡ Free n
Turns (Inside s) (SetLocation (Some u) e) z = (u ≡ s) × (z ≡ Inside s)
Turns (Inside s) (Wait (stand.Inside u) task) z = (u ≡ s) × (z ≡ Inside s)
Turns (Inside s) (Collect (Some q) m) z = (q.«section» ≡ s) × (z ≡ Inside s)
Turns (Inside s) (Rows q) z = (q.«section» ≡ s) × (z ≡ Inside s)
Turns (Inside s) (Close u rest) z = (u ≡ s) × IfSome rest (λ q. q.«section» ≡ s) × (z ≡ Free (s + 1))
Turns (Inside s) Idle z = z ≡ Inside s
Turns x p z = ⊥

-- places lead, one after the other, from the one zone to the other
abbrev pub Nests : Zone → List Place → Zone → Type 0
Nests x [] z = z ≡ x
Nests x (p ∷ ps) z = (y : Zone) × Turns x p y × Nests y ps z
