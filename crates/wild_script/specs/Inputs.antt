-- The inputs that a script names, and how a visitor is shown them.
use Rattle.std.specs.Prelude.{◌≡◌, ℕ, ◌+◌, ◌-◌, ◌^◌, min, Bool, true, false, if◌then◌else◌, List, [], ◌∷◌, ◌++◌, map, drop, nat_eq, codes, Result, Ok, Err}
use Rattle.std.specs.List.{FoldsTo, starts_with}
use Rattle.std.specs.Result.{result_and}
use Rattle.std.specs.Str.{IsUtf8}
use Rattle.wild_script_tree.specs.declared.tree.Command.{Command}
use Rattle.wild_script_tree.specs.declared.tree.Command.TheOpen.{Command-F}
use Rattle.wild_script_tree.specs.declared.tree.Command.TheFolds.{fold-Command}
use Rattle.wild_script.specs.declared.input.InputKind.{InputKind}
use Rattle.wild_script.specs.declared.input.InputKind.TheVariants as kind
use Rattle.wild_script.specs.declared.input.Modifiers.{Modifiers}
use Rattle.wild_script.specs.declared.input.InputFault.{InputFault}
use Rattle.wild_script.specs.declared.input.InputFault.TheVariants as fault

-- ---- arguments

-- the bytes of an argument, and how it is wanted
pub record Argument : Type 0 where
  pub name : List ℕ
  pub modifiers : Modifiers

-- the arguments that there are where inputs are wanted so
abbrev pub Arguments : Type 0
Arguments = Modifiers → List Argument

-- only where it is needed
abbrev pub needed : Modifiers
needed = record { as_needed = true }

-- those of several, one after the other
abbrev pub in_all : List Arguments → Arguments
in_all [] modifiers = []
in_all (first ∷ rest) modifiers = first modifiers ++ in_all rest modifiers

-- those of one command, from those of each command in its brackets
abbrev pub arguments_step : Command-F Arguments → Arguments
arguments_step (Command-F.Arg name) modifiers = record { name = name; modifiers = modifiers } ∷ []
arguments_step (Command-F.Group commands) modifiers = in_all commands modifiers
arguments_step (Command-F.AsNeeded commands) modifiers = in_all commands needed
arguments_step other modifiers = []

-- those of one command
abbrev pub command_arguments : Command → Arguments
command_arguments = fold-Command Arguments arguments_step

-- those of commands, in text order
unfoldable pub arguments : List Command → Arguments
arguments commands = in_all (map command_arguments commands)

-- ---- inputs

-- it begins with `-l`
abbrev pub is_library : List ℕ → Bool
is_library name = starts_with nat_eq name (codes "-l")

-- what is shown of an argument
pub record Input : Type 0 where
  pub kind : InputKind
  pub name : List ℕ
  pub modifiers : Modifiers

-- a library, without its `-l`, or a file
unfoldable pub input_of : Argument → Input
input_of x =
    if is_library x.name then record { kind = kind.Lib; name = drop 2 x.name; modifiers = x.modifiers }
    else record { kind = kind.File; name = x.name; modifiers = x.modifiers }

-- ---- walks

-- an input that was shown, and whether more were wanted
abbrev pub Visit : Type 0
Visit = Input × Bool

-- the number after a number
abbrev pub next_number : ℕ → ℕ
next_number n = min (n + 1) (2 ^ 64 - 1)

-- the number after the last argument, or why a walk ended before it
abbrev pub End : Type 0
End = Result ℕ InputFault

-- over arguments, the first of which has this number: the visits, one after the other, and the end
pub data Walk : ℕ → List Argument → List Visit → End → Type 0 where
  -- none are left
  done : {n : ℕ} → Walk n [] [] (Ok n)
  -- the first one is not UTF-8
  strange : {n : ℕ} {x : Argument} {xs : List Argument} → (IsUtf8 x.name → ⊥) → Walk n (x ∷ xs) [] (Err (fault.NotUtf8 n))
  -- after the first one no more are wanted
  stopped : {n : ℕ} {x : Argument} {xs : List Argument} → IsUtf8 x.name → Walk n (x ∷ xs) ((input_of x, false) ∷ []) (Err fault.Stopped)
  -- after the first one more are wanted
  shown : {n : ℕ} {x : Argument} {xs : List Argument} {visits : List Visit} {end : End} → IsUtf8 x.name → Walk (next_number n) xs visits end → Walk n (x ∷ xs) ((input_of x, true) ∷ visits) end

-- what one visit makes of a visitor, by what it is shown and what it answers
abbrev pub Step : Type 0 → Type 1
Step V = V → InputKind → List ℕ → Modifiers → Bool → V → Type 0

-- these visits, one after the other, lead from one visitor to another
abbrev pub Sees : {V : Type 0} → Step V → V → List Visit → V → Type 0
Sees step old visits new = FoldsTo (λ v visit w. step v visit.0.kind visit.0.name visit.0.modifiers visit.1 w) old visits new

-- a visitor was shown these arguments, the first of which has this number, up to the end
pub record Shows {V : Type 0} (step : Step V) (n : ℕ) (old : V) (xs : List Argument) (new : V) (end : End) : Type 0 where
  pub visits : List Visit
  pub walked : Walk n xs visits end
  pub seen : Sees step old visits new

-- it was shown all of them, or up to where the walk ended early
pub record Shown {V : Type 0} (step : Step V) (old : V) (xs : List Argument) (new : V) (result : Result (Unit {0}) InputFault) : Type 0 where
  pub end : End
  pub shows : Shows step 0 old xs new end
  pub told : result ≡ result_and end (Ok tt)
