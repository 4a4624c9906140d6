-- The trees that bytes are read as.
use Rattle.std.specs.Prelude.{◌≡◌, ℕ, ◌≤◌, List, length}
use Rattle.wild_names.specs.declared.fault.Fault.{Fault}
use Rattle.wild_names.specs.declared.fault.Fault.TheVariants.{Syntax, UnclosedComment, UnsupportedNestedSort, TooDeep}
use Rattle.wild_reading.specs.Position as positions
use Rattle.wild_reading.specs.Position.{max_depth}
use Rattle.wild_reading.specs.Bytes.{is_end}
use Rattle.wild_reading.specs.Reader.{Reader, ◌>>=◌, ◌>>◌, Give, Until}
use Rattle.wild_reading.specs.Lex.{gap}
use Rattle.wild_reading.specs.Only.{IsOpenComment, IsNestedSort}
use Rattle.wild_expression_words.specs.Dialect.{Dialect, first_grammar}
use Rattle.wild_script.specs.Nest.{command}
use Rattle.wild_script.specs.declared.tree.LinkerScript.{LinkerScript}
use Rattle.wild_script_tree.specs.declared.tree.Command.{Command}

-- the bytes of a script
abbrev pub Bytes : Type 0
Bytes = positions.Bytes

-- ---- scripts

-- commands to the end of the bytes
unfoldable pub commands : Dialect → Reader (List Command)
commands dialect = Until is_end (command dialect)

-- a gap and commands
unfoldable pub script : Dialect → Reader LinkerScript
script dialect = do
  gap
  all ← commands dialect
  Give (record { commands = all })

-- ---- trees

-- the whole of the bytes is read as this tree, within that depth
unfoldable pub tree_within : ℕ → Bytes → LinkerScript → Type 0
tree_within depth b t = script first_grammar b depth 0 t (length b)

-- the whole of the bytes is read as this tree, within the limit of depth
abbrev pub tree : Bytes → LinkerScript → Type 0
tree b t = tree_within max_depth b t

-- it is a tree of the bytes, and no other is, of whatever depth
pub record IsTree (b : Bytes) (t : LinkerScript) : Type 0 where
  pub is : tree b t
  pub only : (depth : ℕ) (u : LinkerScript) → tree_within depth b u → u ≡ t

-- ---- no tree

-- the bytes have no tree within that depth
abbrev pub HasNone : ℕ → Bytes → Type 0
HasNone depth b = (t : LinkerScript) → tree_within depth b t → ⊥

-- the bytes have no tree of any depth
pub record IsSyntaxFault (b : Bytes) (position : ℕ) : Type 0 where
  pub none : (depth : ℕ) → HasNone depth b
  pub within : position ≤ length b

-- they have none of any depth, and a comment that begins at the position does not end
pub record IsUnclosedComment (b : Bytes) (position : ℕ) : Type 0 where
  pub none : (depth : ℕ) → HasNone depth b
  pub comment : IsOpenComment b position

-- they have none of any depth, and a sort word is at the position, directly in the brackets of another
pub record IsUnsupportedNestedSort (b : Bytes) (position : ℕ) : Type 0 where
  pub none : (depth : ℕ) → HasNone depth b
  pub sort : IsNestedSort b position

-- they have none within the limit of depth, and as many bytes that deepen a script are before the position
pub record IsTooDeep (b : Bytes) (position : ℕ) : Type 0 where
  pub none : HasNone max_depth b
  pub marks : max_depth ≤ positions.mark_count b position
  pub within : position ≤ length b

-- this fault says that the bytes have no tree
abbrev pub IsParseFault : Bytes → Fault → Type 0
IsParseFault b (Syntax position) = IsSyntaxFault b position
IsParseFault b (UnclosedComment position) = IsUnclosedComment b position
IsParseFault b (UnsupportedNestedSort position) = IsUnsupportedNestedSort b position
IsParseFault b (TooDeep position) = IsTooDeep b position
IsParseFault b f = ⊥
