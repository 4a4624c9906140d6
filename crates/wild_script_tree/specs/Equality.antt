-- When commands, statements and what is in them are equal: all their fields are, in order, but for the positions of ASSERTs.
use Rattle.std.specs.Prelude.{◌≡◌, Bool, true, false, ◌&&◌, List, [], ◌∷◌}
use Rattle.std.specs.Option.{option_eq}
use Rattle.std.specs.Cmp.{IsEquivalence, on_equiv, and_equiv}
use Rattle.std.specs.Cmp.Lexicographic.{pointwise, lists_equiv, options_equiv, nat_list_eq_equiv}
use Rattle.std.specs.Ordering.{on, eq_of_both}
use Rattle.std.proofs.Common.{refl, sym, true≢false}
use Rattle.std.proofs.lemmas.Bool.{and_parts}
use Rattle.wild_expression_tree.specs.Equality.{same, same_equiv, same_assert, same_assert_equiv}
use Rattle.wild_script_tree.specs.contracts.tree.LocationPartialEq.TheImpl as location
use Rattle.wild_script_tree.specs.contracts.tree.SymbolAssignmentPartialEq.TheImpl as assignment
use Rattle.wild_script_tree.specs.contracts.tree.ProvideSymbolDefinitionPartialEq.TheImpl as provide
use Rattle.wild_script_tree.specs.contracts.tree.FillPartialEq.TheImpl as fill
use Rattle.wild_script_tree.specs.contracts.tree.SectionAttributesPartialEq.TheImpl as attributes
use Rattle.wild_script_tree.specs.contracts.tree.ContentsCommandPartialEq.TheImpl as contents
use Rattle.wild_script_tree.specs.contracts.tree.MemoryRegionPartialEq.TheImpl as region
use Rattle.wild_script_tree.specs.contracts.tree.PhdrPartialEq.TheImpl as phdr
use Rattle.wild_script_tree.specs.contracts.tree.OutputFormatPartialEq.TheImpl as format
use Rattle.wild_script_tree.specs.contracts.tree.LocationEq.TheImpl.Laws as location_laws
use Rattle.wild_script_tree.specs.contracts.tree.SymbolAssignmentEq.TheImpl.Laws as assignment_laws
use Rattle.wild_script_tree.specs.contracts.tree.ProvideSymbolDefinitionEq.TheImpl.Laws as provide_laws
use Rattle.wild_script_tree.specs.contracts.tree.FillEq.TheImpl.Laws as fill_laws
use Rattle.wild_script_tree.specs.contracts.tree.SectionAttributesEq.TheImpl.Laws as attributes_laws
use Rattle.wild_script_tree.specs.contracts.tree.ContentsCommandEq.TheImpl.Laws as contents_laws
use Rattle.wild_script_tree.specs.contracts.tree.MemoryRegionEq.TheImpl.Laws as region_laws
use Rattle.wild_script_tree.specs.contracts.tree.PhdrEq.TheImpl.Laws as phdr_laws
use Rattle.wild_script_tree.specs.contracts.tree.OutputFormatEq.TheImpl.Laws as format_laws
use Rattle.wild_script_tree.specs.declared.tree.Location.{Location}
use Rattle.wild_script_tree.specs.declared.tree.SymbolAssignment.{SymbolAssignment}
use Rattle.wild_script_tree.specs.declared.tree.ProvideSymbolDefinition.{ProvideSymbolDefinition}
use Rattle.wild_script_tree.specs.declared.tree.Fill.{Fill}
use Rattle.wild_script_tree.specs.declared.tree.SectionAttributes.{SectionAttributes}
use Rattle.wild_script_tree.specs.declared.tree.ContentsCommand.{ContentsCommand}
use Rattle.wild_script_tree.specs.declared.tree.MemoryRegion.{MemoryRegion}
use Rattle.wild_script_tree.specs.declared.tree.Phdr.{Phdr}
use Rattle.wild_script_tree.specs.declared.tree.OutputFormat.{OutputFormat}
use Rattle.wild_script_tree.specs.Matchers.{same_name, optional_name_equiv}
use Rattle.wild_script_tree.specs.declared.tree.Section.{Section}
use Rattle.wild_script_tree.specs.declared.tree.SectionCommand.{SectionCommand}
use Rattle.wild_script_tree.specs.declared.tree.Sections.{Sections}
use Rattle.wild_script_tree.specs.declared.tree.SectionCommand.TheVariants as statement
use Rattle.wild_script_tree.specs.declared.tree.Command.{Command, out-Command}
use Rattle.wild_script_tree.specs.declared.tree.Command.TheOpen.{Command-F}
use Rattle.wild_script_tree.specs.declared.tree.Command.TheFolds.{fold-Command, map-Command}

-- ---- what is derived: all fields, in order

-- two statements about the location counter
abbrev pub same_location : Location → Location → Bool
same_location = (location.ghosts).eq

-- two symbols and what they become
abbrev pub same_assignment : SymbolAssignment → SymbolAssignment → Bool
same_assignment = (assignment.ghosts).eq

-- the same of PROVIDE, and whether it hides
abbrev pub same_provide : ProvideSymbolDefinition → ProvideSymbolDefinition → Bool
same_provide = (provide.ghosts).eq

-- two values between inputs
abbrev pub same_fill : Fill → Fill → Bool
same_fill = (fill.ghosts).eq

-- two kinds that sections are said to be
abbrev pub same_attributes : SectionAttributes → SectionAttributes → Bool
same_attributes = (attributes.ghosts).eq

-- two statements in a section
abbrev pub same_contents : ContentsCommand → ContentsCommand → Bool
same_contents = (contents.ghosts).eq

-- two memory regions
abbrev pub same_region : MemoryRegion → MemoryRegion → Bool
same_region = (region.ghosts).eq

-- two program headers
abbrev pub same_phdr : Phdr → Phdr → Bool
same_phdr = (phdr.ghosts).eq

-- two output formats
abbrev pub same_format : OutputFormat → OutputFormat → Bool
same_format = (format.ghosts).eq

-- ---- sections and their statements

-- the clauses of two sections before their braces
abbrev pub same_head : Section → Section → Bool
same_head = eq_of_both (on (λ s. s.output_section_name) same_name) (eq_of_both (on (λ s. s.start_address_expression) (option_eq same)) (eq_of_both (on (λ s. s.attributes) (option_eq same_attributes)) (eq_of_both (on (λ s. s.at_address) (option_eq same)) (on (λ s. s.alignment) (option_eq same)))))

-- those behind them
abbrev pub same_tail : Section → Section → Bool
same_tail = eq_of_both (on (λ s. s.region) (option_eq same_name)) (eq_of_both (on (λ s. s.phdrs) (pointwise same_name)) (on (λ s. s.fill) (option_eq same_fill)))

-- two sections: these, and what is in the braces
abbrev pub same_section : Section → Section → Bool
same_section = eq_of_both same_head (eq_of_both (on (λ s. s.commands) (pointwise same_contents)) same_tail)

-- two statements in SECTIONS, of one kind
abbrev pub same_statement : SectionCommand → SectionCommand → Bool
same_statement (statement.Section x) (statement.Section y) = same_section x y
same_statement (statement.SetLocation x) (statement.SetLocation y) = same_location x y
same_statement (statement.Assert x) (statement.Assert y) = same_assert x y
same_statement (statement.Provide x) (statement.Provide y) = same_provide x y
same_statement (statement.SymbolAssignment x) (statement.SymbolAssignment y) = same_assignment x y
same_statement x y = false

-- what is in two SECTIONS
abbrev pub same_sections : Sections → Sections → Bool
same_sections = on (λ s. s.commands) (pointwise same_statement)

-- ---- outermost commands

-- two of one kind, but for the commands that they hold
abbrev pub same_level : {X : Type 0} → Command-F X → Command-F X → Bool
same_level (Command-F.Arg x) (Command-F.Arg y) = same_name x y
same_level (Command-F.Group xs) (Command-F.Group ys) = true
same_level (Command-F.AsNeeded xs) (Command-F.AsNeeded ys) = true
same_level Command-F.Ignored Command-F.Ignored = true
same_level (Command-F.Sections x) (Command-F.Sections y) = same_sections x y
same_level (Command-F.Entry x) (Command-F.Entry y) = same_name x y
same_level (Command-F.Version x) (Command-F.Version y) = same_name x y
same_level (Command-F.SymbolDefinition n x) (Command-F.SymbolDefinition m y) = same_name n m && same x y
same_level (Command-F.SetLocation x) (Command-F.SetLocation y) = same_location x y
same_level (Command-F.Provide x) (Command-F.Provide y) = same_provide x y
same_level (Command-F.Assert x) (Command-F.Assert y) = same_assert x y
same_level (Command-F.Memory xs) (Command-F.Memory ys) = pointwise same_region xs ys
same_level (Command-F.Phdrs xs) (Command-F.Phdrs ys) = pointwise same_phdr xs ys
same_level (Command-F.OutputFormat x) (Command-F.OutputFormat y) = same_format x y
same_level x y = false

-- the commands that it holds
abbrev pub held : {X : Type 0} → Command-F X → List X
held (Command-F.Group xs) = xs
held (Command-F.AsNeeded xs) = xs
held x = []

-- commands in a row: each without what it holds, then the row of what it holds, then those that follow it
pub data Row : Type 0 where
  end : Row
  row : Command-F Unit → Row → Row → Row

-- whether two rows are the same
unfoldable pub row_eq : Row → Row → Bool
row_eq end end = true
row_eq (row x r s) (row y t u) = (same_level x y && row_eq r t) && row_eq s u
row_eq r s = false

-- an item of a row: a command without what it holds, and the row of what it holds
abbrev pub Item : Type 0
Item = Command-F Unit × Row

-- these in a row
abbrev pub in_row : List Item → Row
in_row [] = end
in_row (x ∷ xs) = row x.0 x.1 (in_row xs)

-- the same of one whose held commands are such
abbrev pub item_of : Command-F Item → Item
item_of x = (map-Command Item Unit (λ e. tt) x, in_row (held x))

-- of a whole command
abbrev pub item : Command → Item
item = fold-Command Item item_of

-- two of them
abbrev pub same_item : Item → Item → Bool
same_item = eq_of_both (on (λ e. e.0) same_level) (on (λ e. e.1) row_eq)

-- two commands
abbrev pub same_command : Command → Command → Bool
same_command = on item same_item

-- two lists of commands
abbrev pub same_commands : List Command → List Command → Bool
same_commands = pointwise same_command

-- two commands are equal where they are but for what they hold, and hold equal commands
abbrev pub EqualityGoesByLevels : Type 0
EqualityGoesByLevels = (x y : Command) → same_command x y ≡ (same_level (out-Command x) (out-Command y) && same_commands (held (out-Command x)) (held (out-Command y)))

-- ---- laws: all of these are equivalences

optional_expression_equiv : IsEquivalence (option_eq same)
optional_expression_equiv = options_equiv same_equiv

same_head_equiv : IsEquivalence same_head
same_head_equiv =
    and_equiv (on_equiv (λ (s : Section). s.output_section_name) nat_list_eq_equiv)
    (and_equiv (on_equiv (λ (s : Section). s.start_address_expression) optional_expression_equiv)
    (and_equiv (on_equiv (λ (s : Section). s.attributes) (options_equiv attributes_laws.laws-law))
    (and_equiv (on_equiv (λ (s : Section). s.at_address) optional_expression_equiv) (on_equiv (λ (s : Section). s.alignment) optional_expression_equiv))))

same_tail_equiv : IsEquivalence same_tail
same_tail_equiv =
    and_equiv (on_equiv (λ (s : Section). s.region) optional_name_equiv)
    (and_equiv (on_equiv (λ (s : Section). s.phdrs) (lists_equiv nat_list_eq_equiv)) (on_equiv (λ (s : Section). s.fill) (options_equiv fill_laws.laws-law)))

pub same_section_equiv : IsEquivalence same_section
same_section_equiv = and_equiv same_head_equiv (and_equiv (on_equiv (λ (s : Section). s.commands) (lists_equiv contents_laws.laws-law)) same_tail_equiv)

statement_itself : (x : SectionCommand) → same_statement x x ≡ true
statement_itself (statement.Section x) = same_section_equiv.refl x
statement_itself (statement.SetLocation x) = (location_laws.laws-law).refl x
statement_itself (statement.Assert x) = same_assert_equiv.refl x
statement_itself (statement.Provide x) = (provide_laws.laws-law).refl x
statement_itself (statement.SymbolAssignment x) = (assignment_laws.laws-law).refl x

statement_turned : (x y : SectionCommand) → same_statement x y ≡ same_statement y x
statement_turned (statement.Section x) (statement.Section y) = same_section_equiv.symm x y
statement_turned (statement.SetLocation x) (statement.SetLocation y) = (location_laws.laws-law).symm x y
statement_turned (statement.Assert x) (statement.Assert y) = same_assert_equiv.symm x y
statement_turned (statement.Provide x) (statement.Provide y) = (provide_laws.laws-law).symm x y
statement_turned (statement.SymbolAssignment x) (statement.SymbolAssignment y) = (assignment_laws.laws-law).symm x y
statement_turned x y = refl

statement_alike : (x y z : SectionCommand) → same_statement x y ≡ true → same_statement x z ≡ same_statement y z
statement_alike (statement.Section x) (statement.Section y) (statement.Section z) e = same_section_equiv.congr x y z e
statement_alike (statement.Section x) (statement.Section y) z e = refl
statement_alike (statement.SetLocation x) (statement.SetLocation y) (statement.SetLocation z) e = (location_laws.laws-law).congr x y z e
statement_alike (statement.SetLocation x) (statement.SetLocation y) z e = refl
statement_alike (statement.Assert x) (statement.Assert y) (statement.Assert z) e = same_assert_equiv.congr x y z e
statement_alike (statement.Assert x) (statement.Assert y) z e = refl
statement_alike (statement.Provide x) (statement.Provide y) (statement.Provide z) e = (provide_laws.laws-law).congr x y z e
statement_alike (statement.Provide x) (statement.Provide y) z e = refl
statement_alike (statement.SymbolAssignment x) (statement.SymbolAssignment y) (statement.SymbolAssignment z) e = (assignment_laws.laws-law).congr x y z e
statement_alike (statement.SymbolAssignment x) (statement.SymbolAssignment y) z e = refl
statement_alike x y z e = absurd (true≢false (sym e))

pub same_statement_equiv : IsEquivalence same_statement
same_statement_equiv = record { refl = statement_itself; symm = statement_turned; congr = statement_alike }

pub same_sections_equiv : IsEquivalence same_sections
same_sections_equiv = on_equiv (λ (s : Sections). s.commands) (lists_equiv same_statement_equiv)

regions_equiv : IsEquivalence (pointwise same_region)
regions_equiv = lists_equiv region_laws.laws-law

phdrs_equiv : IsEquivalence (pointwise same_phdr)
phdrs_equiv = lists_equiv phdr_laws.laws-law

level_itself : (x : Command-F Unit) → same_level x x ≡ true
level_itself (Command-F.Group xs) = refl
level_itself (Command-F.AsNeeded xs) = refl
level_itself Command-F.Ignored = refl
level_itself (Command-F.SymbolDefinition n x) = λ i. nat_list_eq_equiv.refl n i && same_equiv.refl x i
level_itself (Command-F.Arg x) = (nat_list_eq_equiv).refl x
level_itself (Command-F.Sections x) = (same_sections_equiv).refl x
level_itself (Command-F.Entry x) = (nat_list_eq_equiv).refl x
level_itself (Command-F.Version x) = (nat_list_eq_equiv).refl x
level_itself (Command-F.SetLocation x) = (location_laws.laws-law).refl x
level_itself (Command-F.Provide x) = (provide_laws.laws-law).refl x
level_itself (Command-F.Assert x) = (same_assert_equiv).refl x
level_itself (Command-F.Memory x) = (regions_equiv).refl x
level_itself (Command-F.Phdrs x) = (phdrs_equiv).refl x
level_itself (Command-F.OutputFormat x) = (format_laws.laws-law).refl x

level_turned : (x y : Command-F Unit) → same_level x y ≡ same_level y x
level_turned (Command-F.SymbolDefinition n x) (Command-F.SymbolDefinition m y) = λ i. nat_list_eq_equiv.symm n m i && same_equiv.symm x y i
level_turned (Command-F.Arg x) (Command-F.Arg y) = (nat_list_eq_equiv).symm x y
level_turned (Command-F.Sections x) (Command-F.Sections y) = (same_sections_equiv).symm x y
level_turned (Command-F.Entry x) (Command-F.Entry y) = (nat_list_eq_equiv).symm x y
level_turned (Command-F.Version x) (Command-F.Version y) = (nat_list_eq_equiv).symm x y
level_turned (Command-F.SetLocation x) (Command-F.SetLocation y) = (location_laws.laws-law).symm x y
level_turned (Command-F.Provide x) (Command-F.Provide y) = (provide_laws.laws-law).symm x y
level_turned (Command-F.Assert x) (Command-F.Assert y) = (same_assert_equiv).symm x y
level_turned (Command-F.Memory x) (Command-F.Memory y) = (regions_equiv).symm x y
level_turned (Command-F.Phdrs x) (Command-F.Phdrs y) = (phdrs_equiv).symm x y
level_turned (Command-F.OutputFormat x) (Command-F.OutputFormat y) = (format_laws.laws-law).symm x y
level_turned x Command-F.Ignored = refl
level_turned x y = refl

level_alike : (x y z : Command-F Unit) → same_level x y ≡ true → same_level x z ≡ same_level y z
level_alike (Command-F.Group xs) (Command-F.Group ys) (Command-F.Group zs) e = refl
level_alike (Command-F.Group xs) (Command-F.Group ys) z e = refl
level_alike (Command-F.AsNeeded xs) (Command-F.AsNeeded ys) (Command-F.AsNeeded zs) e = refl
level_alike (Command-F.AsNeeded xs) (Command-F.AsNeeded ys) z e = refl
level_alike Command-F.Ignored Command-F.Ignored z e = refl
level_alike (Command-F.SymbolDefinition n x) (Command-F.SymbolDefinition m y) (Command-F.SymbolDefinition k z) e =
    let p = and_parts (same_name n m) _ e in
    λ i. nat_list_eq_equiv.congr n m k p.0 i && same_equiv.congr x y z p.1 i
level_alike (Command-F.SymbolDefinition n x) (Command-F.SymbolDefinition m y) z e = refl
level_alike (Command-F.Arg x) (Command-F.Arg y) (Command-F.Arg z) e = (nat_list_eq_equiv).congr x y z e
level_alike (Command-F.Arg x) (Command-F.Arg y) z e = refl
level_alike (Command-F.Sections x) (Command-F.Sections y) (Command-F.Sections z) e = (same_sections_equiv).congr x y z e
level_alike (Command-F.Sections x) (Command-F.Sections y) z e = refl
level_alike (Command-F.Entry x) (Command-F.Entry y) (Command-F.Entry z) e = (nat_list_eq_equiv).congr x y z e
level_alike (Command-F.Entry x) (Command-F.Entry y) z e = refl
level_alike (Command-F.Version x) (Command-F.Version y) (Command-F.Version z) e = (nat_list_eq_equiv).congr x y z e
level_alike (Command-F.Version x) (Command-F.Version y) z e = refl
level_alike (Command-F.SetLocation x) (Command-F.SetLocation y) (Command-F.SetLocation z) e = (location_laws.laws-law).congr x y z e
level_alike (Command-F.SetLocation x) (Command-F.SetLocation y) z e = refl
level_alike (Command-F.Provide x) (Command-F.Provide y) (Command-F.Provide z) e = (provide_laws.laws-law).congr x y z e
level_alike (Command-F.Provide x) (Command-F.Provide y) z e = refl
level_alike (Command-F.Assert x) (Command-F.Assert y) (Command-F.Assert z) e = (same_assert_equiv).congr x y z e
level_alike (Command-F.Assert x) (Command-F.Assert y) z e = refl
level_alike (Command-F.Memory x) (Command-F.Memory y) (Command-F.Memory z) e = (regions_equiv).congr x y z e
level_alike (Command-F.Memory x) (Command-F.Memory y) z e = refl
level_alike (Command-F.Phdrs x) (Command-F.Phdrs y) (Command-F.Phdrs z) e = (phdrs_equiv).congr x y z e
level_alike (Command-F.Phdrs x) (Command-F.Phdrs y) z e = refl
level_alike (Command-F.OutputFormat x) (Command-F.OutputFormat y) (Command-F.OutputFormat z) e = (format_laws.laws-law).congr x y z e
level_alike (Command-F.OutputFormat x) (Command-F.OutputFormat y) z e = refl
level_alike x y z e = absurd (true≢false (sym e))

same_level_equiv : IsEquivalence (same_level {X = Unit})
same_level_equiv = record { refl = level_itself; symm = level_turned; congr = level_alike }

row_itself : (r : Row) → row_eq r r ≡ true
unfolding row_eq
row_itself end = refl
row_itself (row x r s) = λ i. (same_level_equiv.refl x i && row_itself r i) && row_itself s i

row_turned : (r s : Row) → row_eq r s ≡ row_eq s r
unfolding row_eq
row_turned (row x r s) (row y t u) = λ i. (same_level_equiv.symm x y i && row_turned r t i) && row_turned s u i
row_turned end end = refl
row_turned r s = refl

row_alike : (r s t : Row) → row_eq r s ≡ true → row_eq r t ≡ row_eq s t
unfolding row_eq
row_alike end end t e = refl
row_alike (row x r s) (row y t u) end e = refl
row_alike (row x r s) (row y t u) (row z v w) e =
    let p = and_parts (same_level x y && row_eq r t) _ e in
    let q = and_parts (same_level x y) _ p.0 in
    λ i. (same_level_equiv.congr x y z q.0 i && row_alike r t v q.1 i) && row_alike s u w p.1 i
row_alike r s t e = absurd (true≢false (sym e))

row_eq_equiv : IsEquivalence row_eq
row_eq_equiv = record { refl = row_itself; symm = row_turned; congr = row_alike }

pub same_command_equiv : IsEquivalence same_command
same_command_equiv = on_equiv item (and_equiv (on_equiv (λ (e : Item). e.0) same_level_equiv) (on_equiv (λ (e : Item). e.1) row_eq_equiv))

pub same_commands_equiv : IsEquivalence same_commands
same_commands_equiv = lists_equiv same_command_equiv
