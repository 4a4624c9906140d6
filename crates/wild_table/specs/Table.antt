-- The table of inputs.
use Rattle.std.specs.Prelude.{◌≡◌, ◌+◌, ◌++◌, ℕ, List, [], ◌∷◌, Option, Some, None, Result, Ok, Err, ⊤}
use Rattle.csv.specs.Reading as csv
use Rattle.wild_plan_spec.specs.declared.row.InputRow.{InputRow}
use Rattle.wild_plan_spec.specs.declared.row.SymbolRow.{SymbolRow}
use Rattle.wild_plan_spec.specs.declared.row.InputTable.{InputTable}
use Rattle.wild_table.specs.Forms.{record_of}
use Rattle.wild_table.specs.declared.records.Record.{Record}
use Rattle.wild_table.specs.declared.records.Record.TheVariants.{OfRow, OfSymbol}
use Rattle.wild_table.specs.declared.table.TableFault.{TableFault}
use Rattle.wild_table.specs.declared.table.TableFault.TheVariants.{BadRecord, NoMemory}

-- the fields of each record of a text, without a byte order mark at its start
abbrev pub field_lists : List ℕ → List (List (List ℕ))
field_lists bytes = csv.records csv.default_config (csv.strip_bom bytes)

-- with one record more in front, or the number of the one that is of no form
abbrev pub with_record : Option Record → ℕ → Result (List Record) ℕ → Result (List Record) ℕ
with_record None index rest = Err index
with_record (Some first) index (Err bad) = Err bad
with_record (Some first) index (Ok others) = Ok (first ∷ others)

-- the records of these fields, of which the first has this number, or the number of the first that is of no form
abbrev pub records_from : ℕ → List (List (List ℕ)) → Result (List Record) ℕ
records_from index [] = Ok []
records_from index (fields ∷ more) = with_record (record_of fields) index (records_from (index + 1) more)

-- the rows among records
abbrev pub rows_of : List Record → List InputRow
rows_of [] = []
rows_of (OfRow row ∷ others) = row ∷ rows_of others
rows_of (OfSymbol symbol ∷ others) = rows_of others

-- the symbols among records
abbrev pub symbols_of : List Record → List SymbolRow
symbols_of [] = []
symbols_of (OfRow row ∷ others) = symbols_of others
symbols_of (OfSymbol symbol ∷ others) = symbol ∷ symbols_of others

-- the table of the records, if all are of a form
abbrev pub table_of : Result (List Record) ℕ → Result InputTable ℕ
table_of (Ok records) = Ok (record { rows = rows_of records; symbols = symbols_of records })
table_of (Err index) = Err index

-- the table that a text writes, or the number of its first bad record
abbrev pub table : List ℕ → Result InputTable ℕ
table bytes = table_of (records_from 0 (field_lists bytes))

-- a table with one record more after the others
abbrev pub extended : InputTable → Record → InputTable
extended t (OfRow row) = record { rows = t.rows ++ row ∷ []; symbols = t.symbols }
extended t (OfSymbol symbol) = record { rows = t.rows; symbols = t.symbols ++ symbol ∷ [] }

-- what was read is this, unless memory ran out
abbrev pub ReadsTable : Result InputTable ℕ → Result InputTable TableFault → Type 0
ReadsTable wanted (Ok read) = wanted ≡ Ok read
ReadsTable wanted (Err (BadRecord index)) = wanted ≡ Err index
ReadsTable wanted (Err NoMemory) = ⊤
