-- The table so far, and the records that are left.
use Rattle.std.proofs.Common.{◌≡◌, ◌<◌, sym, refl, ℕ, ◌+◌, List, [], ◌∷◌, ◌++◌, length, map, drop, get_or, Some, None, Result, Ok, Err, append_assoc}
use Rattle.std.proofs.lemmas.List.{drop_more}
use Rattle.csv.specs.Records.{fields_of}
use Rattle.csv.specs.declared.record.ByteRecord.{ByteRecord}
use Rattle.wild_plan_spec.specs.declared.row.InputTable.{InputTable}
use Rattle.wild_table.specs.declared.records.Record.{Record}
use Rattle.wild_table.specs.declared.records.Record.TheVariants.{OfRow, OfSymbol}
use Rattle.wild_table.specs.Forms.{record_of}
use Rattle.wild_table.specs.Table.{with_record, records_from, rows_of, symbols_of, table_of, extended}

-- the table of records after those of another
abbrev pub with_front : InputTable → Result (List Record) ℕ → Result InputTable ℕ
with_front front (Ok records) = Ok (record { rows = front.rows ++ rows_of records; symbols = front.symbols ++ symbols_of records })
with_front front (Err bad) = Err bad

pub front-nil : (r : Result (List Record) ℕ) → with_front (record { rows = []; symbols = [] }) r ≡ table_of r
front-nil (Ok records) = refl
front-nil (Err bad) = refl

push : (front : InputTable) (read : Record) (index : ℕ) (r : Result (List Record) ℕ) → with_front front (with_record (Some read) index r) ≡ with_front (extended front read) r
push front (OfRow row) index (Ok records) = rw append_assoc refl
push front (OfSymbol symbol) index (Ok records) = rw append_assoc refl
push front (OfRow row) index (Err bad) = refl
push front (OfSymbol symbol) index (Err bad) = refl

record-more : (front new : InputTable) (fields : List (List ℕ)) (rest : List (List (List ℕ))) (read : Record) (index : ℕ)
    → Some read ≡ record_of fields → new ≡ extended front read
    → with_front new (records_from (index + 1) rest) ≡ with_front front (records_from index (fields ∷ rest))
record-more front new fields rest read index e is = rw (is, ← e) (sym (push front read index (records_from (index + 1) rest)))

-- one record more was read
pub read-more : (front new : InputTable) (all : List ByteRecord) (index : ℕ) (d : ByteRecord) (read : Record)
    → index < length all → Some read ≡ record_of (fields_of (get_or all index d)) → new ≡ extended front read
    → with_front new (records_from (index + 1) (map fields_of (drop (index + 1) all))) ≡ with_front front (records_from index (map fields_of (drop index all)))
read-more front new all index d read less e is =
    rw (drop_more all index d less) (record-more front new (fields_of (get_or all index d)) (map fields_of (drop (index + 1) all)) read index e is)

pub front-stop : (front : InputTable) (fields : List (List ℕ)) (rest : List (List (List ℕ))) (index : ℕ) → None ≡ record_of fields
    → with_front front (records_from index (fields ∷ rest)) ≡ Err index
front-stop front fields rest index e = rw (← e) refl

pub ruleset tables = (front-nil, front-stop)
