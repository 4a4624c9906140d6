use Rattle.std.proofs.Common.{◌≡◌, map, drop}
use Rattle.csv.specs.Records.{fields_of}
use Rattle.wild_table.specs.Table.{records_from, table_of}
use Rattle.wild_table.proofs.Tables.{with_front}
use Rattle.wild_table.proofs.table.read_records.Given as goal

-- the table so far and the records that are left are those of all
abbrev pub invariant-loop-index : goal.invariant-loop-index
invariant-loop-index l = with_front l.inputs (records_from l.index (map fields_of (drop l.index l.records))) ≡ table_of (records_from 0 (map fields_of l.records))
