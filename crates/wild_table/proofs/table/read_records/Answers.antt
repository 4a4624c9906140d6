use Rattle.std.proofs.Common.{◌≡◌, ◌<◌, ◌∙◌, rules, length, get_or, Some}
use Rattle.csv.specs.Records.{fields_of}
use Rattle.wild_table.specs.Forms.{record_of}
use Rattle.wild_table.specs.Table.{extended}
use Rattle.wild_table.proofs.Tables.{read-more}
use Rattle.wild_table.proofs.table.read_records.Goals as goal

pub loop-index-preserved : goal.loop-index-preserved
loop-index-preserved c =
    let less : c.loop-index.index < length c.args.records.now = search rules in
    let e : Some c.in-Some.read ≡ record_of (fields_of (get_or c.args.records.now c.loop-index.index c.index-records-index.result)) = search rules in
    let is : c.in_ok-inputs.inputs ≡ extended c.loop-index.inputs c.in-Some.read = search rules in
    read-more c.loop-index.inputs c.in_ok-inputs.inputs c.args.records.now c.loop-index.index c.index-records-index.result c.in-Some.read less e is ∙ c.loop-index.invariant
