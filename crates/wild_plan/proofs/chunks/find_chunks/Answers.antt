use Rattle.std.proofs.Common.{sym, subst}
use Rattle.std.proofs.lemmas.Result.{IfOk-weaker}
use Rattle.std.specs.List.{filter}
use Rattle.wild_plan_spec.specs.Chunks.{is_of, kept_rows}
use Rattle.wild_plan_spec.specs.Order.{IsOrdered, stands_before}
use Rattle.wild_plan_spec.proofs.RowOrder.{rows_filtered}
use Rattle.wild_plan.proofs.chunks.find_chunks.Goals as goal

pub returns : goal.returns
returns c =
    let table = kept_rows 0 c.args.rows.now c.args.fates.now in
    let ordered = subst (λ rows. IsOrdered stands_before rows c.sort.new.rows.items) c.in_ok-kept.ensures c.in_ok-sort.ensures in
    IfOk-weaker c.by_chunk.result _ _
    (λ chunks each q. subst (λ rows. IsOrdered stands_before (filter (is_of q) table) rows) (sym (each q)) (rows_filtered (is_of q) _ _ ordered))
    c.by_chunk.ensures
