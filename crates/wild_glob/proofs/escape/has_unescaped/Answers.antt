use Rattle.std.proofs.Common.{sym, ◌∙◌, arith}
use Rattle.wild_glob.proofs.Escapes.{has_behind_escaped, has_behind_other}
use Rattle.wild_glob.proofs.escape.has_unescaped.Goals as goal
use Rattle.wild_glob.proofs.escape.has_unescaped.Goals.{then-escaped, else-escaped+else-byte-wanted}

pub loop-byte-preserved : goal.loop-byte-preserved
loop-byte-preserved c = elim c.if-escaped.branch [
  | then-escaped w ↦ rw w.escaped-is (sym (has_behind_escaped c.args.wanted c.args.pattern.now c.loop-byte.byte-index (omega arith)) ∙ (rw w.if-escaped.true at c.loop-byte.invariant))
  | else-escaped+else-byte-wanted w ↦ rw w.escaped-is (sym (has_behind_other c.args.wanted c.args.pattern.now c.loop-byte.byte-index (omega arith) w.if-byte-wanted.false) ∙ (rw w.if-escaped.false at c.loop-byte.invariant))
]
