use Rattle.std.proofs.Common.{◌≡◌, sym, ◌∙◌, arith, ◌++◌, ◌∷◌, [], get_or, rules}
use Rattle.wild_glob.proofs.Escapes.{rest_behind_kept, rest_behind_escape}
use Rattle.wild_glob.proofs.escape.unescape_pattern.Goals as goal
use Rattle.wild_glob.proofs.escape.unescape_pattern.Goals.{then-not-escaped+in_ok-push, else-not-escaped}

pub loop-byte-preserved : goal.loop-byte-preserved
loop-byte-preserved c = elim c.if-not-escaped.branch [
  | then-not-escaped+in_ok-push w ↦
      let step = rest_behind_kept c.loop-byte.escaped c.loop-byte.bytes.items c.args.pattern.now c.loop-byte.byte-index (omega arith) (sym c.escapes-escaped.ensures ∙ w.if-not-escaped.true) in
      let items : w.push.new.self.items ≡ c.loop-byte.bytes.items ++ get_or c.args.pattern.now c.loop-byte.byte-index 0 ∷ [] = search rules in
      rw (w.bytes-is, w.if-not-escaped.true, items) (sym step ∙ c.loop-byte.invariant)
  | else-not-escaped w ↦
      let step = rest_behind_escape c.loop-byte.escaped c.args.pattern.now c.loop-byte.byte-index (omega arith) (sym c.escapes-escaped.ensures ∙ w.if-not-escaped.false) in
      rw (w.bytes-is, w.if-not-escaped.false, ← step) c.loop-byte.invariant
]
