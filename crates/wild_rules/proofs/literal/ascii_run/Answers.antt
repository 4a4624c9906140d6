use Rattle.std.proofs.Common.{◌∙◌, sym, ap}
use Rattle.wild_rules.specs.Index.{byte_of}
use Rattle.wild_rules.proofs.Runs.{run_done, run_step}
use Rattle.wild_rules.proofs.literal.ascii_run.Goals as goal

pub loop-byte-preserved : goal.loop-byte-preserved
loop-byte-preserved c =
    run_step c.args.pattern.now c.loop-byte.bytes.items c.push.new.self.items _ c.in-Some.byte c.in_ok-push.ensures.items (ap (byte_of c.args.pattern.now) (sym c.loop-byte.bytes.ok.0 ∙ sym c.len.ensures) ∙ sym c.byte_of.ensures ∙ c.in-Some.is) c.loop-byte.invariant

pub returns : goal.returns
returns c = run_done c.args.pattern.now c.loop-byte.bytes.items _ (ap (byte_of c.args.pattern.now) (sym c.loop-byte.bytes.ok.0 ∙ sym c.len.ensures) ∙ sym c.byte_of.ensures ∙ c.in_default.is) c.loop-byte.invariant
