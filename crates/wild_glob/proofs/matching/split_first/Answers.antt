use Rattle.std.proofs.Common.{rules}
use Rattle.wild_glob.proofs.Texts.{split_off}
use Rattle.wild_glob.proofs.matching.split_first.Goals as goal

pub returns : goal.returns
returns c = split_off c.args.text.now c.as_str.result.now c.in_ok-first.first c.utf8.text (search rules)
