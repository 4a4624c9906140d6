use Rattle.std.proofs.Common.{◌≡◌, drop}
use Rattle.wild_cli.specs.Shelf.{written_of}
use Rattle.wild_cli.proofs.shelf.written_of.Given as goal

-- none of the puts so far has the number
abbrev pub invariant-loop-put : goal.invariant-loop-put
invariant-loop-put l = written_of (drop l.put-index l.failing) l.call ≡ written_of l.failing l.call
