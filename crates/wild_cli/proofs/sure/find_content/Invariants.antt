use Rattle.std.proofs.Common.{◌≡◌, drop}
use Rattle.wild_cli.specs.Shelf.{find_content}
use Rattle.wild_cli.proofs.sure.find_content.Given as goal

-- none of the files so far has the name
abbrev pub invariant-loop-file : goal.invariant-loop-file
invariant-loop-file l = find_content (drop l.file-index l.files) l.name ≡ find_content l.files l.name
