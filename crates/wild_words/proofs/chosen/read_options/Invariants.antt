use Rattle.std.proofs.Common.{◌≡◌, drop}
use Rattle.wild_words.specs.Options.{options_of}
use Rattle.wild_words.proofs.Later.{options_from}
use Rattle.wild_words.proofs.chosen.read_options.Given as goal

-- what is chosen so far and the words that are left come to the options of all words
abbrev pub invariant-loop-word : goal.invariant-loop-word
invariant-loop-word l = options_from l.chosen (drop l.word-index l.words) ≡ options_of l.words
