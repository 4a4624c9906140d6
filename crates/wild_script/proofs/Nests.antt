-- Commands use those that are read one deeper at the limit that is given.
use Rattle.std.specs.Prelude.{ℕ, Option, Some, None, List}
use Rattle.wild_reading.proofs.Readers.{IsLocal, IsInner, self_local, same_local, then_local, until_local, inner}
use Rattle.wild_expression_words.specs.Dialect.{Dialect}
use Rattle.wild_script.specs.declared.words.CommandWord.{CommandWord}
use Rattle.wild_script.specs.declared.words.CommandWord.TheVariants as c
use Rattle.wild_script.specs.declared.words.Nest.{Nest}
use Rattle.wild_script.specs.Words.{command_word}
use Rattle.wild_script.specs.Nest.{nest_of, word_command_of, found_word_of, after_word_of, command_of, list_of, inner_list, list}

nest_local : (kind : Nest) → IsLocal (λ R. nest_of R kind)
unfolding nest_of
nest_local kind = then_local same_local (λ _. then_local self_local (λ _. same_local))

module _ (dialect : Dialect) where
  word_local : (found : CommandWord) → IsLocal (λ R. word_command_of dialect R found)
  word_local (c.Nest kind) = nest_local kind
  word_local c.OutputFormat = same_local
  word_local c.Sections = same_local
  word_local c.Entry = same_local
  word_local c.Version = same_local
  word_local c.Provide = same_local
  word_local c.ProvideHidden = same_local
  word_local c.Assert = same_local
  word_local c.Memory = same_local
  word_local c.Phdrs = same_local

  found_local : (first : List ℕ) (found : Option CommandWord) → IsLocal (λ R. found_word_of dialect R first found)
  found_local first None = same_local
  found_local first (Some found) = word_local found

  list_local : IsLocal (list_of dialect)
  unfolding list_of command_of after_word_of
  list_local = until_local (then_local same_local (λ w. found_local w.content (command_word w.content)))

  pub list_inner : IsInner (list dialect) (inner_list dialect)
  unfolding list inner_list
  list_inner = inner (list_of dialect) list_local
