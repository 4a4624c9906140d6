-- Statements of SECTIONS rise.
use Rattle.std.specs.Prelude.{ℕ, Bool, List, Option, Some, None}
use Rattle.wild_reading.specs.Reader.{check}
use Rattle.wild_reading.specs.Lex.{Word, run, sort_bracket}
use Rattle.wild_expression_words.specs.Dialect.{first_grammar}
use Rattle.wild_patterns.specs.Pattern as p
use Rattle.wild_patterns.specs.Matcher.{file_matcher, keep_matcher}
use Rattle.wild_statements.specs.Assignment.{set_value, change, changed_value, assigned_value, tight_value, open_value, closed_value}
use Rattle.wild_statements.specs.Provide.{provide_body}
use Rattle.wild_script_tree.specs.declared.tree.Section.{Section}
use Rattle.wild_section_statements.specs.Attribute.{attribute}
use Rattle.wild_section_statements.specs.Before.{attribute_item, start_item, item, items}
use Rattle.wild_section_statements.specs.Clauses.{in_brackets, at_clause, align_clause, clause, clauses}
use Rattle.wild_section_statements.specs.Tail.{header_item, region_item, fill_item, region_or_fill, tail_item, tail}
use Rattle.wild_section_statements.specs.Contents as k
use Rattle.wild_section_statements.specs.Section.{section_start, section_clauses, section_body, section_tail, section_parts, named}
use Rattle.wild_section_statements.specs.Statement as s
use Rattle.wild_section_statements.specs.declared.words.ContentsWord.{ContentsWord}
use Rattle.wild_section_statements.specs.declared.words.ContentsWord.TheVariants as kw
use Rattle.wild_section_statements.specs.declared.words.StatementWord.{StatementWord}
use Rattle.wild_section_statements.specs.declared.words.StatementWord.TheVariants as sw
use Rattle.wild_script_laws.proofs.Rises.{Rises, lexing, inner_value_rises, assert_rises}

-- ---- what is assigned

pub provide_rises : (hidden : Bool) → Rises (provide_body first_grammar hidden)
unfolding provide_body
provide_rises hidden = search lexing depth 20

assigned_rises : (target : List ℕ) → Rises (assigned_value first_grammar target)
unfolding assigned_value set_value changed_value change
assigned_rises target = search (lexing, inner_value_rises) depth 20

pub open_rises : (target : List ℕ) → Rises (open_value first_grammar target)
unfolding open_value
open_rises target = search (lexing, assigned_rises) depth 20

tight_rises : (target : List ℕ) → Rises (tight_value first_grammar target)
unfolding tight_value
tight_rises target = search (lexing, assigned_rises) depth 20

closed_rises : (target : List ℕ) → Rises (closed_value first_grammar target)
unfolding closed_value
closed_rises target = search (lexing, assigned_rises) depth 20

-- ---- contents

list_rises : Rises p.pattern_list
unfolding p.pattern_list p.patterns p.pattern p.word_pattern p.sort_pattern p.sort_open p.no_sort p.bare_pattern p.pattern_name run sort_bracket
list_rises = search lexing depth 40

keep_rises : Rises keep_matcher
unfolding keep_matcher file_matcher
keep_rises = search (lexing, list_rises) depth 20

file_rises : (is_kept : Bool) (file : List ℕ) → Rises (file_matcher is_kept file)
unfolding file_matcher
file_rises is_kept file = search (lexing, list_rises) depth 20

word_contents_rises : (found : ContentsWord) → Rises (k.word_contents first_grammar found)
unfolding k.keep_statement k.provide_contents k.assert_contents
word_contents_rises kw.Provide = search (lexing, provide_rises) depth 20
word_contents_rises kw.ProvideHidden = search (lexing, provide_rises) depth 20
word_contents_rises kw.Assert = search (lexing, assert_rises) depth 20
word_contents_rises kw.Keep = search (lexing, keep_rises) depth 20

after_contents_word_rises : (file : List ℕ) (found : Option ContentsWord) → Rises (k.after_contents_word first_grammar file found)
unfolding k.file_statement
after_contents_word_rises file None = search (lexing, file_rises) depth 20
after_contents_word_rises file (Some found) = word_contents_rises found

bare_contents_rises : (first : Word) → Rises (k.bare_contents first_grammar first)
unfolding k.bare_contents k.assigned_contents k.counter_contents k.symbol_contents k.constructors check
bare_contents_rises first = search (lexing, tight_rises) depth 20

contents_rises : Rises (k.contents first_grammar)
unfolding k.contents k.statements k.contents_statement k.after_token k.bracket_contents
contents_rises = search (lexing, after_contents_word_rises, bare_contents_rises) depth 20

-- ---- sections

items_rise : (x : Section) → Rises (items first_grammar x)
unfolding items item attribute_item start_item attribute
items_rise x = search lexing depth 20

clauses_rise : (x : Section) → Rises (clauses first_grammar x)
unfolding clauses clause at_clause align_clause in_brackets
clauses_rise x = search lexing depth 20

tail_rises : (x : Section) → Rises (tail first_grammar x)
unfolding tail tail_item region_or_fill header_item region_item fill_item
tail_rises x = search lexing depth 20

section_rises : (target : List ℕ) → Rises (named first_grammar target)
unfolding named section_parts section_start section_clauses section_body section_tail
section_rises target = search (lexing, items_rise, clauses_rise, contents_rises, tail_rises) depth 20

-- ---- statements

named_statement_rises : (target : List ℕ) → Rises (s.named_statement first_grammar target)
unfolding s.named_statement s.assigned_statement s.counter_statement s.symbol_statement s.section_statement
named_statement_rises target = search (lexing, section_rises, closed_rises) depth 20

word_statement_rises : (found : StatementWord) → Rises (s.word_statement first_grammar found)
unfolding s.provide_statement s.assert_statement
word_statement_rises sw.Assert = search (lexing, assert_rises) depth 20
word_statement_rises sw.Provide = search (lexing, provide_rises) depth 20
word_statement_rises sw.ProvideHidden = search (lexing, provide_rises) depth 20

after_statement_word_rises : (target : List ℕ) (found : Option StatementWord) → Rises (s.after_statement_word first_grammar target found)
after_statement_word_rises target None = named_statement_rises target
after_statement_word_rises target (Some found) = word_statement_rises found

pub statements_rise : Rises (s.section_statements first_grammar)
unfolding s.section_statements s.statement s.after_first
statements_rise = search (lexing, after_statement_word_rises) depth 20
