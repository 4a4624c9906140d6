-- What is before the colon of a section: attributes and start expressions; of each the last counts.
use Rattle.std.specs.Prelude.{Some}
use Rattle.wild_reading.specs.Bytes.{begins}
use Rattle.wild_reading.specs.Reader.{Reader, ◌>>=◌, ◌>>◌, Give, Choice}
use Rattle.wild_reading.specs.Family.{Folds}
use Rattle.wild_reading.specs.Lex.{gap}
use Rattle.wild_expression_words.specs.Dialect.{Dialect}
use Rattle.wild_expression.specs.Parts.{expression}
use Rattle.wild_script_tree.specs.declared.tree.Section.{Section}
use Rattle.wild_section_statements.specs.Attribute.{attribute, begins_attribute}

-- an attribute
unfoldable pub attribute_item : Section → Reader Section
attribute_item s = do
  found ← attribute
  gap
  Give (record s { attributes = Some found })

-- an expression
unfoldable pub start_item : Dialect → Section → Reader Section
start_item dialect s = do
  x ← expression dialect
  gap
  Give (record s { start_address_expression = Some x })

-- an attribute where one can be read whole, and else an expression
unfoldable pub item : Dialect → Section → Reader Section
item dialect s = Choice begins_attribute (attribute_item s) (start_item dialect s)

-- up to a colon
unfoldable pub items : Dialect → Section → Reader Section
items dialect s = Folds (begins 58) (item dialect) s
