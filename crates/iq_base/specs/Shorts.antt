-- Names and texts of values, as contracts see them: their bytes.
use Rattle.iq_base.specs.declared.texts.Short.{Short}

-- a name of a table, a column, an index, a node, a session or a savepoint
abbrev pub Name : Type 0
Name = Short 30

-- the text of a value
abbrev pub Text : Type 0
Text = Short 255
