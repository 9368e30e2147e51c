-- Words (PDDL 2.1): names and variables.
use Rattle.std.specs.Prelude.{if◌then◌else◌}
use Rattle.mp_sexp.specs.Node.{Node}
use Rattle.mp_forms.specs.declared.word.Word.{Word}
use Rattle.mp_forms.specs.Parts.{place_of, word_of, is_name_word, is_variable_word}
use Rattle.mp_forms.specs.Reading.{Reading, Says, misshapen}

-- a word with its place
abbrev pub word_at : Node → Word
word_at node = record { name = word_of node; at = place_of node }

-- NAME
unfoldable pub name_rule : Node → Reading Word
name_rule node = if is_name_word node then Says (word_at node) else misshapen (place_of node)

-- VARIABLE
unfoldable pub variable_rule : Node → Reading Word
variable_rule node = if is_variable_word node then Says (word_at node) else misshapen (place_of node)
