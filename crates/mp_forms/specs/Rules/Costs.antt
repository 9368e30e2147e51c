-- Costs (PDDL 3.1): whole numbers that are not too great.
use Rattle.std.specs.Prelude.{ℕ, Option, Some, None, if◌then◌else◌}
use Rattle.mp_sexp.specs.declared.tree.Place.{Place}
use Rattle.mp_sexp.specs.Node.{Node}
use Rattle.mp_forms.specs.Numbers.{is_number, cost_of}
use Rattle.mp_forms.specs.Parts.{place_of, word_of}
use Rattle.mp_forms.specs.Reading.{Reading, Says, misshapen, costly}

abbrev pub allowed : Place → Option ℕ → Reading ℕ
allowed place None = costly place
allowed place (Some cost) = Says cost

-- NUMBER, where a cost is wanted
unfoldable pub cost_rule : Node → Reading ℕ
cost_rule node =
    if is_number (word_of node) then allowed (place_of node) (cost_of (word_of node)) else misshapen (place_of node)
