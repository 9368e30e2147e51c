-- The conjuncts of a condition or an effect (PDDL 2.1): what stands under `and`, however deep.
use Rattle.std.specs.Prelude.{Bool, List, [], ◌∷◌, ◌++◌, if◌then◌else◌, codes}
use Rattle.mp_sexp.specs.Node.{Node, Nodes, word, list, none, more}
use Rattle.mp_forms.specs.Parts.{is_word, is_headed}

unfoldable mutual
  -- `()` has none, `(and C ..)` those of its members one after another, all else is its own one
  pub conjuncts : Node → List Node
  conjuncts (word name place) = word name place ∷ []
  conjuncts (list none place) = []
  conjuncts (list (more head rest) place) =
      if is_word (codes "and") head then conjuncts_of_all rest else list (more head rest) place ∷ []

  -- those of these members, one after another
  pub conjuncts_of_all : Nodes → List Node
  conjuncts_of_all none = []
  conjuncts_of_all (more node nodes) = conjuncts node ++ conjuncts_of_all nodes

-- `(not ..)`
abbrev pub is_negation : Node → Bool
is_negation node = is_headed (codes "not") node

-- `(increase ..)`
abbrev pub is_increase : Node → Bool
is_increase node = is_headed (codes "increase") node
