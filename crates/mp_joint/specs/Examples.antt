-- Worked factors, all without parameters.
use Rattle.std.specs.Prelude.{ℕ, true, false, List, [], ◌∷◌, None, map, codes}
use Rattle.std.specs.Str.{bytes_eq}
use Rattle.mp_forms.specs.declared.word.Word.{Word}
use Rattle.mp_forms.specs.declared.signature_values.Signature.{Signature}
use Rattle.mp_forms.specs.declared.atom_values.Atom.{Atom}
use Rattle.mp_forms.specs.declared.literal.Literal.{Literal}
use Rattle.mp_forms.specs.declared.schema_values.Schema.{Schema}
use Rattle.mp_forms.specs.declared.factor.Factor.{Factor}
use Rattle.mp_joint.specs.declared.fact.NamedFact.{NamedFact}
use Rattle.mp_joint.specs.declared.plan.PlanStep.{PlanStep}
use Rattle.mp_joint.specs.Fact.{Text, is_among}
use Rattle.mp_joint.specs.Grounded.{Setting}
use Rattle.mp_joint.specs.Instance.{Instance}

abbrev pub word : Text → Word
word name = record { name = name; at = record { line = 1; column = 1 } }

abbrev pub public_predicate : Text → Signature
public_predicate name = record { word = word name; params = []; private = false }

abbrev pub private_predicate : Text → Signature
private_predicate name = record { word = word name; params = []; private = true }

abbrev pub atom : Text → Atom
atom name = record { word = word name; terms = [] }

abbrev pub asked : Text → Literal
asked name = record { positive = true; atom = atom name }

abbrev pub negated : Text → Literal
negated name = record { positive = false; atom = atom name }

-- an action by its name, its precondition, its adds and its deletes
abbrev pub action : Text → List Literal → List Text → List Text → Schema
action name pre add del = record {
  word = word name;
  params = [];
  pre = pre;
  add = map atom add;
  del = map atom del;
  increases = [];
}

-- a factor by its predicates, actions, initial facts and goals
abbrev pub factor : List Signature → List Schema → List Text → List Literal → Factor
factor predicates actions init goals = record {
  domain = record {
    word = word (codes "d");
    types = [];
    constants = [];
    predicates = predicates;
    functions = [];
    schemas = actions;
  };
  problem = record {
    word = word (codes "p");
    domain = word (codes "d");
    objects = [];
    init = map atom init;
    values = [];
    goals = goals;
    metric = false;
  };
}

-- a step without objects
abbrev pub step : ℕ → Text → PlanStep
step agent name = record { agent = agent; action = name; args = [] }

-- It clears what is busy at the start.
abbrev pub clearing : Factor
clearing =
    factor (public_predicate (codes "busy") ∷ [])
    (action (codes "clear") (asked (codes "busy") ∷ []) [] (codes "busy" ∷ []) ∷ [])
    (codes "busy" ∷ []) []

-- It crosses where nothing is busy, and wants to be over.
abbrev pub crossing : Factor
crossing =
    factor (public_predicate (codes "busy") ∷ public_predicate (codes "over") ∷ [])
    (action (codes "cross") (negated (codes "busy") ∷ []) (codes "over" ∷ []) [] ∷ [])
    [] (asked (codes "over") ∷ [])

-- It does nothing, and wants that nothing is busy.
abbrev pub waiting : Factor
waiting = factor (public_predicate (codes "busy") ∷ []) [] [] (negated (codes "busy") ∷ [])

-- Its one action takes away what it makes true, and it wants that.
abbrev pub holding : Factor
holding =
    factor (public_predicate (codes "on") ∷ [])
    (action (codes "hold") [] (codes "on" ∷ []) (codes "on" ∷ []) ∷ [])
    [] (asked (codes "on") ∷ [])

-- It keeps `done` to itself and makes it true.
abbrev pub doing : Factor
doing = factor (private_predicate (codes "done") ∷ []) (action (codes "do") [] (codes "done" ∷ []) [] ∷ []) [] []

-- Another `done`, of its own, that nothing makes true.
abbrev pub keeping : Factor
keeping = factor (private_predicate (codes "done") ∷ []) [] [] (negated (codes "done") ∷ [])

-- And a public `done` that no action changes.
abbrev pub telling : Factor
telling = factor (public_predicate (codes "done") ∷ []) [] [] []

-- ---- instances, before and after grounding

-- a public fact without objects
abbrev pub fact : Text → NamedFact
fact name = record { owner = None; predicate = name; args = [] }

-- `road` never changes and is there at the start, `busy` and `on` have complements
abbrev pub with_a_road : Setting
with_a_road = record {
  is_static = bytes_eq (codes "road");
  is_negated = λ name. is_among (fact name) (fact (codes "busy") ∷ fact (codes "on") ∷ []);
  start = λ f. is_among f (fact (codes "road") ∷ []);
}

-- an instance by its facts, at cost 1
abbrev pub instance : List Text → List Text → List Text → List Text → Instance
instance positive negative add del = record {
  positive = map fact positive;
  negative = map fact negative;
  add = map fact add;
  del = map fact del;
  cost = 1;
}
