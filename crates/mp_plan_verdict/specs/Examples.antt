-- Worked factors for verdicts. All actions are without parameters.
use Rattle.std.specs.Prelude.{ℕ, false, Bool, List, [], ◌∷◌, codes}
use Rattle.mp_forms.specs.declared.typed_values.Typed.{Typed}
use Rattle.mp_forms.specs.declared.atom_values.Atom.{Atom}
use Rattle.mp_forms.specs.declared.atom_values.Term.TheVariants.{Object}
use Rattle.mp_forms.specs.declared.literal.Literal.{Literal}
use Rattle.mp_forms.specs.declared.effect_values.Increase.{Increase}
use Rattle.mp_forms.specs.declared.effect_values.Increase.TheVariants.{Number, Function}
use Rattle.mp_forms.specs.declared.factor.Factor.{Factor}
use Rattle.mp_joint.specs.Examples.{word, public_predicate, atom, action, factor}

-- It goes where nothing is busy and something is held. Something is busy at the start, and nothing is held.
abbrev pub going : List Literal → Factor
going pre =
    factor (public_predicate (codes "busy") ∷ public_predicate (codes "held") ∷ [])
    (action (codes "go") pre [] [] ∷ [])
    (codes "busy" ∷ []) []

-- two factors of one fact, of which one wants it and the other wants it not
abbrev pub wanting : List Literal → Factor
wanting goals = factor (public_predicate (codes "busy") ∷ public_predicate (codes "over") ∷ []) [] [] goals

-- an action that increases the total cost, where costs count
abbrev pub paying : Bool → List Increase → Factor
paying metric increases = record {
  domain = record {
    word = word (codes "d");
    types = [];
    constants = [];
    predicates = [];
    functions = [];
    schemas = record { word = word (codes "pay"); params = []; pre = []; add = []; del = []; increases = increases } ∷ [];
  };
  problem = record {
    word = word (codes "p");
    domain = word (codes "d");
    objects = [];
    init = [];
    values = [];
    goals = [];
    metric = metric;
  };
}

abbrev pub by_number : ℕ → Increase
by_number n = Number n

abbrev pub by_function : Increase
by_function = Function (atom (codes "fee"))

-- A public predicate of an object. It puts the object somewhere, or wants that it is nowhere.
abbrev pub box : Bool → Typed
box private = record { word = word (codes "box"); types = []; private = private }

abbrev pub put_box : Atom
put_box = record { word = word (codes "put"); terms = Object (word (codes "box")) ∷ [] }

abbrev pub with_box : Bool → List Atom → List Literal → Factor
with_box private adds goals = record {
  domain = record {
    word = word (codes "d");
    types = [];
    constants = [];
    predicates = public_predicate (codes "put") ∷ [];
    functions = [];
    schemas = record { word = word (codes "place"); params = []; pre = []; add = adds; del = []; increases = [] } ∷ [];
  };
  problem = record {
    word = word (codes "p");
    domain = word (codes "d");
    objects = box private ∷ [];
    init = [];
    values = [];
    goals = goals;
    metric = false;
  };
}

abbrev pub placing : Bool → Factor
placing private = with_box private (put_box ∷ []) []

abbrev pub missing_it : Bool → Factor
missing_it private = with_box private [] (record { positive = false; atom = put_box } ∷ [])
