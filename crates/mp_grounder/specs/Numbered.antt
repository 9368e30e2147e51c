-- What a factor that is grounded in numbers becomes. Its private facts, which come first, keep their numbers, and its public
-- facts have the places of their texts.
use Rattle.std.specs.Prelude.{ℕ, ◌-◌, nat_lt, not, List, map, filter, length, drop, None, slice_index_or}
use Rattle.std.specs.Ordering.{nat_cmp}
use Rattle.mp_forms.specs.declared.factor.Factor.{Factor}
use Rattle.mp_sexp.specs.Numbers.{name_at, number_in}
use Rattle.mp_joint.specs.Fact.{Text}
use Rattle.mp_task.specs.declared.act.Act.{Act}
use Rattle.mp_lifting.specs.Texts.{signed_text}
use Rattle.mp_lifting.specs.Vocabulary.{vocabulary_of}
use Rattle.mp_lifted.specs.Binding.{ActionBinding}
use Rattle.mp_ground_facts.specs.declared.fact.GroundFact.{GroundFact}
use Rattle.mp_ground_facts.specs.Ground.{GroundAction, GroundFactor, ground_with}
use Rattle.mp_views.specs.Sorted.{sorted_by, sorted_once}
use Rattle.mp_grounder.specs.declared.grounded.Ground.{Ground}
use Rattle.mp_grounder.specs.declared.names.FactNames.{FactNames}
use Rattle.mp_grounder.specs.declared.places.Places.{Places}
use Rattle.mp_grounder.specs.declared.turning.NumberedFactor.{NumberedFactor}

-- the names of the predicates and objects of a factor
abbrev pub fact_names : Factor → FactNames
fact_names factor =
    record { predicates = (vocabulary_of factor).predicates; objects = (vocabulary_of factor).objects }

-- the text of a fact or complement whose numbers stand for these names
abbrev pub text_at : FactNames → GroundFact → Text
text_at names f = signed_text (record {
  positive = not f.is_complement;
  fact = record {
    owner = None;
    predicate = name_at names.predicates f.predicate;
    args = map (name_at names.objects) f.objects;
  };
})

-- how many of some facts are private
abbrev pub count_private : List GroundFact → ℕ
count_private facts = length (filter (λ f. not f.is_public) facts)

-- the texts of the facts behind the private ones
abbrev pub public_texts_at : FactNames → List GroundFact → List Text
public_texts_at names facts = map (text_at names) (drop (count_private facts) facts)

-- the places of facts: for each public one that of its text
abbrev pub places_of : FactNames → List GroundFact → Places
places_of names facts =
    record {
      privates = count_private facts;
      publics = map (number_in (sorted_once (public_texts_at names facts))) (public_texts_at names facts);
    }

-- some numbers in rising order, each once
abbrev pub rising : List ℕ → List ℕ
rising numbers = sorted_by nat_cmp numbers

-- the numbers of the private ones of some facts
abbrev pub private_numbers : Places → List ℕ → List ℕ
private_numbers places numbers = filter (λ n. nat_lt n places.privates) numbers

-- the place of a public fact
abbrev pub place_at : Places → ℕ → ℕ
place_at places n = slice_index_or places.publics (n - places.privates) 0

-- the places of the public ones of some facts
abbrev pub public_numbers : Places → List ℕ → List ℕ
public_numbers places numbers = map (place_at places) (filter (λ n. not (nat_lt n places.privates)) numbers)

-- an action with what it needs, adds and deletes by their places
abbrev pub act_with : Places → List ℕ → List ℕ → List ℕ → ℕ → Act
act_with places pre add del cost = record {
  pre_pub = rising (public_numbers places pre);
  pre_priv = rising (private_numbers places pre);
  add_pub = rising (public_numbers places add);
  add_priv = rising (private_numbers places add);
  del_pub = rising (public_numbers places del);
  del_priv = rising (private_numbers places del);
  cost = cost;
}

abbrev pub act_at : Places → GroundAction → Act
act_at places a = act_with places a.pre a.add a.del a.cost

-- what an action stands for
abbrev pub binding_at : GroundAction → ActionBinding
binding_at a = record { action = a.action; objects = a.objects; cost = a.cost }

-- a factor that is grounded to the instances in numbers, with this start
abbrev pub ground_factor_of : NumberedFactor → GroundFactor
ground_factor_of n = record (ground_with n.factor.now n.facts.keys n.instances) { start = n.start }

-- a factor of an agent, with its facts by their places
abbrev pub ground_at : ℕ → FactNames → GroundFactor → Ground
ground_at me names g = record {
  me = me;
  publics = sorted_once (public_texts_at names g.facts);
  privates = count_private g.facts;
  start = rising (private_numbers (places_of names g.facts) g.start);
  goal_pub = rising (public_numbers (places_of names g.facts) g.goals);
  goal_priv = rising (private_numbers (places_of names g.facts) g.goals);
  acts = map (act_at (places_of names g.facts)) g.actions;
  steps = map binding_at g.actions;
}
