-- Instances: ground actions of STRIPS with negative preconditions and a cost (PDDL 2.1; PDDL 3.1, action costs).
use Rattle.std.specs.Prelude.{ℕ, Bool, ◌&&◌, ◌||◌, not, List, Option, Some, None, if◌then◌else◌}
use Rattle.std.specs.List.{list_all}
use Rattle.mp_joint.specs.declared.fact.NamedFact.{NamedFact}
use Rattle.mp_joint.specs.declared.fact.SignedFact.{SignedFact}
use Rattle.mp_joint.specs.Fact.{is_among}

-- a ground action: the facts that have to be true and those that have to be false, its adds and its deletes, all as
-- sets, and what it costs
pub record Instance : Type 0 where
  pub positive : List NamedFact
  pub negative : List NamedFact
  pub add : List NamedFact
  pub del : List NamedFact
  pub cost : ℕ

-- a state: which facts are true
abbrev pub State : Type 0
State = NamedFact → Bool

-- a fact, or the negation of one, is true
abbrev pub holds : State → SignedFact → Bool
holds s x = if x.positive then s x.fact else not (s x.fact)

-- whether all these facts are true
abbrev pub all_true : State → List NamedFact → Bool
all_true s facts = list_all (λ f. s f) facts

-- whether none of them is
abbrev pub none_true : State → List NamedFact → Bool
none_true s facts = list_all (λ f. not (s f)) facts

-- an instance may be applied where its positive preconditions are true and its negative ones are false
abbrev pub applies : Instance → State → Bool
applies i s = all_true s i.positive && none_true s i.negative

-- The state afterwards: without the deletes and with the adds, so that a fact that is deleted and added
-- is true.
abbrev pub after : Instance → State → State
after i s = λ f. is_among f i.add || (s f && not (is_among f i.del))

-- the state after an instance: none where it may not be applied
abbrev pub successor : State → Instance → Option State
successor s i = if applies i s then Some (after i s) else None
