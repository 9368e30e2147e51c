-- An agent's factor, with the names of its team.
use Rattle.std.specs.Prelude.{ℕ, zero, suc, ◌+◌, ◌≡◌, true, List, [], ◌∷◌, Option, None, slice_get}
use Rattle.mp_forms.specs.declared.factor.Factor.{Factor}
use Rattle.mp_sexp.specs.Numbers.{is_named}
use Rattle.mp_joint.specs.Fact.{Text}

abbrev pub AgentView : Type 0
AgentView = List (List ℕ) × ℕ × Factor

-- the names of the team, the number of the agent and its factor
abbrev pub names_of : AgentView → List Text
names_of view = view.0

abbrev pub agent_of : AgentView → ℕ
agent_of view = view.1

abbrev pub factor_of : AgentView → Factor
factor_of view = view.2

-- those of agents that are numbered from this number on
abbrev pub views_from : List Text → ℕ → List Factor → List AgentView
views_from names agent [] = []
views_from names agent (factor ∷ factors) = (names, agent, factor) ∷ views_from names (agent + 1) factors

-- each of these words is among the names
abbrev pub Covers : List Text → List Text → Type 0
Covers names words = (word : Text) → is_named words word ≡ true → is_named names word ≡ true

-- each of these words is one of the names
abbrev pub AreKnown : List Text → List Text → Type 0
AreKnown names [] = Unit {0}
AreKnown names (word ∷ words) = (is_named names word ≡ true) × AreKnown names words

-- what stands at an agent's place; agents are numbered from 1
abbrev pub at_agent : {X : Type 0} → List X → ℕ → Option X
at_agent xs zero = None
at_agent xs (suc place) = slice_get xs place

-- these are the names of all
abbrev pub AreOf : List Text → List AgentView → Type 0
AreOf names [] = Unit {0}
AreOf names (view ∷ views) = (names_of view ≡ names) × AreOf names views
