-- When one transition system simulates another (Milner 1971), here with costs: a state of the one
-- stands for a state of the other, each action of the first is answered by actions of the second,
-- and each goal by a goal.
use Rattle.std.specs.Prelude.{◌≡◌, ℕ, ◌+◌, Some, List, [], ◌∷◌, ◌++◌, IsTrue}
use Rattle.mp_runs.specs.System.{System, state_after, plan_cost}

-- A list of actions stands for another one where it is made of lists that stand for the other's
-- actions, one after another. None, one or more actions may stand for one action.
abbrev pub StandsForAll : {A B : Type 0} → (A → List B → Type 0) → List A → List B → Type 0
StandsForAll StandsFor [] images = images ≡ []
StandsForAll {B = B} StandsFor (a ∷ actions) images =
    (first : List B)
    × (others : List B)
    × (StandsFor a first)
    × (StandsForAll StandsFor actions others)
    × (images ≡ first ++ others)

-- A relation of costs that goes over to sums, as that two are equal, or that one is at most the
-- other.
pub record GoesOverToSums (Fits : ℕ → ℕ → Type 0) : Type 0 where
  pub nothing : Fits 0 0
  pub both : (a b c d : ℕ) → Fits a b → Fits c d → Fits (a + c) (b + d)

-- Actions of a system that stand for others, lead from a state to one that stands for the state
-- that those others reach, and whose cost fits theirs.
pub record IsAnswer
    {S T B : Type 0}
    (system : System T B)
    (Represents : T → S → Type 0)
    (StandFor : List B → Type 0)
    (Fits : ℕ → ℕ → Type 0)
    (from : T)
    (reached : S)
    (cost : ℕ)
    (actions : List B)
    : Type 0 where
  pub stand : StandFor actions
  pub end : T
  pub runs : state_after system from actions ≡ Some end
  pub represents : Represents end reached
  pub fits : Fits (plan_cost system actions) cost

abbrev pub HasAnswer :
    {S T B : Type 0}
    → System T B
    → (T → S → Type 0)
    → (List B → Type 0)
    → (ℕ → ℕ → Type 0)
    → T
    → S
    → ℕ
    → Type 0
HasAnswer {B = B} system Represents StandFor Fits from reached cost =
    (actions : List B) × IsAnswer system Represents StandFor Fits from reached cost actions

-- The second system simulates the first one.
pub record Simulates
    {S A T B : Type 0}
    (second : System T B)
    (first : System S A)
    (Represents : T → S → Type 0)
    (StandsFor : A → List B → Type 0)
    (Fits : ℕ → ℕ → Type 0)
    : Type 0 where
  pub step :
      (t : T) (s reached : S) (a : A)
      → Represents t s
      → first.after s a ≡ Some reached
      → HasAnswer second Represents (StandsFor a) Fits t reached (first.cost a)
  pub goal : (t : T) (s : S) → Represents t s → IsTrue (first.is_goal s) → IsTrue (second.is_goal t)
