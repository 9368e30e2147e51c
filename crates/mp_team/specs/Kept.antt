-- Agents that stay with their tasks, while works are shared out and joined.
use Rattle.std.specs.Prelude.{◌≡◌, ◌⊎◌, ℕ, List, [], ◌∷◌, Option, Some}
use Rattle.std.specs.Option.{option_map}
use Rattle.mp_nodes.specs.Nodes.{Orders, SeenNode, node_at, orders}

-- a place for each agent of a team
abbrev pub Places : Type 0
Places = List (Option SeenNode)

-- what an agent has to do, where it has a node
abbrev pub orders_at : Places → ℕ → Option Orders
orders_at nodes agent = option_map orders (node_at nodes agent)

-- an agent has these orders in one of some works
abbrev pub HasOrders : ℕ → Orders → List Places → Type 0
HasOrders agent o [] = ⊥
HasOrders agent o (nodes ∷ others) = (orders_at nodes agent ≡ Some o) ⊎ HasOrders agent o others

abbrev pub IsThere : ℕ → List Places → Type 0
IsThere agent all = (o : Orders) × HasOrders agent o all

-- No agent of some works is lost in others, and none gets other orders.
pub record AreKept (old new : List Places) : Type 0 where
  pub there : (agent : ℕ) → IsThere agent old → IsThere agent new
  pub orders : (agent : ℕ) (o : Orders) → HasOrders agent o new → HasOrders agent o old
