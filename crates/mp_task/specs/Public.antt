-- Which actions are public and which are private (MA-STRIPS), and what the team sees of the public
-- ones.
use Rattle.std.specs.Prelude.{ℕ, Bool, not, ◌&&◌, ◌==◌, List, length}
use Rattle.std.specs.List.{list_any, filter}
use Rattle.mp_task.specs.declared.act.Act.{Act}
use Rattle.mp_task.specs.declared.act.Far.{Far}

abbrev is_empty : List ℕ → Bool
is_empty xs = length xs == 0

-- an action is public where one of its preconditions, adds or deletes is public
abbrev pub is_public : Act → Bool
is_public act = not (is_empty act.pre_pub && (is_empty act.add_pub && is_empty act.del_pub))

-- and private where none is
abbrev pub is_private : Act → Bool
is_private act = not (is_public act)

-- the public part of an action of an agent, without the deletes that are adds too
abbrev pub part_of : ℕ → Act → Far
part_of agent act = record {
  by = agent;
  pre = act.pre_pub;
  add = act.add_pub;
  del = filter (λ x. not (list_any (λ y. y == x) act.add_pub)) act.del_pub;
  cost = act.cost;
}
