-- The nodes of a team at the start, and its machines at the end.
use Rattle.std.specs.Prelude.{List, [], ◌∷◌, map, Some, None}
use Rattle.mp_machine.specs.Machine.{AgentMachine}
use Rattle.mp_nodes.specs.Nodes.{SeenNode}
use Rattle.mp_team.specs.Kept.{Places}

-- a machine that has done nothing that is not signed
abbrev pub first_node : AgentMachine → SeenNode
first_node m = record { machine = m; batch = [] }

abbrev pub first_places : List AgentMachine → Places
first_places machines = map (λ m. Some (first_node m)) machines

-- the machines of the places that are not empty
abbrev pub machines_in : Places → List AgentMachine
machines_in [] = []
machines_in (None ∷ places) = machines_in places
machines_in (Some n ∷ places) = n.machine ∷ machines_in places
