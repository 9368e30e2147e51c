use Rattle.std.proofs.Common.{◌≡◌, drop, true}
use Rattle.std.specs.List.{list_all}
use Rattle.std.specs.Option.{option_map_or}
use Rattle.mp_nodes.specs.Nodes.{has_ended}
use Rattle.mp_nodes.proofs.nodes.Nodes.have_ended.Given as goal

abbrev pub invariant-loop-place : goal.invariant-loop-place
invariant-loop-place g l =
    list_all (λ place. option_map_or has_ended place true) (drop l.place-index l.place-items)
    ≡ list_all (λ place. option_map_or has_ended place true) l.place-items
