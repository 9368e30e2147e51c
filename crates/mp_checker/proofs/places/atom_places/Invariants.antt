use Rattle.std.proofs.Common.{map, take}
use Rattle.mp_checker.specs.At.{fact_at}
use Rattle.mp_checker.specs.Marked.{HaveStayed}
use Rattle.mp_checker.specs.Places.{ArePlaces, HasGrown}
use Rattle.mp_checker.proofs.places.atom_places.Given as goal

abbrev pub invariant-loop-atom : goal.invariant-loop-atom
invariant-loop-atom l =
    HasGrown l.fn.facts.known.keys l.facts.known.keys
    × HaveStayed l.fn.facts l.facts
    × ArePlaces l.facts.known.keys (map (fact_at l.agent l.args) (take l.atom-index l.atoms)) l.made.items
