use Rattle.mp_checker.proofs.AskLemmas.{HasAsked}
use Rattle.mp_checker.proofs.asked.first_failing.Given as goal

abbrev pub invariant-loop-place : goal.invariant-loop-place
invariant-loop-place l =
    HasAsked l.fn.facts l.facts l.agent l.args l.literals l.place l.places.needs.items l.places.against.items
