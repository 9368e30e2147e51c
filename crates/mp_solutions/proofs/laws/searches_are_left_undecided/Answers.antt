use Rattle.mp_team_states.proofs.Heuristics.{heuristic_of}
use Rattle.mp_solutions.proofs.Files.{left_undecided}
use Rattle.mp_solutions.proofs.laws.searches_are_left_undecided.Goals as goal

pub returns : goal.returns
returns g c = λ team t limit schedule last all some are limits most ran finished undecided.
    left_undecided _ limit team t all some are limits most
    (λ are. heuristic_of _ g.met.H.Heuristic.small g.met.H.Heuristic.dead g.met.H.Heuristic.admissible t.tasks are)
    schedule last ran finished undecided
