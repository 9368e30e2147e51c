use Rattle.mp_team_states.proofs.Heuristics.{heuristic_of}
use Rattle.mp_solutions.proofs.Files.{answer_for_files}
use Rattle.mp_solutions.proofs.laws.answers_are_right_for_files.Goals as goal

pub returns : goal.returns
returns g c = λ team t limit schedule last all some are limits most ran finished.
    answer_for_files _ limit team t all some are limits most
    (λ are. heuristic_of _ g.met.H.Heuristic.small g.met.H.Heuristic.dead g.met.H.Heuristic.admissible t.tasks are)
    schedule last ran finished
