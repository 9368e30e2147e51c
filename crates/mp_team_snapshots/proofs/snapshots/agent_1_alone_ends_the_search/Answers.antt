use Rattle.mp_world.proofs.Basics.{ap}
use Rattle.mp_world.specs.AgentWords.{StrangeDone, without_messages, ending_of, unless_bad}
use Rattle.mp_team_snapshots.proofs.Ends.{end_is_good, ends_kept, ends_new}
use Rattle.mp_team_snapshots.proofs.snapshots.agent_1_alone_ends_the_search.Goals as goal

pub returns-clause-start : goal.returns-clause-start
returns-clause-start c = λ team publics of_team. ends_new team publics of_team

pub returns-clause-step : goal.returns-clause-step
returns-clause-step c = λ value publics tasks w event next team is step fits sound. ends_kept value publics tasks team w event next is step fits sound

pub returns-clause-taken : goal.returns-clause-taken
returns-clause-taken c = λ publics w a b kind sound two among.
    ap (λ bad. unless_bad bad StrangeDone (without_messages (record b { ending = ending_of kind }))) (end_is_good publics w a b kind sound two among)
