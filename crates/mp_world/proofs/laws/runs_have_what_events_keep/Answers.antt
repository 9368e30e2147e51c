use Rattle.mp_world.proofs.Basics.{IsTrue}
use Rattle.mp_world.proofs.Runs.{run_has, run_has_history, run_of_team}
use Rattle.mp_world.proofs.laws.runs_have_what_events_keep.Goals as goal

pub returns-clause-team : goal.returns-clause-team
returns-clause-team c = λ team schedule w ran. run_of_team team schedule w ran

pub returns-clause-of_worlds : goal.returns-clause-of_worlds
returns-clause-of_worlds c = λ team holds start keeps schedule w ran.
    run_has team (λ v. IsTrue (holds v)) start keeps schedule w ran

pub returns-clause-of_histories : goal.returns-clause-of_histories
returns-clause-of_histories c = λ team holds start keeps schedule w ran.
    run_has_history team (λ past v. IsTrue (holds past v)) start keeps schedule w ran
