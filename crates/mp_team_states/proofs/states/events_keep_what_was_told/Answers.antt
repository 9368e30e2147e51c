use Rattle.mp_team_states.proofs.WorldsGrow.{all_told_stay, joint_same, joint_told_same, sent_state_stays, sets_begin, state_stays, step_grows, told_same, told_stays}
use Rattle.mp_team_states.proofs.states.events_keep_what_was_told.Goals as goal

pub returns-clause-events : goal.returns-clause-events
returns-clause-events c = λ value w next event is. step_grows value w next event is

pub returns-clause-sets : goal.returns-clause-sets
returns-clause-sets c = λ w next sound grown agent. sets_begin w next sound grown agent

pub returns-clause-tags : goal.returns-clause-tags
returns-clause-tags c = λ w next sound grown agent tag told.
    (told_stays w next sound grown agent tag told, told_same w next sound grown agent tag told)

pub returns-clause-states : goal.returns-clause-states
returns-clause-states c = λ w next sound grown t s is. (state_stays w next sound grown t s is, joint_same w next sound grown t s is)

pub returns-clause-sent : goal.returns-clause-sent
returns-clause-sent c = λ w next sound grown t m is. sent_state_stays w next sound grown t m is

pub returns-clause-messages : goal.returns-clause-messages
returns-clause-messages c = λ w next sound grown m told.
    (all_told_stay w next sound grown m.tags told, joint_told_same w next sound grown m told)
