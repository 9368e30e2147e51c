use Rattle.mp_world.proofs.Basics.{ap}
use Rattle.mp_world.specs.Joint.{joint}
use Rattle.mp_team_states.proofs.GoodStates.{equal_if_joint, known_is_joint, own_facts, receiver_knows, tells_of_entry}
use Rattle.mp_team_states.proofs.states.states_are_joint_states.Goals as goal

pub returns-clause-joint : goal.returns-clause-joint
returns-clause-joint c = λ tasks w agent r s are team there is.
    (known_is_joint tasks are w team agent r there s is, own_facts tasks are w team agent r there s is)

pub returns-clause-equal : goal.returns-clause-equal
returns-clause-equal c = λ tasks w agent r a b are team sound there a_is b_is.
    (λ same. ap (joint w agent) same, equal_if_joint tasks are w team sound agent r a b there a_is b_is)

pub returns-clause-sent : goal.returns-clause-sent
returns-clause-sent c = λ tasks w agent r m n e are team sound there sent at_sent at.
    tells_of_entry tasks are w team sound agent r m n e there sent at_sent at

pub returns-clause-received : goal.returns-clause-received
returns-clause-received c = λ tasks w from to u r m are team sound at there state.
    receiver_knows tasks are w team sound from to u r at there m state
