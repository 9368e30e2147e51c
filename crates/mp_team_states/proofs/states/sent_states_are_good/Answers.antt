use Rattle.mp_team_states.proofs.GoodStates.{state_is_taken, what_is_read}
use Rattle.mp_team_states.proofs.states.sent_states_are_good.Goals as goal

pub returns-clause-read : goal.returns-clause-read
returns-clause-read c = λ tasks w from to u r bytes m are team sound at there here reads.
    what_is_read tasks are w team sound from to u r at there bytes m here reads

pub returns-clause-taken : goal.returns-clause-taken
returns-clause-taken c = λ value tasks w from to u r m are team sound at there state.
    state_is_taken tasks are w team sound from to u r at there value m state
