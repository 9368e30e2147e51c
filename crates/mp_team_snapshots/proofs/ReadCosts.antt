-- A state that is read has a cost and an estimate that are together below 2 ^ 60.
use Rattle.mp_world.proofs.Basics.{◌≡◌, ℕ, ◌+◌, ◌<◌, ◌^◌, List, Some}
use Rattle.mp_messages.specs.declared.message.Message.TheVariants as kinds
use Rattle.mp_search.proofs.Spelled.{message_is_spelled}
use Rattle.mp_world.specs.AgentWords.{State, message_of}

pub read_small : (agents publics : ℕ) (bytes : List ℕ) (s : State) → message_of agents publics bytes ≡ Some (kinds.State s) → s.g + s.h < 2 ^ 60
read_small agents publics bytes s read = (message_is_spelled agents publics bytes (kinds.State s) read).fits.numbers.f
