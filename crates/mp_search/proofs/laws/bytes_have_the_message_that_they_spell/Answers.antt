use Rattle.mp_search.proofs.Spelled.{few_publics, message_is_spelled, spelled_is_message}
use Rattle.mp_search.proofs.laws.bytes_have_the_message_that_they_spell.Goals as goal

pub returns : goal.returns
returns c = λ agents publics m bytes.
    (λ is. (few_publics agents publics bytes m is, message_is_spelled agents publics bytes m is), λ known. spelled_is_message agents publics m bytes known.0 known.1)
