use Rattle.mp_text.proofs.SameLemmas.{tell_the_same}
use Rattle.mp_text.proofs.laws.logs_of_one_schedule_tell_the_same.Goals as goal

pub returns : goal.returns
returns c = λ team log other numbered is also same.
    tell_the_same team numbered log other is also same
