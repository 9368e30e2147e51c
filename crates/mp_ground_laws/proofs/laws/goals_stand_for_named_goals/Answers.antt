use Rattle.mp_ground_laws.proofs.Needed.{goals_stand}
use Rattle.mp_ground_laws.proofs.Parts.{parts_of}
use Rattle.mp_ground_laws.proofs.laws.goals_stand_for_named_goals.Goals as goal

pub returns : goal.returns
returns c = λ agent factor view h. goals_stand agent factor view (parts_of factor h.no_fault)
