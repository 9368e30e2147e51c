-- The certificate of a run that has ended with a cheapest plan.
use Rattle.std.specs.Prelude.{◌≡◌, ℕ, map, Option, Some, None}
use Rattle.mp_world.specs.Answers.{answer_of}
use Rattle.mp_world.specs.World.{World}
use Rattle.mp_world.specs.declared.answer.Answer.{Answer}
use Rattle.mp_world.specs.declared.answer.Answer.TheVariants.{Nothing, Solved, Unsolvable, Undecided}
use Rattle.mp_audit.specs.declared.certificate.Certificate.{Certificate}
use Rattle.mp_audit.specs.LastCut.{last_bounds, said_by}

-- what the plan of an answer costs, if there is one
abbrev pub solved_cost : Answer → Option ℕ
solved_cost Nothing = None
solved_cost (Solved cost steps) = Some cost
solved_cost Unsolvable = None
solved_cost Undecided = None

-- The certificate of a world whose team has found a cheapest plan: its cost is that of the plan, and its entries are the bounds
-- of the last cut.
pub record IsCertificateOf (w : World) (certificate : Certificate) : Type 0 where
  pub cost_is : solved_cost (answer_of w) ≡ Some certificate.cost
  pub bounds_are : map said_by certificate.bounds ≡ last_bounds w certificate.cost
