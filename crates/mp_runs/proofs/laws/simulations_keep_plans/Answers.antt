use Rattle.std.specs.Prelude.{◌≡◌, ◌≤◌, IsTrue}
use Rattle.mp_runs.proofs.Costs.{equal_costs, smaller_costs}
use Rattle.mp_runs.proofs.Simulations.{mapped_plan}
use Rattle.mp_runs.proofs.laws.simulations_keep_plans.Goals as goal

pub returns : goal.returns
returns g c = record {
  equal = λ second first represents images simulates plan t s stands solves.
      mapped_plan second first (λ u v. IsTrue (represents u v)) images (λ a b. a ≡ b) equal_costs simulates plan t s stands solves;
  at_most = λ second first represents images simulates plan t s stands solves.
      mapped_plan second first (λ u v. IsTrue (represents u v)) images (λ a b. a ≤ b) smaller_costs simulates plan t s stands solves;
}
