-- The arrays of a delete relaxation as the problem that contracts see.
use Rattle.std.specs.Prelude.{◌≡◌, ◌<◌, ◌≤◌, length, All}
use Rattle.mp_relaxed.specs.declared.relaxed.Relaxed.TheInside.{Inside}
use Rattle.mp_relaxed.specs.Relaxed.{RelaxedProblem, zipped}
use Rattle.mp_relaxed.specs.Users.{AreUsers, AreFree, AreCounts}

abbrev pub relaxed_problem : Inside → RelaxedProblem
relaxed_problem r = record {
  publics = r.publics;
  facts = r.facts;
  operators = zipped r.pres r.adds r.costs.items;
  goals = r.goals.items;
}

-- The arrays are of one length, name facts that there are, and the others beside them are right. There are at most
-- 3,200,000 operators of a cost of at most 16,000,000 each.
pub record IsSound (r : Inside) : Type 0 where
  pub adds_each : length r.adds ≡ length r.pres
  pub cost_each : length r.costs.items ≡ length r.pres
  pub few : length r.pres ≤ 3200000
  pub cheap : All (λ c. c ≤ 16000000) r.costs.items
  pub pres_below : All (All (λ x. x < r.facts)) r.pres
  pub adds_below : All (All (λ x. x < r.facts)) r.adds
  pub goals_below : All (λ x. x < r.facts) r.goals.items
  pub users_right : AreUsers r.facts r.pres r.users.items
  pub free_right : AreFree r.pres r.free.items
  pub counts_right : AreCounts r.pres r.counts.items
