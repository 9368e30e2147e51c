-- A simulation takes runs to runs and plans to plans.
use Rattle.std.proofs.Common.{◌≡◌, ℕ, ◌+◌, List, [], ◌∷◌, ◌++◌, Option, Some, None, refl, sym, ◌∙◌, subst}
use Rattle.std.proofs.lemmas.Option.{same_Some}
use Rattle.std.specs.Bool.{IsTrue}
use Rattle.std.specs.List.{flat_map}
use Rattle.std.specs.Option.{IsSomeAnd}
use Rattle.mp_runs.specs.Simulation.{StandsForAll, GoesOverToSums, IsAnswer, HasAnswer, Simulates}
use Rattle.mp_runs.specs.System.{System, state_after, plan_cost, IsPlanFrom}
use Rattle.mp_runs.proofs.Costs.{plan_cost-cons, plan_cost-append}
use Rattle.mp_runs.proofs.Runs.{run-none, run-after, run_parts}

-- a plan of a system that stands for another plan, at a cost that fits
pub record IsAnsweringPlan {T B : Type 0} (system : System T B) (StandFor : List B → Type 0) (Fits : ℕ → ℕ → Type 0) (from : T) (cost : ℕ) : Type 0 where
  pub plan : List B
  pub stand : StandFor plan
  pub plans : IsPlanFrom system from plan
  pub fits : Fits (plan_cost system plan) cost

module _ {S A T B : Type 0} (second : System T B) (first : System S A) (Represents : T → S → Type 0) (StandsFor : A → List B → Type 0) (Fits : ℕ → ℕ → Type 0) (sums : GoesOverToSums Fits) (simulates : Simulates second first Represents StandsFor Fits) where
  -- one answer after another
  followed : (t : T) (s : S) (a : A) (actions : List A) (cost others : ℕ) (head : List B) → (now : IsAnswer second Represents (StandsFor a) Fits t s cost head) → (reached : S) → HasAnswer second Represents (StandsForAll StandsFor actions) Fits now.end reached others → HasAnswer second Represents (StandsForAll StandsFor (a ∷ actions)) Fits t reached (cost + others)
  followed t s a actions cost others head now reached later =
      let rest = later.1 in (
        head ++ later.0,
        record {
          stand = (head, later.0, now.stand, rest.stand, refl);
          end = rest.end;
          runs = run-after second.after t now.end head later.0 now.runs ∙ rest.runs;
          represents = rest.represents;
          fits = subst (λ c. Fits c (cost + others)) (sym (plan_cost-append second head later.0)) (sums.both _ _ _ _ now.fits rest.fits);
        },
      )

  -- actions are answered from each state that represents the one from which they run
  pub simulated : (actions : List A) (t : T) (s reached : S) → Represents t s → state_after first s actions ≡ Some reached → HasAnswer second Represents (StandsForAll StandsFor actions) Fits t reached (plan_cost first actions)
  simulated [] t s reached represents ran = (
    [],
    record {
      stand = refl;
      end = t;
      runs = run-none second.after t;
      represents = subst (Represents t) (same_Some s reached (sym (run-none first.after s) ∙ ran)) represents;
      fits = sums.nothing;
    },
  )
  simulated (a ∷ actions) t s reached represents ran =
      let parts = run_parts first.after s reached a actions ran in
      let now = simulates.step t s parts.0 a represents parts.1 in
      let found = followed t parts.0 a actions (first.cost a) (plan_cost first actions) now.0 now.1 reached (simulated actions now.1.end parts.0 reached now.1.represents parts.2) in
      subst (HasAnswer second Represents (StandsForAll StandsFor (a ∷ actions)) Fits t reached) (sym (plan_cost-cons first a actions)) found

  -- and so are plans
  pub simulated_plan : (plan : List A) (t : T) (s : S) → Represents t s → IsPlanFrom first s plan → IsAnsweringPlan second (StandsForAll StandsFor plan) Fits t (plan_cost first plan)
  simulated_plan plan t s represents solves = by (state_after first s plan) refl solves
    where
      by : (o : Option S) → state_after first s plan ≡ o → IsSomeAnd o (λ last. IsTrue (first.is_goal last)) → IsAnsweringPlan second (StandsForAll StandsFor plan) Fits t (plan_cost first plan)
      by None ran none = absurd none
      by (Some reached) ran goal =
          let found = simulated plan t s reached represents ran in
          record {
            plan = found.0;
            stand = found.1.stand;
            plans = subst (λ o. IsSomeAnd o (λ last. IsTrue (second.is_goal last))) (sym found.1.runs) (simulates.goal found.1.end reached found.1.represents goal);
            fits = found.1.fits;
          }

-- where the actions that stand for one are given by a function, those that stand for a list are given by it, one
-- after another
pub images_of_all : {A B : Type 0} (images : A → List B) (actions : List A) (all : List B) → StandsForAll (λ a bs. bs ≡ images a) actions all → all ≡ flat_map images actions
images_of_all images [] all h = h
images_of_all images (a ∷ actions) all h =
    h.4 ∙ (λ i. h.2 i ++ images_of_all images actions h.1 h.3 i)

-- with actions that are given by a function
pub mapped_plan : {S A T B : Type 0} (second : System T B) (first : System S A) (Represents : T → S → Type 0) (images : A → List B) (Fits : ℕ → ℕ → Type 0) → GoesOverToSums Fits → Simulates second first Represents (λ a bs. bs ≡ images a) Fits → (plan : List A) (t : T) (s : S) → Represents t s → IsPlanFrom first s plan → IsPlanFrom second t (flat_map images plan) × Fits (plan_cost second (flat_map images plan)) (plan_cost first plan)
mapped_plan second first Represents images Fits sums simulates plan t s represents solves =
    let found = simulated_plan second first Represents (λ a bs. bs ≡ images a) Fits sums simulates plan t s represents solves in
    let same = images_of_all images plan found.plan found.stand in
    (subst (IsPlanFrom second t) same found.plans, subst (λ bs. Fits (plan_cost second bs) (plan_cost first plan)) same found.fits)
