-- The rule of verdicts by cases: what it says of the least costs, and of the agent that it names.
use Rattle.mp_world.proofs.Basics.{◌≡◌, ℕ, ◌≤◌, ◌<◌, Bool, true, false, List, Option, Some, None, refl, subst, ◌&&◌, if◌then◌else◌, nat_le, leb-false, leb-true}
use Rattle.mp_world.specs.AgentWords.{Findings, Verdict, Proved, NoPlan, Spent, Continue, by_costs, is_cost, least_f, least_goal, lowest_agent, proved, spent_or_on, unproved, verdict_of}
use Rattle.mp_team_snapshots.proofs.Unnumbered.{IsNamed, named}

-- a cost is at most that of what is left to do, if something is
abbrev pub IsNoneBelow : ℕ → Option ℕ → Type 0
IsNoneBelow cost None = Unit {0}
IsNoneBelow cost (Some f) = cost ≤ f

-- a goal, if there is one, costs more
abbrev pub IsAbove : ℕ → Option ℕ → Type 0
IsAbove f None = Unit {0}
IsAbove f (Some cost) = f < cost

-- what the rule says of the least costs, and of the agent that it names
pub record SaysSpent (found : List Findings) (agent : ℕ) : Type 0 where
  pub f : ℕ
  pub least : least_f found ≡ Some f
  pub goal : IsAbove f (least_goal found)
  pub named : IsNamed 1 agent (λ x. x.spent && is_cost f x.least) found

abbrev Says : List Findings → Option ℕ → Option ℕ → Verdict → Type 0
Says found goal f (Proved agent cost) = (goal ≡ Some cost) × IsNoneBelow cost f
Says found goal f NoPlan = (goal ≡ None) × (f ≡ None)
Says found goal f (Spent agent) = (l : ℕ) × (f ≡ Some l) × IsAbove l goal × IsNamed 1 agent (λ x. x.spent && is_cost l x.least) found
Says found goal f Continue = Unit {0}

module _ (found : List Findings) where
  says_unproved : (f : ℕ) (goal : Option ℕ) → IsAbove f goal → Says found goal (Some f) (unproved found f)
  says_unproved f goal above = by (lowest_agent (λ x. x.spent && is_cost f x.least) found) refl
    where
      by : (o : Option ℕ) → lowest_agent (λ x. x.spent && is_cost f x.least) found ≡ o → Says found goal (Some f) (spent_or_on o)
      by None is = tt
      by (Some agent) is = (f, refl, above, named 1 agent (λ x. x.spent && is_cost f x.least) found is)

  says_proved : (cost : ℕ) (f : Option ℕ) (o : Option ℕ) → IsNoneBelow cost f → Says found (Some cost) f (proved cost o)
  says_proved cost f None below = tt
  says_proved cost f (Some agent) below = (refl, below)

  says : (goal f : Option ℕ) → Says found goal f (by_costs found goal f)
  says None None = (refl, refl)
  says None (Some f) = says_unproved f None tt
  says (Some cost) None = says_proved cost None (lowest_agent (λ x. is_cost cost x.goal) found) tt
  says (Some cost) (Some f) = by (nat_le cost f) refl
    where
      by : (b : Bool) → nat_le cost f ≡ b
          → Says found (Some cost) (Some f) (if b then proved cost (lowest_agent (λ x. is_cost cost x.goal) found) else unproved found f)
      by true is = says_proved cost (Some f) (lowest_agent (λ x. is_cost cost x.goal) found) (leb-true cost f is)
      by false is = says_unproved f (Some cost) (leb-false cost f is)

  said : (v : Verdict) → verdict_of found ≡ v → Says found (least_goal found) (least_f found) v
  said v is = subst (Says found (least_goal found) (least_f found)) is (says (least_goal found) (least_f found))

  pub says_proved_cost : (agent cost : ℕ) → verdict_of found ≡ Proved agent cost → (least_goal found ≡ Some cost) × IsNoneBelow cost (least_f found)
  says_proved_cost agent cost is = said (Proved agent cost) is

  pub says_no_plan : verdict_of found ≡ NoPlan → (least_goal found ≡ None) × (least_f found ≡ None)
  says_no_plan is = said NoPlan is

  pub says_spent : (agent : ℕ) → verdict_of found ≡ Spent agent → SaysSpent found agent
  says_spent agent is =
      let s = said (Spent agent) is in
      record { f = s.0; least = s.1; goal = s.2; named = s.3 }
