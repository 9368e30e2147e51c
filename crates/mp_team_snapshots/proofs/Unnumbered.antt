-- The rule of verdicts does not look at the numbers of findings; what agent it names for a proved plan.
use Rattle.mp_world.proofs.Basics.{◌≡◌, ℕ, suc, ◌+◌, Bool, true, false, List, [], ◌∷◌, map, Option, Some, None, refl, sym, ap, subst, ◌∙◌, arith, ◌&&◌, if◌then◌else◌, nat_le, option_map, slice_get, none-some, same_Some, slice_get-map}
use Rattle.mp_world.specs.AgentWords.{Findings, Proved, lesser, by_costs, first_from, is_cost, least_f, least_goal, lowest_agent, proved, spent_or_on, unproved, verdict_of, AgentRecord}
use Rattle.mp_team_snapshots.specs.Found.{numbered}

module _ (k : ℕ) where
  first_same : (number : ℕ) (test : Findings → Bool) → ((f : Findings) → test (numbered k f) ≡ test f)
      → (fs : List Findings)
      → first_from number test (map (numbered k) fs) ≡ first_from number test fs
  first_same number test same [] = refl
  first_same number test same (f ∷ fs) = λ i. if same f i then Some number else first_same (number + 1) test same fs i

  least_f_same : (fs : List Findings) → least_f (map (numbered k) fs) ≡ least_f fs
  least_f_same [] = refl
  least_f_same (f ∷ fs) = ap (lesser (lesser f.least f.under_way)) (least_f_same fs)

  least_goal_same : (fs : List Findings) → least_goal (map (numbered k) fs) ≡ least_goal fs
  least_goal_same [] = refl
  least_goal_same (f ∷ fs) = ap (lesser f.goal) (least_goal_same fs)

  unproved_same : (fs : List Findings) (f : ℕ) → unproved (map (numbered k) fs) f ≡ unproved fs f
  unproved_same fs f = ap spent_or_on (first_same 1 (λ x. x.spent && is_cost f x.least) (λ x. refl) fs)

  proved_same : (fs : List Findings) (cost : ℕ)
      → proved cost (lowest_agent (λ x. is_cost cost x.goal) (map (numbered k) fs))
      ≡ proved cost (lowest_agent (λ x. is_cost cost x.goal) fs)
  proved_same fs cost = ap (proved cost) (first_same 1 (λ x. is_cost cost x.goal) (λ x. refl) fs)

  by_costs_same : (fs : List Findings) (goal f : Option ℕ) → by_costs (map (numbered k) fs) goal f ≡ by_costs fs goal f
  by_costs_same fs None None = refl
  by_costs_same fs None (Some f) = unproved_same fs f
  by_costs_same fs (Some cost) None = proved_same fs cost
  by_costs_same fs (Some cost) (Some f) = λ i. if nat_le cost f then proved_same fs cost i else unproved_same fs f i

  pub verdict_same : (fs : List Findings) → verdict_of (map (numbered k) fs) ≡ verdict_of fs
  verdict_same fs =
      (λ i. by_costs (map (numbered k) fs) (least_goal_same fs i) (least_f_same fs i))
      ∙ by_costs_same fs (least_goal fs) (least_f fs)

-- ---- the agent that is named

-- the findings of an agent of a list whose first one has a number
pub record IsNamed (number agent : ℕ) (test : Findings → Bool) (fs : List Findings) : Type 0 where
  pub place : ℕ
  pub is : agent ≡ number + place
  pub found : Findings
  pub there : slice_get fs place ≡ Some found
  pub passes : test found ≡ true

-- the agent that is named passes the test
pub named : (number agent : ℕ) (test : Findings → Bool) (fs : List Findings) → first_from number test fs ≡ Some agent
    → IsNamed number agent test fs
named number agent test [] first = absurd (none-some agent first)
named number agent test (f ∷ fs) first = by (test f) refl first (named (number + 1) agent test fs)
  where
    by : (b : Bool) → test f ≡ b → (if b then Some number else first_from (number + 1) test fs) ≡ Some agent
        → (first_from (number + 1) test fs ≡ Some agent → IsNamed (number + 1) agent test fs)
        → IsNamed number agent test (f ∷ fs)
    by true passes first more =
        let same : number ≡ agent = same_Some number agent first in
        record { place = 0; is = omega arith; found = f; there = refl; passes = passes }
    by false fails first more =
        let it = more first in
        let e = it.is in
        record { place = suc it.place; is = omega arith; found = it.found; there = it.there; passes = it.passes }

proved_named : (cost agent c : ℕ) (fs : List Findings)
    → proved cost (lowest_agent (λ x. is_cost cost x.goal) fs) ≡ Proved agent c
    → IsNamed 1 agent (λ x. is_cost c x.goal) fs
proved_named cost agent c fs is = by (lowest_agent (λ x. is_cost cost x.goal) fs) refl is
  where
    by : (o : Option ℕ) → lowest_agent (λ x. is_cost cost x.goal) fs ≡ o → proved cost o ≡ Proved agent c
        → IsNamed 1 agent (λ x. is_cost c x.goal) fs
    by None none is = absurd (let impossible : ⊥ = cc in impossible)
    by (Some a) first is =
        let same : a ≡ agent = cc in
        let costs : cost ≡ c = cc in
        subst (λ d. IsNamed 1 agent (λ x. is_cost d x.goal) fs) costs
        (named 1 agent (λ x. is_cost cost x.goal) fs (first ∙ ap Some same))

not_proved : (o : Option ℕ) (agent c : ℕ) → spent_or_on o ≡ Proved agent c → ⊥
not_proved None agent c is = let impossible : ⊥ = cc in impossible
not_proved (Some a) agent c is = let impossible : ⊥ = cc in impossible

costs_named : (fs : List Findings) (goal f : Option ℕ) (agent c : ℕ) → by_costs fs goal f ≡ Proved agent c
    → IsNamed 1 agent (λ x. is_cost c x.goal) fs
costs_named fs None None agent c is = absurd (let impossible : ⊥ = cc in impossible)
costs_named fs None (Some f) agent c is =
    absurd (not_proved (lowest_agent (λ x. x.spent && is_cost f x.least) fs) agent c is)
costs_named fs (Some cost) None agent c is = proved_named cost agent c fs is
costs_named fs (Some cost) (Some f) agent c is = by (nat_le cost f) is
  where
    by : (b : Bool) → (if b then proved cost (lowest_agent (λ x. is_cost cost x.goal) fs) else unproved fs f)
        ≡ Proved agent c
        → IsNamed 1 agent (λ x. is_cost c x.goal) fs
    by true is = proved_named cost agent c fs is
    by false is = absurd (not_proved (lowest_agent (λ x. x.spent && is_cost f x.least) fs) agent c is)

-- the agent of a proved verdict found a goal of its cost
pub verdict_named : (fs : List Findings) (agent cost : ℕ) → verdict_of fs ≡ Proved agent cost
    → IsNamed 1 agent (λ x. is_cost cost x.goal) fs
verdict_named fs agent cost is = costs_named fs (least_goal fs) (least_f fs) agent cost is

-- the agent of a list whose findings they are
pub found_by : (found : AgentRecord → Findings) (rs : List AgentRecord) (place : ℕ) (f : Findings) → slice_get (map found rs) place ≡ Some f
    → (r : AgentRecord) × (slice_get rs place ≡ Some r) × (found r ≡ f)
found_by found rs place f here = by (slice_get rs place) refl (sym (slice_get-map found rs place) ∙ here)
  where
    by : (o : Option AgentRecord) → slice_get rs place ≡ o → option_map found o ≡ Some f
        → (r : AgentRecord) × (slice_get rs place ≡ Some r) × (found r ≡ f)
    by None at same = absurd (none-some f same)
    by (Some r) at same = (r, at, same_Some (found r) f same)
