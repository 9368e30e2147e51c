-- A verdict that proves a plan names an agent of the team.
use Rattle.mp_world.proofs.Basics.{◌≡◌, ℕ, suc, ◌+◌, ◌<◌, ◌≤◌, Bool, true, false, cond, ◌&&◌, List, [], ◌∷◌, length, take, Option, Some, None, subst, arith, nat_le, nat_lt, none-some, same_Some}
use Rattle.std.proofs.lemmas.List.{length-take}
use Rattle.mp_world.specs.AgentWords.{Findings, Verdict, Proved, NoPlan, Spent, Continue, Notes, is_complete, verdict, by_costs, first_from, is_cost, least_f, least_goal, lowest_agent, proved, spent_or_on, unproved, verdict_of}

-- an agent that is named is one of so many
abbrev pub NamesOne : ℕ → Verdict → Type 0
NamesOne agents (Proved agent cost) = (1 ≤ agent) × (agent ≤ agents)
NamesOne agents NoPlan = Unit {0}
NamesOne agents (Spent agent) = Unit {0}
NamesOne agents Continue = Unit {0}

abbrev IsFrom : ℕ → ℕ → Option ℕ → Type 0
IsFrom number many None = Unit {0}
IsFrom number many (Some agent) = (number ≤ agent) × (agent < number + many)

first_within : (number : ℕ) (test : Findings → Bool) (found : List Findings)
    → IsFrom number (length found) (first_from number test found)
first_within number test [] = tt
first_within number test (f ∷ fs) = by (test f) (first_within (number + 1) test fs)
  where
    further : (o : Option ℕ) → IsFrom (number + 1) (length fs) o → IsFrom number (suc (length fs)) o
    further None is = tt
    further (Some agent) is = let low = is.0 in let high = is.1 in (omega arith, omega arith)

    by : (b : Bool) → IsFrom (number + 1) (length fs) (first_from (number + 1) test fs)
        → IsFrom number (suc (length fs)) (cond b (Some number) (first_from (number + 1) test fs))
    by true rest = (omega arith, omega arith)
    by false rest = further (first_from (number + 1) test fs) rest

proved_names : (agents cost : ℕ) (o : Option ℕ) → IsFrom 1 agents o → NamesOne agents (proved cost o)
proved_names agents cost None is = tt
proved_names agents cost (Some agent) is = let low = is.0 in let high = is.1 in (low, omega arith)

spent_names : (agents : ℕ) (o : Option ℕ) → NamesOne agents (spent_or_on o)
spent_names agents None = tt
spent_names agents (Some agent) = tt

module _ (found : List Findings) where
  lowest_names : (cost : ℕ) → NamesOne (length found) (proved cost (lowest_agent (λ x. is_cost cost x.goal) found))
  lowest_names cost = proved_names (length found) cost _ (first_within 1 (λ x. is_cost cost x.goal) found)

  unproved_names : (f : ℕ) → NamesOne (length found) (unproved found f)
  unproved_names f = spent_names (length found) _

  costs_name : (goal least : Option ℕ) → NamesOne (length found) (by_costs found goal least)
  costs_name None None = tt
  costs_name None (Some f) = unproved_names f
  costs_name (Some cost) None = lowest_names cost
  costs_name (Some cost) (Some f) = by (nat_le cost f)
    where
      by : (b : Bool) → NamesOne (length found)
          (cond b (proved cost (lowest_agent (λ x. is_cost cost x.goal) found)) (unproved found f))
      by true = lowest_names cost
      by false = unproved_names f

  verdict_names : NamesOne (length found) (verdict_of found)
  verdict_names = costs_name (least_goal found) (least_f found)

fewer : (many agents : ℕ) (v : Verdict) → many ≤ agents → NamesOne many v → NamesOne agents v
fewer many agents (Proved agent cost) most is = let high = is.1 in (is.0, omega arith)
fewer many agents NoPlan most is = tt
fewer many agents (Spent agent) most is = tt
fewer many agents Continue most is = tt

pub given_names : (s : Notes) (v : Verdict) → verdict s ≡ Some v → NamesOne s.agents v
given_names s v given = by (nat_lt 0 s.number && is_complete s) given
  where
    found : List Findings
    found = take s.agents s.found

    few : length found ≤ s.agents
    few = let many = length-take s.agents s.found in omega arith

    by : (b : Bool) → cond b (Some (verdict_of found)) None ≡ Some v → NamesOne s.agents v
    by true given =
        subst (NamesOne s.agents) (same_Some (verdict_of found) v given)
        (fewer (length found) s.agents (verdict_of found) few (verdict_names found))
    by false given = absurd (none-some v given)
