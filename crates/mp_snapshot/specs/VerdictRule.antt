-- The verdict on the findings of all agents of a team, in their order.
use Rattle.std.specs.Prelude.{ℕ, ◌+◌, ◌==◌, ◌&&◌, Bool, true, false, nat_le, List, [], ◌∷◌, map, Option, Some, None, if◌then◌else◌}
use Rattle.mp_messages.specs.declared.message.Findings.{Findings}
use Rattle.mp_snapshot.specs.declared.verdict.Verdict.{Verdict}
use Rattle.mp_snapshot.specs.declared.verdict.Verdict.TheVariants.{Proved, NoPlan, Spent, Continue}
use Rattle.mp_snapshot.specs.Minima.{lesser, least_of}

-- the least f of all open entries and of all states that were under way
abbrev pub least_f : List Findings → Option ℕ
least_f found = least_of (map (λ f. lesser f.least f.under_way) found)

-- the least cost of a goal entry
abbrev pub least_goal : List Findings → Option ℕ
least_goal found = least_of (map (λ f. f.goal) found)

-- a cost is this one
abbrev pub is_cost : ℕ → Option ℕ → Bool
is_cost cost None = false
is_cost cost (Some c) = c == cost

-- the number of the first agent whose findings pass a test, where the first of the list has this number
abbrev pub first_from : ℕ → (Findings → Bool) → List Findings → Option ℕ
first_from number test [] = None
first_from number test (f ∷ fs) = if test f then Some number else first_from (number + 1) test fs

abbrev pub lowest_agent : (Findings → Bool) → List Findings → Option ℕ
lowest_agent test found = first_from 1 test found

-- nothing is cheaper than a cost
abbrev pub none_below : ℕ → Option ℕ → Bool
none_below cost None = true
none_below cost (Some f) = nat_le cost f

-- a goal of the least cost is proved to be cheapest, by the lowest agent that has one
abbrev pub proved : ℕ → Option ℕ → Verdict
proved cost (Some agent) = Proved agent cost
proved cost None = Continue

-- the lowest agent that has expanded as often as it may while its least open entry is least of all
abbrev pub spent_or_on : Option ℕ → Verdict
spent_or_on (Some agent) = Spent agent
spent_or_on None = Continue

-- no goal is proved, and this is the least f
abbrev pub unproved : List Findings → ℕ → Verdict
unproved found f = spent_or_on (lowest_agent (λ x. x.spent && is_cost f x.least) found)

abbrev pub by_costs : List Findings → Option ℕ → Option ℕ → Verdict
by_costs found None None = NoPlan
by_costs found None (Some f) = unproved found f
by_costs found (Some cost) None = proved cost (lowest_agent (λ x. is_cost cost x.goal) found)
by_costs found (Some cost) (Some f) =
    if nat_le cost f then proved cost (lowest_agent (λ x. is_cost cost x.goal) found) else unproved found f

-- The verdict: a goal is the cheapest where no open entry and no state under way could lead to a cheaper one;
-- there is no plan where there is neither a goal nor an open entry nor a state under way; the search is spent
-- where an agent may not expand the least open entry; and otherwise it goes on.
abbrev pub verdict_of : List Findings → Verdict
verdict_of found = by_costs found (least_goal found) (least_f found)
