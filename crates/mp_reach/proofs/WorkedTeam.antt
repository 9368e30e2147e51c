-- The worked team: its start is explored, and where what was expanded is forgotten nothing is.
use Rattle.std.proofs.Common.{◌≡◌, ℕ, Bool, true, false, [], ◌∷◌, None, refl, sym, ap, ◌∙◌, ⊎_elim, inl, zero-le, arith}
use Rattle.std.proofs.lemmas.Bool.{false≢true}
use Rattle.std.proofs.lemmas.Option.{same_Some}
use Rattle.std.specs.FinSet as set
use Rattle.mp_list.proofs.Members.{contains_cases, contains_head, contains_one, no_member}
use Rattle.mp_store.specs.declared.entry.Mark.TheVariants.{Open, Expanded}
use Rattle.mp_task.specs.AgentTask.{AgentTask}
use Rattle.mp_task.specs.Plan.{goals_hold, joint_start, task_cost}
use Rattle.mp_order.specs.Examples.{cook, waiter, cook_and_waiter, unordered}
use Rattle.mp_order.proofs.OrderedExample.{are_a_team, unordered_solves}
use Rattle.mp_reach.specs.Examples.{root, root_entry, begun, forgotten}
use Rattle.mp_reach.specs.Explored.{IsAt, HasEntry, HasWitness}
use Rattle.mp_reach.specs.Explored.HasWitness.{open_entry, under_way, goal_entry}
use Rattle.mp_reach.specs.Found.{Entry}
use Rattle.mp_reach.specs.LeadsOn.{Known, LeadsOn, IsGoal, IsRoot, IsTeamExplored, IsTeamBound}
use Rattle.mp_reach.proofs.Changing.{started_explored}
use Rattle.mp_reach.proofs.PlanWitness.{plan_witness}

both_open : (i : Bool) (e : Entry Known) → IsAt begun i e → e.mark ≡ Open
both_open true e here = ap (λ (d : Entry Known). d.mark) (sym (same_Some _ e here))
both_open false e here = ap (λ (d : Entry Known). d.mark) (sym (same_Some _ e here))

both_bounds : (i : Bool) (e : Entry Known) → IsAt begun i e → IsTeamBound cook_and_waiter e.state e.estimate
both_bounds true e here cost t way goal = let none = ap (λ (d : Entry Known). d.estimate) (same_Some _ e here) in omega arith
both_bounds false e here cost t way goal = let none = ap (λ (d : Entry Known). d.estimate) (same_Some _ e here) in omega arith

-- the root of the cook or of the waiter has an entry
root_is : (t : AgentTask) (k : Known) → k.agent ≡ t.me → k.state ≡ joint_start cook_and_waiter → root t ≡ k
root_is t k agent state = λ i. record { agent = sym agent i; state = sym state i }

both_roots : (k : Known) → IsRoot cook_and_waiter k → HasEntry begun k 0
both_roots k it =
    ⊎_elim
    (λ first. record { index = true; entry = root_entry Open cook; there = refl; of = root_is cook k (it.agent ∙ ap (λ (t : AgentTask). t.me) (sym first)) it.state; within = zero-le })
    (λ later. record { index = false; entry = root_entry Open waiter; there = refl; of = root_is waiter k (it.agent ∙ ap (λ (t : AgentTask). t.me) (contains_one waiter it.task later)) it.state; within = zero-le })
    (contains_cases cook (waiter ∷ []) it.task it.in_team)

pub begun_is_explored : IsTeamExplored cook_and_waiter None begun
begun_is_explored =
    started_explored (LeadsOn cook_and_waiter) (IsGoal cook_and_waiter) (IsRoot cook_and_waiter) begun
    (record { all_open = both_open; sent = refl; under_way = refl })
    (λ k it. inl (both_roots k it))
    both_bounds

-- nothing that was forgotten shows that there is a plan
no_goal : goals_hold cook_and_waiter (joint_start cook_and_waiter) ≡ false
no_goal = simp set.contains-from_list_nat refl

closed_mark : (i : Bool) (e : Entry Known) → IsAt forgotten i e → e.mark ≡ Expanded
closed_mark true e here = ap (λ (d : Entry Known). d.mark) (sym (same_Some _ e here))
closed_mark false e here = ap (λ (d : Entry Known). d.mark) (sym (same_Some _ e here))

closed_state : (i : Bool) (e : Entry Known) → IsAt forgotten i e → e.state.state ≡ joint_start cook_and_waiter
closed_state true e here = ap (λ (d : Entry Known). d.state.state) (sym (same_Some _ e here))
closed_state false e here = ap (λ (d : Entry Known). d.state.state) (sym (same_Some _ e here))

pub no_witness : (cost : ℕ) → HasWitness (IsGoal cook_and_waiter) forgotten cost → ⊥
no_witness cost (open_entry i e here is within) = let closed = closed_mark i e here in cc
no_witness cost (under_way m there within) = no_member m there
no_witness cost (goal_entry i e here goal within) = false≢true (sym no_goal ∙ ap (goals_hold cook_and_waiter) (sym (closed_state i e here)) ∙ goal)

pub forgotten_is_not : IsTeamExplored cook_and_waiter None forgotten → ⊥
forgotten_is_not x =
    no_witness (task_cost cook_and_waiter unordered)
    (plan_witness cook_and_waiter cook forgotten unordered (record { agree = are_a_team.agree; in_team = contains_head cook (waiter ∷ []) }) x unordered_solves)
