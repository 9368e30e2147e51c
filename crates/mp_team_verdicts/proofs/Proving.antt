-- The agent of a verdict that proves a plan has found a goal of that cost, and the goal entry that it noted is of that cost.
use Rattle.mp_world.proofs.Basics.{◌≡◌, ℕ, suc, ◌<◌, ◌^◌, Bool, true, false, List, length, map, Option, Some, None, refl, ap, ◌∙◌, arith, if◌then◌else◌, slice_get, eq-eqb, eqb-true, lt-ltb, none-some, slice_get_within}
use Rattle.mp_machine.specs.Snapshots.{if_walkable}
use Rattle.mp_world.specs.AgentWords.{EndKind, Findings, Verdict, Proved, NoPlan, Spent, Continue, own, is_cost, verdict_of, AgentRecord, goal_entry, is_deciding, is_proved}
use Rattle.mp_world.specs.SearchWords.{bound}
use Rattle.mp_team_snapshots.proofs.CutVerdicts.{goal_of_bound}
use Rattle.mp_team_snapshots.proofs.Unnumbered.{found_by, verdict_named}
use Rattle.mp_team_verdicts.specs.Ending.{HasGoal, end_by}

-- ---- the agent of a verdict

pub cost_found : (cost : ℕ) (o : Option ℕ) → is_cost cost o ≡ true → o ≡ Some cost
cost_found cost None is = absurd (let impossible : ⊥ = cc in impossible)
cost_found cost (Some c) is = ap (λ (n : ℕ). Some n) (eqb-true c cost is)

-- the agent of a verdict
pub record HasFound (rs : List AgentRecord) (agent cost : ℕ) : Type 0 where
  pub place : ℕ
  pub is : agent ≡ suc place
  pub who : AgentRecord
  pub there : slice_get rs place ≡ Some who
  pub goal : (own who.snapshot).goal ≡ Some cost

pub verdict_found : (rs : List AgentRecord) (agent cost : ℕ) → verdict_of (map (λ r. own r.snapshot) rs) ≡ Proved agent cost → HasFound rs agent cost
verdict_found rs agent cost is =
    let named = verdict_named (map (λ (r : AgentRecord). own r.snapshot) rs) agent cost is in
    let who = found_by (λ (r : AgentRecord). own r.snapshot) rs named.place named.found named.there in
    let number = named.is in
    record {
      place = named.place;
      is = omega arith;
      who = who.0;
      there = who.1;
      goal = ap (λ (f : Findings). f.goal) who.2 ∙ cost_found cost named.found.goal named.passes;
    }

-- ---- the goal entry that is noted

-- an agent that notes its least goal entry
pub goal_noted : (r : AgentRecord) (cost : ℕ) → length r.search.kept.entries < 2 ^ 60 → r.goal ≡ goal_entry r.search.kept → bound r.search.kept ≡ Some cost
    → (number : ℕ) × HasGoal r number cost
goal_noted r cost few noted is =
    let g = goal_of_bound cost r.search.kept (ap (is_cost cost) is ∙ eq-eqb cost cost refl) in
    let inside = slice_get_within r.search.kept.entries g.number g.entry g.is_entry in (
      g.number,
      record {
        entry = g.entry;
        noted = noted ∙ ap if_walkable g.least ∙ ap (λ (b : Bool). if b then Some g.number else None) (lt-ltb g.number (2 ^ 60) (omega arith));
        at = g.is_entry;
        is_goal = g.goal;
        cost_is = g.cost_is;
      },
    )

-- ---- a verdict by which the search ends without a plan

pub end_decides : (o : Option Verdict) (kind : EndKind) → end_by o ≡ Some kind → is_deciding o ≡ true
end_decides None kind is = absurd (none-some kind is)
end_decides (Some (Proved agent cost)) kind is = refl
end_decides (Some NoPlan) kind is = refl
end_decides (Some (Spent agent)) kind is = refl
end_decides (Some Continue) kind is = absurd (none-some kind is)

pub end_unproved : (o : Option Verdict) (kind : EndKind) → end_by o ≡ Some kind → is_proved o ≡ false
end_unproved None kind is = refl
end_unproved (Some (Proved agent cost)) kind is = absurd (none-some kind is)
end_unproved (Some NoPlan) kind is = refl
end_unproved (Some (Spent agent)) kind is = refl
end_unproved (Some Continue) kind is = refl
