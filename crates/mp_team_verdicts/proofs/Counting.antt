-- Each expansion counts as one, so that all but few rounds are without one.
use Rattle.mp_world.proofs.Basics.{◌≡◌, ℕ, ◌+◌, ◌≤◌, true, false, ◌&&◌, List, [], ◌∷◌, sym, ap, ◌∙◌, arith, ◌⊎◌, inl, inr, slice_get, false≢true, same_Some}
use Rattle.mp_runs.proofs.Runs.{run_parts}
use Rattle.mp_world.specs.AgentWords.{Event, Expand, Take, Start, AgentRecord, with_search, Step}
use Rattle.mp_world.specs.SearchWords.{Entry, Open, Expanded, AgentState, expanded, SearchRecord}
use Rattle.mp_world.specs.Events.{after_event}
use Rattle.mp_world.specs.Steps.{IsStepOf}
use Rattle.mp_world.specs.Team.{IsTeam, Team}
use Rattle.mp_world.specs.World.{World}
use Rattle.mp_team_snapshots.specs.Team.{IsTeamOf}
use Rattle.mp_team_snapshots.proofs.Effects.{same_step}
use Rattle.mp_team_states.specs.Room.{expanded_by_all}
use Rattle.mp_team_states.proofs.Expanding.{expanded_counts}
use Rattle.mp_team_states.proofs.ReachedEntries.{has_it}
use Rattle.mp_team_states.proofs.RoomCounts.{few_expansions}
use Rattle.mp_team_states.proofs.RoomLemmas.{counts_grow}
use Rattle.mp_team_states.specs.Expansions.{ExpandsOne}
use Rattle.mp_team_states.proofs.Worth.{expands_one}
use Rattle.mp_team_verdicts.proofs.Frames.{IsKnownWorld}
use Rattle.mp_team_verdicts.specs.Quiet.{are_quiet, is_quiet}
use Rattle.mp_team_verdicts.proofs.Calm.{Goes, Reached}
use Rattle.mp_team_states.proofs.RoomLemmas.{sum_more}
use Rattle.mp_team_verdicts.proofs.ReachedWorlds.{all_pass, known, onward, reached_next, step_of}

count : AgentRecord → ℕ
count r = r.search.expansions

module _ (team : Team) (is_team : IsTeam team) (publics : ℕ) (of_team : IsTeamOf publics team.tasks) where
  open team use {tasks, value}

  abbrev At : World → Type 0
  At = Reached team is_team publics of_team

  abbrev Leads : World → List Event → World → Type 0
  Leads = Goes team is_team publics of_team

  is_known : (w : World) → At w → IsKnownWorld publics tasks w
  is_known = known team is_team publics of_team

  -- an agent that expands has expanded one entry more
  one_more : (w next : World) (agent : ℕ) → At w → (step : IsStepOf value w (Expand agent) next)
      → step.step.after.search.expansions ≡ step.agent.search.expansions + 1
  one_more w next agent at step = by (expanded_counts step.agent.task (value step.agent.task) step.agent.search)
    where
      made : step.step.after.search ≡ (expanded step.agent.task (value step.agent.task) step.agent.search).1
      made =
          ap (λ (s : Step). s.after.search)
          (sym (same_step (with_search step.agent (expanded step.agent.task (value step.agent.task) step.agent.search)) step.step step.local))

      one : ExpandsOne w agent next
      one =
          let is = is_known w at in
          expands_one tasks is_team.tasks w is.team is.so_far.sound value next agent step

      by : ((expanded step.agent.task (value step.agent.task) step.agent.search).1 ≡ step.agent.search)
          ⊎ ((expanded step.agent.task (value step.agent.task) step.agent.search).1.expansions ≡ step.agent.search.expansions + 1)
          → step.step.after.search.expansions ≡ step.agent.search.expansions + 1
      by (inr more) = ap (λ (x : SearchRecord). x.expansions) made ∙ more
      by (inl same) =
          let e = one in
          let h = has_it w agent e.number e.entry e.there in
          let after = has_it next agent e.number e.is.entry e.is.there in
          let who : h.agent_is ≡ step.agent = same_Some h.agent_is step.agent (sym h.there ∙ step.there) in
          let who_after : after.agent_is ≡ step.step.after = same_Some after.agent_is step.step.after (sym after.there ∙ step.after) in
          let search : after.agent_is.search ≡ h.agent_is.search =
          ap (λ (r : AgentRecord). r.search) who_after ∙ made ∙ same ∙ sym (ap (λ (r : AgentRecord). r.search) who) in
          let entries : e.entry ≡ e.is.entry =
          same_Some e.entry e.is.entry
          (sym h.at ∙ sym (ap (λ (x : SearchRecord). slice_get x.kept.entries e.number) search) ∙ after.at) in
          let marks : Open ≡ Expanded = sym e.is_open ∙ ap (λ (x : Entry AgentState). x.mark) entries ∙ e.is.is in
          absurd (let impossible : ⊥ = cc in impossible)

  pub expansion_counts : (w next : World) (agent : ℕ) → At w → IsStepOf value w (Expand agent) next
      → expanded_by_all next ≡ expanded_by_all w + 1
  expansion_counts w next agent at step =
      let more = sum_more value w next (Expand agent) step (λ r. r.search.expansions) in
      let one = one_more w next agent at step in
      omega arith

  -- the expansions do not get fewer
  pub counts_rise : (events : List Event) (u w : World) → At u → Leads u events w → expanded_by_all u ≤ expanded_by_all w
  counts_rise events u w at goes =
      (onward team is_team publics of_team (λ event. true) (λ v. expanded_by_all u ≤ expanded_by_all v)
      (λ v event next at_v at_next step pass old.
      let more = counts_grow value v next event step in omega arith)
      events u w at (omega arith) (all_pass events) goes).1

  -- where an agent expands there is one more
  pub one_counts : (events : List Event) (u w : World) → At u → Leads u events w → are_quiet events ≡ false
      → expanded_by_all u + 1 ≤ expanded_by_all w
  one_counts [] u w at goes loud = absurd (false≢true (sym loud))
  one_counts (e ∷ es) u w at goes loud =
      let parts = run_parts (after_event value) u w e es goes in
      let v = parts.0 in
      let at_v = reached_next team is_team publics of_team u v e at parts.1 in
      let step = step_of team is_team publics of_team u v e at parts.1 in
      by e step loud (counts_rise es v w at_v parts.2) (one_counts es v w at_v parts.2)
    where
      by : {v : World} (e : Event) → IsStepOf value u e v → (is_quiet e && are_quiet es) ≡ false → expanded_by_all v ≤ expanded_by_all w
          → (are_quiet es ≡ false → expanded_by_all v + 1 ≤ expanded_by_all w) → expanded_by_all u + 1 ≤ expanded_by_all w
      by {v} (Expand agent) step loud rest more = let one = expansion_counts u v agent at step in omega arith
      by {v} (Take b a) step loud rest more =
          let before = counts_grow value u v (Take b a) step in
          let later = more loud in
          omega arith
      by {v} Start step loud rest more =
          let before = counts_grow value u v Start step in
          let later = more loud in
          omega arith

  pub few_counts : (w : World) → At w → expanded_by_all w ≤ 160000000
  few_counts w at = let is = is_known w at in few_expansions tasks is_team.tasks w is.team is.so_far.sound
