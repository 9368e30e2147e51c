-- The entries that agents had noted for the snapshot of a proved cost are those after its cut.
use Rattle.std.proofs.Common.{◌≡◌, ℕ, ◌<◌, List, Some, sym, ap, subst, ◌∙◌, arith}
use Rattle.std.specs.Prelude.{slice_get}
use Rattle.std.proofs.lemmas.Option.{same_Some, slice_get_within}
use Rattle.mp_task.specs.AgentTask.{AgentTask}
use Rattle.mp_messages.specs.declared.history.Event.{Event}
use Rattle.mp_snapshot.specs.declared.verdict.Verdict.TheVariants.{Proved}
use Rattle.mp_store.specs.declared.entry.Entry.{Entry}
use Rattle.mp_search.specs.AgentState.{AgentState}
use Rattle.mp_machine.specs.AgentRecord.{AgentRecord, given_verdict}
use Rattle.mp_reach.specs.LeadsOn.{IsAny}
use Rattle.mp_world.specs.Events.{run}
use Rattle.mp_world.specs.Joint.{joint}
use Rattle.mp_world.specs.Team.{IsTeam, team_with}
use Rattle.mp_world.specs.World.{World, agent_at}
use Rattle.mp_team_states.proofs.StartSound.{some_item}
use Rattle.mp_team_states.proofs.StepsSound.{records_sound}
use Rattle.mp_team_states.proofs.WorldsGrow.{joint_same}
use Rattle.mp_team_states.specs.Expansions.{nothing_known}
use Rattle.mp_team_states.proofs.Heuristics.{knows_nothing}
use Rattle.mp_team_states.proofs.Runs.{IsInvariantFor, run_invariant}
use Rattle.mp_team_states.proofs.SoundWorlds.{me_is, states_known}
use Rattle.mp_team_snapshots.specs.Cut.{cut_schedule}
use Rattle.mp_team_snapshots.specs.Verdicts.{HasFoundThere, HasVerdictWorld}
use Rattle.mp_team_snapshots.proofs.Teams.{has_verdict_world}

module _ (limit : ℕ) (tasks : List AgentTask) (is_team : IsTeam (team_with nothing_known limit tasks))
    (schedule : List Event) (w : World) (ran : run (team_with nothing_known limit tasks) schedule ≡ Some w)
    (first : AgentRecord) (first_there : agent_at w 1 ≡ Some first) (prover cost : ℕ) (given : given_verdict first ≡ Some (Proved prover cost)) where
  pub verdict_world : HasVerdictWorld (team_with nothing_known limit tasks) first.snapshot.number schedule w (Proved prover cost)
  verdict_world = has_verdict_world (team_with nothing_known limit tasks) schedule w ran first first_there (Proved prover cost) given is_team.tasks

  abbrev pub cut : World
  cut = verdict_world.cut.world

  abbrev pub cut_events : List Event
  cut_events = cut_schedule (team_with nothing_known limit tasks) first.snapshot.number schedule

  cut_all : IsInvariantFor nothing_known tasks is_team.tasks IsAny cut
  cut_all = run_invariant (team_with nothing_known limit tasks) is_team (knows_nothing IsAny tasks) cut_events cut verdict_world.cut.runs

  all : IsInvariantFor nothing_known tasks is_team.tasks IsAny w
  all = run_invariant (team_with nothing_known limit tasks) is_team (knows_nothing IsAny tasks) schedule w ran

  -- an agent as it was after the cut
  was : (agent : ℕ) (r : AgentRecord) → agent_at w agent ≡ Some r → HasFoundThere first.snapshot.number w cut r
  was agent r r_there = verdict_world.verdict_on.found r (ap (agent_at w) (me_is tasks is_team.tasks w all.team agent r r_there) ∙ r_there)

  was_there : (agent : ℕ) (r : AgentRecord) (r_there : agent_at w agent ≡ Some r) → agent_at cut agent ≡ Some (was agent r r_there).then
  was_there agent r r_there = ap (agent_at cut) (sym (me_is tasks is_team.tasks w all.team agent r r_there)) ∙ (was agent r r_there).there

  -- a joint state is what it was
  joint_was : (agent : ℕ) (then : AgentRecord) (n : ℕ) (e : Entry AgentState) → agent_at cut agent ≡ Some then
      → slice_get then.search.kept.entries n ≡ Some e → joint w agent e.key ≡ joint cut agent e.key
  joint_was agent then n e then_there at =
      let me = me_is tasks is_team.tasks cut cut_all.team agent then then_there in
      let known = states_known tasks is_team.tasks cut cut_all.team cut_all.sound agent n then e then_there at in
      (λ j. joint w (sym me j) e.key)
      ∙ joint_same cut w (records_sound tasks is_team.tasks cut cut_all.team cut_all.sound) verdict_world.cut.grown then.task e.key known
      ∙ (λ j. joint cut (me j) e.key)

  -- an entry that an agent had noted, and that entry after the cut
  pub record IsThen (agent n : ℕ) (r : AgentRecord) (e : Entry AgentState) (then : AgentRecord) (before : Entry AgentState) : Type 0 where
    pub there : agent_at w agent ≡ Some r
    pub at : slice_get r.search.kept.entries n ≡ Some e
    pub below : n < r.noted
    pub then_there : agent_at cut agent ≡ Some then
    pub then_at : slice_get then.search.kept.entries n ≡ Some before
    pub key : e.key ≡ before.key
    pub price : e.g ≡ before.g
    pub joint_is : joint w agent e.key ≡ joint cut agent before.key

  both : (agent n : ℕ) (r : AgentRecord) (r_there : agent_at w agent ≡ Some r) (before : Entry AgentState) → slice_get (was agent r r_there).then.search.kept.entries n ≡ Some before
      → (e : Entry AgentState) × IsThen agent n r e (was agent r r_there).then before
  both agent n r r_there before then_at =
      let x = was agent r r_there in
      let noted = (x.since.last x.number).noted in
      let inside = slice_get_within x.then.search.kept.entries n before then_at in
      let later = x.since.grown.entries n before then_at in
      let then_there = was_there agent r r_there in (
        later.0,
        record {
          there = r_there;
          at = later.1;
          below = omega arith;
          then_there = then_there;
          then_at = then_at;
          key = later.2.key;
          price = later.2.g;
          joint_is = ap (joint w agent) later.2.key ∙ joint_was agent x.then n before then_there then_at;
        },
      )

  -- what was noted is there after the cut
  pub noted_then : (agent n : ℕ) (r : AgentRecord) (e : Entry AgentState) → agent_at w agent ≡ Some r → slice_get r.search.kept.entries n ≡ Some e → n < r.noted
      → (then : AgentRecord) × (before : Entry AgentState) × IsThen agent n r e then before
  noted_then agent n r e r_there at below =
      let x = was agent r r_there in
      let noted = (x.since.last x.number).noted in
      let before = some_item x.then.search.kept.entries n (omega arith) in
      let found = both agent n r r_there before.0 before.1 in
      let same : found.0 ≡ e = same_Some found.0 e (sym found.1.at ∙ at) in
      (x.then, before.0, subst (λ (e : Entry AgentState). IsThen agent n r e x.then before.0) same found.1)

  -- and back
  pub then_noted : (agent n : ℕ) (then : AgentRecord) (before : Entry AgentState) → agent_at cut agent ≡ Some then → slice_get then.search.kept.entries n ≡ Some before
      → (r : AgentRecord) × (e : Entry AgentState) × IsThen agent n r e then before
  then_noted agent n then before then_there then_at =
      let later = verdict_world.cut.grown agent then then_there in
      let r = later.0 in
      let same : then ≡ (was agent r later.1).then = same_Some then (was agent r later.1).then (sym then_there ∙ was_there agent r later.1) in
      let found = both agent n r later.1 before (ap (λ (x : AgentRecord). slice_get x.search.kept.entries n) (sym same) ∙ then_at) in
      (r, found.0, subst (λ (x : AgentRecord). IsThen agent n r found.0 x before) (sym same) found.1)
