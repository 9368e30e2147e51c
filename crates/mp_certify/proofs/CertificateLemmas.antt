-- What the machines of a team have found, once it has ended with a cheapest plan, is a certificate that holds.
use Rattle.std.proofs.Common.{◌≡◌, ℕ, zero, suc, ◌+◌, ◌-◌, ◌≤◌, ◌==◌, if◌then◌else◌, Bool, true, false, List, [], ◌∷◌, length, map, flat_map, Option, Some, None, slice_get, All, IsSome, refl, sym, ap, ◌∙◌, subst, arith}
use Rattle.std.specs.List.{enumerate_from}
use Rattle.std.specs.Option.{option_and_then, option_map_or}
use Rattle.std.specs.Prelude.{Contains, option_map}
use Rattle.std.proofs.lemmas.Bool.{false≢true}
use Rattle.std.proofs.lemmas.List.{length-map}
use Rattle.std.proofs.lemmas.Option.{none-some, same_Some, slice_get-map}
use Rattle.mp_list.proofs.Members.{contains_head, no_member}
use Rattle.mp_sets.specs.declared.tag.Tag.{Tag}
use Rattle.mp_sets.specs.Numbers.{Numbers}
use Rattle.mp_task.specs.Agreement.{SayAlike}
use Rattle.mp_task.specs.AgentTask.{AgentTask}
use Rattle.mp_task.proofs.Agreeing.{agree_numbered}
use Rattle.mp_tokens.specs.Order.{set_at}
use Rattle.mp_store.specs.declared.entry.Entry.{Entry}
use Rattle.mp_search.specs.AgentState.{AgentState}
use Rattle.mp_search.specs.Search.{tokens_given}
use Rattle.mp_snapshot.specs.declared.verdict.Verdict.{Verdict}
use Rattle.mp_snapshot.specs.declared.verdict.Verdict.TheVariants.{Proved, NoPlan, Spent, Continue}
use Rattle.mp_machine.specs.AgentRecord.{AgentRecord, given_verdict}
use Rattle.mp_machine.specs.Machine.{AgentMachine}
use Rattle.mp_machine.specs.Verdicts.{proved_cost}
use Rattle.mp_reach.specs.LeadsOn.{IsAny}
use Rattle.mp_world.specs.declared.answer.Answer.{Answer}
use Rattle.mp_world.specs.declared.answer.Answer.TheVariants as answers
use Rattle.mp_world.specs.Answers.{answer_by, answer_of}
use Rattle.mp_world.specs.IsRun.{IsRun}
use Rattle.mp_world.specs.Joint.{private_facts}
use Rattle.mp_world.specs.RoundRobin.{is_over}
use Rattle.mp_world.specs.World.{World, agent_at}
use Rattle.mp_team_states.specs.Expansions.{nothing_known}
use Rattle.mp_team_states.proofs.Heuristics.{knows_nothing}
use Rattle.mp_team_states.proofs.Runs.{IsInvariantFor, run_invariant}
use Rattle.mp_team_states.proofs.SoundWorlds.{agents_are, me_is, states_known, task_in}
use Rattle.mp_schedule.specs.Machines.{IsFree, tasks_of, world_of}
use Rattle.mp_schedule.specs.TeamRun.{IsLogged, MayRun, TeamRun, team_in}
use Rattle.mp_schedule.specs.UnderWay.{Mail, world_with}
use Rattle.mp_schedule.proofs.Keeping.{is_run_of}
use Rattle.mp_audit.specs.declared.certificate.Bound.{Bound}
use Rattle.mp_audit.specs.declared.certificate.Certificate.{Certificate}
use Rattle.mp_audit.specs.declared.verdict.AuditVerdict.TheVariants.{Holds}
use Rattle.mp_audit.specs.Audited.{Audited}
use Rattle.mp_audit.specs.Failures.{verdict_on}
use Rattle.mp_audit.specs.Fits.{publics_of, AgentsFit, CertificateFits}
use Rattle.mp_audit.specs.LastCut.{last_bounds, noted_entries, said_by, worth}
use Rattle.mp_audit.proofs.HoldsLemmas.{holds_exactly}
use Rattle.mp_audit.proofs.PassingLemmas.{last_cut_fits, last_cut_passes}
use Rattle.mp_certify.specs.Certified.{solved_cost, IsCertificateOf}
use Rattle.mp_certify.specs.Latest.{latest, latest_bounds}
use Rattle.mp_certify.specs.Team.{AreOfTeam, IsOfTeam}
use Rattle.mp_certify.proofs.LatestLemmas.{latest_bounds_are}

-- ---- the messages under way do not tell which facts a token stands for

module _ (agents : List AgentRecord) (m n : Mail) where
  same_agents : (agent : ℕ) → agent_at (world_with agents m) agent ≡ agent_at (world_with agents n) agent
  same_agents zero = refl
  same_agents (suc k) = refl

  same_facts : (me : ℕ) (mine : Numbers) (x : ℕ × Tag) → private_facts (world_with agents m) me mine x ≡ private_facts (world_with agents n) me mine x
  same_facts me mine (agent, tag) =
      λ j. if agent == me then mine else set_at (option_map_or (λ (r : AgentRecord). tokens_given r.task r.search.kept) (same_agents agent j) []) tag.token

  same_worth : (cost agent : ℕ) (e : Entry AgentState) → worth (world_with agents m) cost agent e ≡ worth (world_with agents n) cost agent e
  same_worth cost agent e =
      λ j. (record { agent = agent; state = record { publics = e.key.publics; privates = map (λ x. same_facts agent e.key.mine x j) (enumerate_from 1 e.key.tags) } }, cost - e.g)

  same_bounds : (cost : ℕ) → latest_bounds (world_with agents m) cost ≡ latest_bounds (world_with agents n) cost
  same_bounds cost = λ j. flat_map (λ (r : AgentRecord). map (λ e. same_worth cost r.task.me e j) (latest cost (noted_entries r))) agents

-- ---- tasks

tasks_again : (machines : List AgentMachine) → tasks_of machines ≡ map (λ (r : AgentRecord). r.task) (map (λ (m : AgentMachine). m.done) machines)
tasks_again [] = refl
tasks_again (m ∷ ms) = ap (λ (ts : List AgentTask). m.done.task ∷ ts) (tasks_again ms)

publics_are : (tasks : List AgentTask) → ((t u : AgentTask) → Contains tasks t → Contains tasks u → SayAlike t u) → (t : AgentTask) → Contains tasks t → t.publics ≡ publics_of tasks
publics_are [] alike t here = absurd (no_member t here)
publics_are (u ∷ us) alike t here = (alike t u here (contains_head u us)).publics

-- ---- answers

some_steps : (a : Answer) (cost : ℕ) → solved_cost a ≡ Some cost → (steps : ℕ) × (a ≡ answers.Solved cost steps)
some_steps answers.Nothing cost is = absurd (none-some cost is)
some_steps (answers.Solved price steps) cost is =
    let same : price ≡ cost = same_Some price cost is in
    (steps, ap (λ (c : ℕ). answers.Solved c steps) same)
some_steps answers.Unsolvable cost is = absurd (none-some cost is)
some_steps answers.Undecided cost is = absurd (none-some cost is)

some_cost : (o : Option ℕ) → IsSome o → (cost : ℕ) × (o ≡ Some cost)
some_cost None is = absurd (false≢true is)
some_cost (Some cost) is = (cost, refl)

by_verdict : (r : AgentRecord) (v : Option Verdict) (cost : ℕ) → solved_cost (answer_by r.ending v) ≡ Some cost → proved_cost v ≡ Some cost
by_verdict r None cost is = absurd (none-some cost is)
by_verdict r (Some (Proved agent price)) cost is = is
by_verdict r (Some NoPlan) cost is = absurd (none-some cost is)
by_verdict r (Some (Spent agent)) cost is = absurd (none-some cost is)
by_verdict r (Some Continue) cost is = absurd (none-some cost is)

by_answer : (over : Bool) (o : Option AgentRecord) (cost : ℕ)
    → solved_cost (if over then option_map_or (λ r. answer_by r.ending (given_verdict r)) o answers.Nothing else answers.Nothing) ≡ Some cost
    → option_and_then (λ r. proved_cost (given_verdict r)) o ≡ Some cost
by_answer false o cost is = absurd (none-some cost is)
by_answer true None cost is = absurd (none-some cost is)
by_answer true (Some r) cost is = by_verdict r (given_verdict r) cost is

of_machine : (o : Option AgentMachine)
    → option_and_then (λ m. proved_cost (given_verdict m.done)) o ≡ option_and_then (λ r. proved_cost (given_verdict r)) (option_map (λ (m : AgentMachine). m.done) o)
of_machine None = refl
of_machine (Some m) = refl

module _ (machines : List AgentMachine) (w : World) (agents : map (λ m. m.done) machines ≡ w.agents) where
  -- what agent 1 has proved is what is answered
  pub proved : IsSome (solved_cost (answer_of w)) → (cost : ℕ) × (solved_cost (answer_of w) ≡ Some cost)
      × (option_and_then (λ m. proved_cost (given_verdict m.done)) (slice_get machines 0) ≡ Some cost)
  proved is =
      let cost = some_cost (solved_cost (answer_of w)) is in (
        cost.0,
        cost.1,
        of_machine (slice_get machines 0)
            ∙ ap (option_and_then (λ (r : AgentRecord). proved_cost (given_verdict r)))
            (sym (slice_get-map (λ (m : AgentMachine). m.done) machines 0) ∙ ap (λ (rs : List AgentRecord). slice_get rs 0) agents)
            ∙ by_answer (is_over w) (agent_at w 1) cost.0 cost.1,
      )

-- ---- the run

module _ (machines : List AgentMachine) (r : TeamRun) (is_team : MayRun r) (is_run : IsLogged nothing_known r) (agents : map (λ m. m.done) machines ≡ r.world.agents) where
  ran : IsRun (team_in nothing_known r) r.schedule r.world
  ran = is_run_of nothing_known r is_team is_run

  all : IsInvariantFor nothing_known r.tasks is_team.tasks IsAny r.world
  all =
      run_invariant (team_in nothing_known r) (record { tasks = is_team.tasks; most = is_team.most }) (knows_nothing IsAny r.tasks)
      r.schedule r.world is_run.leads

  tasks_are : tasks_of machines ≡ r.tasks
  tasks_are = tasks_again machines ∙ ap (map (λ (x : AgentRecord). x.task)) agents ∙ all.team.team

  as_many : length r.tasks ≡ length machines
  as_many = sym (ap length tasks_are) ∙ length-map machines (λ (m : AgentMachine). m.done.task)

  there : (k : ℕ) (m : AgentMachine) → slice_get machines k ≡ Some m → agent_at r.world (suc k) ≡ Some m.done
  there k m at =
      ap (λ (rs : List AgentRecord). slice_get rs k) (sym agents)
      ∙ slice_get-map (λ (m : AgentMachine). m.done) machines k
      ∙ ap (option_map (λ (m : AgentMachine). m.done)) at

  pub are_of_team : All IsFree machines → AreOfTeam machines
  are_of_team free = record {
    at_most = subst (λ (n : ℕ). n ≤ 16) as_many is_team.at_most;
    free = free;
    numbered = λ k m at.
        let next : suc k ≡ k + 1 = omega arith in
        me_is r.tasks is_team.tasks r.world all.team (suc k) m.done (there k m at) ∙ next;
    publics = λ k m at.
        publics_are r.tasks is_team.tasks.agree.alike m.done.task (task_in r.tasks is_team.tasks r.world all.team (suc k) m.done (there k m at))
        ∙ ap publics_of (sym tasks_are);
    tags = λ k n m e at entry.
        (states_known r.tasks is_team.tasks r.world all.team all.sound (suc k) n m.done e (there k m at) entry).number
        ∙ agents_are r.tasks is_team.tasks r.world all.team (suc k) m.done (there k m at)
        ∙ as_many;
  }

  bounds_are : (cost : ℕ) → latest_bounds (world_of machines []) cost ≡ last_bounds r.world cost
  bounds_are cost =
      same_bounds (map (λ (m : AgentMachine). m.done) machines) [] r.world.mail cost
      ∙ (λ j. latest_bounds (world_with (agents j) r.world.mail) cost)
      ∙ latest_bounds_are r.limit r.tasks r.schedule r.world cost ran

  -- a certificate of the run, and what is so of it
  pub record IsSound (certificate : Certificate) : Type 0 where
    pub certified : IsCertificateOf r.world certificate
    pub holds : verdict_on r.tasks certificate ≡ Holds
    pub fits : CertificateFits r.tasks certificate
    pub agents_fit : AgentsFit r.tasks certificate

  pub is_sound : (cost : ℕ) (bounds : List Bound) → solved_cost (answer_of r.world) ≡ Some cost
      → map said_by bounds ≡ latest_bounds (world_of machines []) cost
      → All (IsOfTeam (tasks_of machines)) bounds
      → IsSound (record { cost = cost; bounds = bounds })
  is_sound cost bounds solved said team =
      let certificate : Certificate = record { cost = cost; bounds = bounds } in
      let steps = some_steps (answer_of r.world) cost solved in
      let are : map said_by bounds ≡ last_bounds r.world cost = said ∙ bounds_are cost in
      let of : All (IsOfTeam r.tasks) bounds = subst (λ (ts : List AgentTask). All (IsOfTeam ts) bounds) tasks_are team in
      let audited : Audited r.tasks certificate =
      last_cut_passes r.limit r.tasks r.schedule r.world cost steps.0 certificate ran steps.1 refl are in
      let fit = last_cut_fits r.limit r.tasks r.schedule r.world cost steps.0 certificate ran steps.1 refl are in
      record {
        certified = record { cost_is = solved; bounds_are = are };
        holds = (holds_exactly r.tasks certificate (verdict_on r.tasks certificate) (agree_numbered r.tasks is_team.tasks.agree) refl).1 audited;
        fits = record {
          cost = fit.0;
          bounds = λ i d lt. record {
            positive = (fit.1 i d lt).0;
            small = (fit.1 i d lt).1;
            publics = (of i d lt).publics_fit;
            privates = (of i d lt).privates_fit;
          };
        };
        agents_fit = λ i d lt. (of i d lt).agent_number;
      }
