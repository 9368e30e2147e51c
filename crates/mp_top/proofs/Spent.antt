-- Where a team decided nothing, an agent has expanded as many entries as it may, and it is no agent that is alone, searches without a
-- heuristic and may expand as many as there are sets of its facts.
use Rattle.std.proofs.Common.{◌≡◌, ◌<◌, ◌≤◌, ◌+◌, ◌^◌, ◌⊎◌, inl, inr, ℕ, Bool, true, false, cond, List, [], ◌∷◌, length, map, All, Option, Some, None, refl, sym, ap, subst, ◌∙◌, arith}
use Rattle.std.specs.Prelude.{◌==◌, filter, if◌then◌else◌, slice_get}
use Rattle.std.specs.Option.{option_map_or}
use Rattle.std.proofs.lemmas.Option.{none-some, same_Some}
use Rattle.mp_forms.specs.declared.factor.Factor.{Factor}
use Rattle.mp_ground_laws.specs.Checked.{IsChecked}
use Rattle.mp_joint.specs.Fact.{Text}
use Rattle.mp_machine.specs.AgentRecord.{AgentRecord, given_verdict}
use Rattle.mp_machine.specs.declared.event.Ending.{Ending}
use Rattle.mp_messages.specs.History.{schedule}
use Rattle.mp_messages.specs.declared.history.Entry.{Entry}
use Rattle.mp_messages.specs.declared.history.Entry.TheVariants.{Act, Put, Took}
use Rattle.mp_messages.specs.declared.history.Event.{Event}
use Rattle.mp_messages.specs.declared.history.Kind.TheVariants.{Expand, Start}
use Rattle.mp_optimality.proofs.Tasks.{as_many_tasks, within}
use Rattle.mp_outside.specs.Source.{Files}
use Rattle.mp_snapshot.specs.declared.verdict.Verdict.{Verdict}
use Rattle.mp_snapshot.specs.declared.verdict.Verdict.TheVariants.{Continue, NoPlan, Proved, Spent}
use Rattle.mp_solutions.specs.Right.{IsRight}
use Rattle.mp_solutions.specs.Solution.{IsFound}
use Rattle.mp_solutions.specs.declared.solution.Solution.{Solution}
use Rattle.mp_split.specs.Team.{AreTasksOf}
use Rattle.mp_split.specs.declared.team.Tasks.{Tasks}
use Rattle.mp_stands.proofs.Files.{files_stand}
use Rattle.mp_task.specs.AgentTask.{AgentTask}
use Rattle.mp_task.specs.Limits.{IsWithinLimits}
use Rattle.mp_team_states.specs.Expansions.{nothing_known}
use Rattle.mp_team_verdicts.proofs.Alone.{few_if_spent}
use Rattle.mp_team_verdicts.proofs.Counts.{count_by, counted_in_runs}
use Rattle.mp_team_verdicts.specs.Right.{HasExpanded}
use Rattle.mp_words.specs.Requests.{Searching, Wanted, request_of}
use Rattle.mp_words.specs.Requests.Wanted.{audits, certifies, checks, makes, replays, solves}
use Rattle.mp_words.specs.declared.asked.Choice.{Choice}
use Rattle.mp_words.specs.declared.asked.Choice.TheVariants.{Blind}
use Rattle.mp_world.proofs.Mail.{agent_of_team}
use Rattle.mp_world.proofs.Runs.{run_of_team}
use Rattle.mp_world.proofs.Stepping.{team_size}
use Rattle.mp_world.specs.Answers.{answer_by, answer_of}
use Rattle.mp_world.specs.RoundRobin.{is_over}
use Rattle.mp_world.specs.Team.{IsTeam, most_expansions, team_with}
use Rattle.mp_world.specs.Values.{Values}
use Rattle.mp_world.specs.World.{World, agent_at}
use Rattle.mp_world.specs.declared.answer.Answer.{Answer}
use Rattle.mp_world.specs.declared.answer.Answer.TheVariants as answer
use Rattle.mp_top.specs.Asked.{KeepsLimits, texts_of, values_of}
use Rattle.mp_top.specs.Call.{Call}
use Rattle.mp_top.specs.Keeps.{FailsToPrint, IsRefusal, Keeps, PrintsOutcome}
use Rattle.mp_top.specs.Outcome.{IsOutcome, Searches, answer_status, reported}
use Rattle.mp_top.specs.Undecided.{HasSpent, IsSpent, MayExpandAll, expansions, is_expansion}
use Rattle.mp_top.specs.declared.report.Report.{Report}
use Rattle.mp_top.specs.declared.status.Status.TheVariants as status
use Rattle.mp_top.proofs.Ends.{ends_for, not_undecided}
use Rattle.mp_top.proofs.OfTwo.{few_agents, of_each, outcome_checked, outcome_found, outcome_status, outcome_team, outcome_text, outcome_within}
use Rattle.mp_top.proofs.OneTeam.{TeamLaw, team_of_both}
use Rattle.mp_top.proofs.WordLemmas.{request_keeps}

-- ---- expansions of a log are those of its schedule

one_more : (b : Bool) (e : Entry) (rest : List Entry) (n : ℕ) → length rest ≡ n → length (cond b (e ∷ rest) rest) ≡ (if b then 1 else 0) + n
one_more true e rest n h = omega arith
one_more false e rest n h = omega arith

count_log : (agent : ℕ) (log : List Entry) → expansions agent log ≡ count_by agent (schedule log)
count_log agent [] = refl
count_log agent (Act by Expand ∷ log) =
    one_more (by == agent) (Act by Expand) (filter (is_expansion agent) log) (count_by agent (schedule log)) (count_log agent log)
count_log agent (Act by Start ∷ log) = let rest = count_log agent log in omega arith
count_log agent (Put from to bytes ∷ log) = count_log agent log
count_log agent (Took by from bytes ∷ log) = let rest = count_log agent log in omega arith

-- ---- the verdict of a team that decided nothing

record HasSpentVerdict (w : World) : Type 0 where
  first : AgentRecord
  there : agent_at w 1 ≡ Some first
  agent : ℕ
  given : given_verdict first ≡ Some (Spent agent)

spent_by : (ending : Ending) (o : Option Verdict) → answer_by ending o ≡ answer.Undecided → (agent : ℕ) × (o ≡ Some (Spent agent))
spent_by ending None is = absurd (cc)
spent_by ending (Some (Proved agent cost)) is = absurd (cc)
spent_by ending (Some NoPlan) is = absurd (cc)
spent_by ending (Some (Spent agent)) is = (agent, refl)
spent_by ending (Some Continue) is = absurd (cc)

spent_of : (w : World) (o : Option AgentRecord) → agent_at w 1 ≡ o
    → option_map_or (λ r. answer_by r.ending (given_verdict r)) o answer.Nothing ≡ answer.Undecided → HasSpentVerdict w
spent_of w None there is = absurd (cc)
spent_of w (Some r) there is =
    let verdict = spent_by r.ending (given_verdict r) is in
    record { first = r; there = there; agent = verdict.0; given = verdict.1 }

spent_verdict : (w : World) → answer_of w ≡ answer.Undecided → HasSpentVerdict w
spent_verdict w = by (is_over w)
  where
    by : (over : Bool)
        → (if over then option_map_or (λ r. answer_by r.ending (given_verdict r)) (agent_at w 1) answer.Nothing else answer.Nothing) ≡ answer.Undecided
        → HasSpentVerdict w
    by true is = spent_of w (agent_at w 1) refl is
    by false is = absurd (cc)

-- ---- what was found without a decision

module _ (value : Values) (limit : ℕ) (team : List Factor) (events : List Event) (found : Solution)
    (is : IsFound value limit team events found) (undecided : found.answer ≡ answer.Undecided)
    (is_team : IsTeam (team_with value limit is.tasks.tasks))
  where
    over : is_over is.last ≡ true
    over = by (is_over is.last) refl
      where
        by : (b : Bool) → is_over is.last ≡ b → is_over is.last ≡ true
        by true e = e
        by false e = let none : found.answer ≡ answer.Nothing = (is.goes_on e).0 in absurd (cc)

    expanded : (agent : ℕ) × HasExpanded is.last agent limit
    expanded =
        let right = is.right over in
        subst (λ a. IsRight limit team is.last a right.plan) undecided right.right

    pub has_spent : length is.tasks.tasks ≡ length team → HasSpent (length team) limit found.log
    has_spent as_many =
        let agent = expanded.0 in
        let end = expanded.1 in
        let one = agent_of_team is.last agent end.who end.there in
        let size = team_size is.tasks.tasks is.last (run_of_team (team_with value limit is.tasks.tasks) events is.last is.leads) in
        let high = one.at_most in
        let counted = counted_in_runs (team_with value limit is.tasks.tasks) is_team events is.last is.leads agent end.who end.there in
        record {
          agent = agent;
          from_1 = one.from_1;
          in_team = omega (arith, high, size, as_many);
          spent =
              count_log agent found.log ∙ ap (count_by agent) is.logged ∙ sym counted.count ∙ end.expanded;
        }

-- the agent of the only task
only_agent : (rs : List AgentRecord) (r : AgentRecord) (t : AgentTask) → slice_get rs 0 ≡ Some r → map (λ (x : AgentRecord). x.task) rs ≡ t ∷ [] → r.task ≡ t
only_agent [] r t at is = absurd (none-some r at)
only_agent (x ∷ xs) r t at is =
    let one : x.task ≡ t = cc in
    ap (λ (y : AgentRecord). y.task) (sym (same_Some x r at)) ∙ one

-- an agent that is alone and searches without a heuristic
module _ (limit : ℕ) (team : List Factor) (events : List Event) (found : Solution)
    (is : IsFound nothing_known limit team events found) (undecided : found.answer ≡ answer.Undecided)
    (is_team : IsTeam (team_with nothing_known limit is.tasks.tasks))
  where
    pub few_expanded : (t : AgentTask) → is.tasks.tasks ≡ t ∷ [] → limit < 2 ^ (t.publics + t.privates)
    few_expanded t alone =
        let end = spent_verdict is.last (sym is.answer ∙ undecided) in
        let few = few_if_spent is.tasks.tasks is_team.tasks limit is_team (ap length alone) events is.last is.leads end.first end.agent end.there end.given in
        let members = run_of_team (team_with nothing_known limit is.tasks.tasks) events is.last is.leads in
        subst (λ (u : AgentTask). limit < 2 ^ (u.publics + u.privates)) (only_agent is.last.agents end.first t end.there (members.team ∙ alone)) few

-- ---- a request

few_entries : (request : Wanted) (s : Searching) → Searches request s → KeepsLimits request → s.limit ≤ most_expansions
few_entries (solves w) s is keeps = subst (λ (x : Searching). x.limit ≤ most_expansions) is keeps.work.limit
few_entries (replays w) s is keeps = subst (λ (x : Searching). x.limit ≤ most_expansions) is keeps.work.limit
few_entries (checks w) s is keeps = absurd is
few_entries (certifies w) s is keeps = subst (λ (x : Searching). x.limit ≤ most_expansions) is keeps.work.limit
few_entries (audits w) s is keeps = absurd is
few_entries (makes w) s is keeps = subst (λ (x : Searching). x.limit ≤ most_expansions) is keeps.work.limit

undecided_answer : (a : Answer) → status.Undecided ≡ answer_status a → a ≡ answer.Undecided
undecided_answer answer.Nothing is = absurd (cc)
undecided_answer (answer.Solved cost steps) is = absurd (cc)
undecided_answer answer.Unsolvable is = absurd (cc)
undecided_answer answer.Undecided is = refl

-- the law of mp_replays: the files of a team have one list of tasks
abbrev pub OneTasks : Type 0
OneTasks = (team : List Factor) (t u : Tasks) → All IsChecked team → AreTasksOf team t → AreTasksOf team u → u.tasks ≡ t.tasks

not_both : (n m : ℕ) → n < m → m ≤ n → ⊥
not_both n m less most = omega (arith, less, most)

module _ (law : TeamLaw) (one_tasks : OneTasks) (held : Option Files) (request : Wanted) (report : Report) (text : Text) (s : Searching)
    (keeps : KeepsLimits request) (is : Searches request s) (outcome : IsOutcome held request report status.Undecided text)
  where
    abbrev told : Text
    told = outcome_text held request report status.Undecided text outcome s is

    by_team : (events : List Event) × IsFound (values_of s.heuristic) s.limit outcome.team events (reported report told)
    by_team = outcome_found held request report status.Undecided text outcome s is

    checked : All IsChecked outcome.team
    checked = outcome_checked held request report status.Undecided text outcome

    nothing : report.answer ≡ answer.Undecided
    nothing = undecided_answer report.answer (outcome_status held request report status.Undecided text outcome s is)

    keep_limits : (t : Tasks) → AreTasksOf outcome.team t → All IsWithinLimits t.tasks
    keep_limits t are =
        within outcome.team t are (outcome_within held request report status.Undecided text outcome s is)
        (few_agents held request report status.Undecided text outcome keeps)

    few : s.heuristic ≡ Blind → MayExpandAll held (texts_of request) s.limit → ⊥
    few blind all =
        let found : IsFound nothing_known s.limit outcome.team by_team.0 (reported report told) =
        subst (λ (h : Choice). IsFound (values_of h) s.limit outcome.team by_team.0 (reported report told)) blind by_team.1 in
        let same : all.team ≡ outcome.team =
        team_of_both law held held (texts_of request) (texts_of request) outcome.team all.team (record { found = all.found; one = all.is_found; two = all.is_found })
        (outcome_team held request report status.Undecided text outcome) all.is_team in
        let their : AreTasksOf outcome.team all.tasks = subst (λ (t : List Factor). AreTasksOf t all.tasks) same all.are_tasks in
        let alone : found.tasks.tasks ≡ all.task ∷ [] = sym (one_tasks outcome.team found.tasks all.tasks checked found.are_tasks their) ∙ all.alone in
        not_both s.limit (2 ^ (all.task.publics + all.task.privates))
        (few_expanded s.limit outcome.team by_team.0 (reported report told) found nothing
        (record {
          tasks = record { agree = (files_stand outcome.team found.tasks checked found.are_tasks).2.agree; within = keep_limits found.tasks found.are_tasks };
          most = few_entries request s is keeps;
        }) all.task alone)
        all.room

    is_spent : IsSpent held (texts_of request) s report.log
    is_spent =
        let t = by_team.1.tasks in
        let are = by_team.1.are_tasks in
        record {
          agent =
              subst (λ n. HasSpent n s.limit report.log) (of_each held request report status.Undecided text outcome)
              (has_spent (values_of s.heuristic) s.limit outcome.team by_team.0 (reported report told) by_team.1 nothing
              (record {
                tasks = record { agree = (files_stand outcome.team t checked are).2.agree; within = keep_limits t are };
                most = few_entries request s is keeps;
              }) (as_many_tasks outcome.team t checked are));
          few = few;
        }

-- ---- a call

by_end : TeamLaw → OneTasks → (call : Call) (request : Wanted) (s : Searching) → KeepsLimits request → Searches request s → call.status ≡ status.Undecided → PrintsOutcome call request ⊎ FailsToPrint call request ⊎ IsRefusal call request → IsSpent call.source.held (texts_of request) s call.report.log
by_end law one_tasks call request s keeps searches undecided (inl (text, outcome, whole, same, says)) =
    is_spent law one_tasks call.source.held request call.report text s keeps searches
    (subst (λ e. IsOutcome call.source.held request call.report e text) undecided outcome)
by_end law one_tasks call request s keeps searches undecided (inr (inl (text, ended, outcome, begun, risen, is, says))) = absurd (cc)
by_end law one_tasks call request s keeps searches undecided (inr (inr (_, (r, rests, is, says)))) =
    absurd (not_undecided r (sym is ∙ undecided))

pub call_spent : TeamLaw → OneTasks → (call : Call) (request : Wanted) (s : Searching) → Keeps call → request_of call.words ≡ Some request → Searches request s → call.status ≡ status.Undecided → IsSpent call.source.held (texts_of request) s call.report.log
call_spent law one_tasks call request s keeps asked searches undecided =
    by_end law one_tasks call request s (request_keeps call.words request asked) searches undecided (ends_for call request asked keeps)
