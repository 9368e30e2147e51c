-- A team at the end: what its nodes and its desk say of the log.
use Rattle.std.proofs.Common.{◌≡◌, ℕ, zero, suc, ◌<◌, ◌&&◌, not, true, List, [], ◌∷◌, ◌++◌, length, map, get_or, Some, None, refl, sym, ap, ◌∙◌, arith, subst}
use Rattle.std.specs.Prelude.{◌==◌, All, Contains, Option, slice_get}
use Rattle.std.specs.List.{list_all}
use Rattle.std.specs.Option.{option_map, option_map_or}
use Rattle.std.proofs.lemmas.Bool.{and_parts, eqb-true}
use Rattle.std.proofs.lemmas.List.{append-nil, get_or-map, nil_from_length}
use Rattle.std.proofs.lemmas.List.Elements.{All-weaker}
use Rattle.std.proofs.lemmas.Option.{none-some, same_Some}
use Rattle.mp_task.specs.AgentTask.{AgentTask}
use Rattle.mp_task.proofs.Agreeing.{number_at}
use Rattle.mp_messages.specs.declared.history.Entry.{Entry}
use Rattle.mp_messages.specs.History.{IsHistory, agent_of, part, schedule}
use Rattle.mp_machine.specs.AgentRecord.{AgentRecord, is_going, new_record}
use Rattle.mp_machine.specs.Machine.{AgentMachine}
use Rattle.mp_logs.specs.Parts.{IsLogOfParts, IsOwned, IsTeamHistory}
use Rattle.mp_nodes.specs.Nodes.{AreSameAgents, AreServed, IsNodeAt, IsPlaceAt, Orders, SeenNode, has_ended, have_ended, node_at, orders}
use Rattle.mp_nodes.specs.Served.{AllEnded}
use Rattle.mp_post_rule.specs.Views.{list_at, list_in}
use Rattle.mp_post_rule.specs.declared.view.View.{View}
use Rattle.mp_schedule.specs.Machines.{AreNew, limit_of, tasks_of}
use Rattle.mp_stamps.specs.Lists.{IsAgentOf, entries}
use Rattle.mp_world.specs.Events.{run}
use Rattle.mp_world.specs.Logs.{HasDone, IsLog}
use Rattle.mp_world.specs.Team.{team_with}
use Rattle.mp_world.specs.Values.{Values}
use Rattle.mp_world.specs.World.{AreNumbered, agent_at}
use Rattle.mp_world.proofs.Agents.{agree_numbered}
use Rattle.mp_world.proofs.Runs.{run_of_team}
use Rattle.mp_world.proofs.Stepping.{team_size}
use Rattle.mp_team.specs.Finished.{HasFinished}
use Rattle.mp_team.specs.Kept.{Places}
use Rattle.mp_team.specs.Machines.{first_node, first_places, machines_in}
use Rattle.mp_team.specs.declared.ending.Finished.{Finished}
use Rattle.mp_team.proofs.First.{item, limit, many_tasks, number, place_here, task_here}

mapped : (x : Option SeenNode) (o : Orders) → option_map orders x ≡ Some o → (n : SeenNode) × (x ≡ Some n) × (orders n ≡ o)
mapped None o e = absurd (none-some o e)
mapped (Some n) o e = (n, refl, same_Some (orders n) o e)

-- ---- the machines in the places

pub machines_step : (x : Option SeenNode) (xs : Places) → machines_in (x ∷ xs) ≡ machines_in (x ∷ []) ++ machines_in xs
machines_step None xs = refl
machines_step (Some n) xs = refl

same_tasks : (nodes : Places) (ms : List AgentMachine) → length nodes ≡ length ms
    → ((k : ℕ) → option_map orders (get_or nodes k None) ≡ option_map orders (get_or (first_places ms) k None))
    → tasks_of (machines_in nodes) ≡ tasks_of ms
same_tasks [] [] many same = refl
same_tasks [] (m ∷ ms) many same = absurd (omega arith)
same_tasks (x ∷ nodes) [] many same = absurd (omega arith)
same_tasks (None ∷ nodes) (m ∷ ms) many same = absurd (none-some (orders (first_node m)) (same zero))
same_tasks (Some n ∷ nodes) (m ∷ ms) many same =
    let first : n.machine.done.task ≡ m.done.task = ap (λ (o : Orders). o.task) (same_Some (orders n) (orders (first_node m)) (same zero)) in
    λ i. first i ∷ same_tasks nodes ms (omega arith) (λ k. same (suc k)) i

records_are : (rs : List AgentRecord) (nodes : Places) → length rs ≡ length nodes
    → ((k : ℕ) → k < length rs → (n : SeenNode) × (get_or nodes k None ≡ Some n) × (slice_get rs k ≡ Some n.machine.done))
    → rs ≡ map (λ m. m.done) (machines_in nodes)
records_are [] [] many each = refl
records_are [] (x ∷ nodes) many each = absurd (omega arith)
records_are (r ∷ rs) [] many each = absurd (omega arith)
records_are (r ∷ rs) (None ∷ nodes) many each =
    let first = each zero (omega arith) in absurd (none-some first.0 first.1)
records_are (r ∷ rs) (Some n ∷ nodes) many each =
    let first = each zero (omega arith) in
    let node : n ≡ first.0 = same_Some n first.0 first.1 in
    let is : r ≡ n.machine.done = same_Some r first.0.machine.done first.2 ∙ ap (λ (x : SeenNode). x.machine.done) (sym node) in
    λ i. is i ∷ records_are rs nodes (omega arith) (λ k inside. each (suc k) (omega arith)) i

-- ---- all have ended

all_over : (nodes : Places) → have_ended nodes ≡ true → list_all (λ r. not (is_going r.ending)) (map (λ m. m.done) (machines_in nodes)) ≡ true
all_over [] ended = refl
all_over (None ∷ nodes) ended = all_over nodes ended
all_over (Some n ∷ nodes) ended =
    let both = and_parts (has_ended n) (have_ended nodes) ended in
    let first = and_parts (not (is_going n.machine.done.ending)) (length n.batch == 0) both.0 in
    λ i. first.0 i && all_over nodes both.1 i

ended_at : (nodes : Places) (k : ℕ) (n : SeenNode) → have_ended nodes ≡ true → get_or nodes k None ≡ Some n → has_ended n ≡ true
ended_at [] k n ended here = absurd (none-some n here)
ended_at (x ∷ nodes) zero n ended here =
    ap (λ y. option_map_or has_ended y true) (sym here) ∙ (and_parts (option_map_or has_ended x true) (have_ended nodes) ended).0
ended_at (x ∷ nodes) (suc k) n ended here =
    ended_at nodes k n (and_parts (option_map_or has_ended x true) (have_ended nodes) ended).1 here

nothing_left : (nodes : Places) (k : ℕ) (n : SeenNode) → have_ended nodes ≡ true → get_or nodes k None ≡ Some n → n.batch ≡ []
nothing_left nodes k n ended here =
    let both = and_parts (not (is_going n.machine.done.ending)) (length n.batch == 0) (ended_at nodes k n ended here) in
    nil_from_length n.batch (eqb-true (length n.batch) 0 both.1)

module _ (value : Values) where
  pub moved : (t u : AgentTask) (l m : ℕ) (g h : List Entry) (r s : AgentRecord) → t ≡ u → l ≡ m → g ≡ h → r ≡ s
      → HasDone (value t) (new_record t (value t) l) g r → HasDone (value u) (new_record u (value u) m) h s
  moved t u l m g h r s task limits logs last done =
      subst (λ (x : AgentTask). HasDone (value x) (new_record x (value x) m) h s) task
      (subst (λ (x : ℕ). HasDone (value t) (new_record t (value t) x) h s) limits
      (subst (λ (x : List Entry). HasDone (value t) (new_record t (value t) l) x s) logs
      (subst (HasDone (value t) (new_record t (value t) l) g) last done)))

  module _ (ms : List AgentMachine) (new : AreNew value ms) (nodes : Places) (agents : ℕ) (count : agents ≡ length ms)
      (same : AreSameAgents (first_places ms) nodes) where
    -- a node of the team
    pub record IsMember (k : ℕ) (n : SeenNode) : Type 0 where
      pub there : get_or nodes k None ≡ Some n
      pub machine : AgentMachine
      pub here : get_or ms k machine ≡ machine
      pub orders_are : orders n ≡ orders (first_node machine)

    pub member : (k : ℕ) → k < length ms → (n : SeenNode) × IsMember k n
    member k inside =
        let m = item ms k inside in
        let e = same (suc k) ∙ ap (option_map orders) (place_here value ms new k inside m.0 m.1) in
        let found = mapped (get_or nodes k None) (orders (first_node m.0)) e in
        (found.0, record { there = found.1; machine = m.0; here = m.1; orders_are = found.2 })

    -- the node of the agent of a task
    pub record IsNodeFor (t : AgentTask) : Type 0 where
      pub place : ℕ
      pub inside : place < length ms
      pub node : SeenNode
      pub member : IsMember place node
      pub me : t.me ≡ suc place
      pub own : node.machine.done.task ≡ t
      pub limits : node.machine.done.limit ≡ limit_of ms

    pub node_for : (t : AgentTask) → Contains (tasks_of ms) t → IsNodeFor t
    node_for t (k, inside, here) =
        let many = many_tasks value ms new in
        let low : k < length ms = omega arith in
        let found = member k low in
        let is = found.1 in
        let task : is.machine.done.task ≡ t =
        sym (get_or-map (λ (m : AgentMachine). m.done.task) ms k is.machine t low ∙ ap (λ (m : AgentMachine). m.done.task) is.here) ∙ here in
        record {
          place = k;
          inside = low;
          node = found.0;
          member = is;
          me = number_at (tasks_of ms) new.tasks.agree.numbered k t inside here;
          own = ap (λ (o : Orders). o.task) is.orders_are ∙ task;
          limits = ap (λ (o : Orders). o.limit) is.orders_are ∙ limit value ms new k low is.machine is.here;
        }

    -- the node of a place goes on, and fits its party
    pub node_of : (view : View) → AreServed value agents nodes view → (k : ℕ) (n : SeenNode) → IsMember k n
        → IsNodeAt value agents (suc k) view n
    node_of view served k n is = subst (IsPlaceAt value agents (suc k) view) is.there (served.each (suc k))

    module _ (log : List Entry) (legal : IsHistory log) (owned : All (λ e. IsAgentOf agents (agent_of e)) log) where
      pub history : IsTeamHistory (tasks_of ms) log
      history = record {
        history = legal;
        owned = All-weaker (λ e. IsAgentOf agents (agent_of e)) (IsOwned (length (tasks_of ms)))
            (λ e of. let many = many_tasks value ms new in let high = of.at_most in (of.from_1, omega arith)) log owned;
      }

    module _ (view : View) (all : AllEnded value agents nodes view) (log : List Entry) (legal : IsHistory log)
        (parts : (agent : ℕ) → IsAgentOf agents agent → part log agent ≡ entries (list_at view agent))
        (owned : All (λ e. IsAgentOf agents (agent_of e)) log) where
      abbrev tasks : List AgentTask
      tasks = tasks_of ms

      abbrev limit_is : ℕ
      limit_is = limit_of ms

      -- what an agent has done
      abbrev pub record_of : AgentTask → AgentRecord
      record_of t = option_map_or (λ n. n.machine.done) (node_at nodes t.me) (new_record t (value t) limit_is)

      pub numbered : AreNumbered tasks
      numbered = agree_numbered tasks new.tasks.agree

      record_is : (k : ℕ) (n : SeenNode) → IsMember k n → (t : AgentTask) → t.me ≡ suc k → record_of t ≡ n.machine.done
      record_is k n is t me =
          ap (λ x. option_map_or (λ (y : SeenNode). y.machine.done) x (new_record t (value t) limit_is)) (ap (node_at nodes) me ∙ is.there)

      pub done_all : (t : AgentTask) → Contains tasks t → HasDone (value t) (new_record t (value t) limit_is) (part log t.me) (record_of t)
      done_all t contains =
          let found = node_for t contains in
          let n = found.node in
          let there = found.inside in
          let node = node_of view all.served found.place n found.member in
          let batch = nothing_left nodes found.place n all.ended found.member.there in
          let signed : part log t.me ≡ entries node.party.list =
          ap (part log) found.me
          ∙ (parts (suc found.place) (record { from_1 = omega arith; at_most = omega arith }) ∙ ap (λ p. entries (list_in p)) node.held) in
          moved n.machine.done.task t n.machine.done.limit limit_is (entries node.party.list ++ n.batch) (part log t.me) n.machine.done (record_of t)
          found.own found.limits (ap (λ b. entries node.party.list ++ b) batch ∙ (append-nil (entries node.party.list) ∙ sym signed))
          (sym (record_is found.place n found.member t found.me)) node.fits.done

      module _ {H : Type 0} (f : Finished H) (machines : f.machines.items ≡ machines_in nodes) (log_is : f.log ≡ log)
          (made : IsLogOfParts (team_with value limit_is tasks) log record_of) where
        many_nodes : length nodes ≡ length ms
        many_nodes = all.served.many ∙ count

        many_last : length made.last.agents ≡ length ms
        many_last = team_size tasks made.last (run_of_team (team_with value limit_is tasks) (schedule log) made.last made.runs) ∙ many_tasks value ms new

        last_is : made.last.agents ≡ map (λ m. m.done) (machines_in nodes)
        last_is = records_are made.last.agents nodes (many_last ∙ sym many_nodes) each
          where
            each : (k : ℕ) → k < length made.last.agents
                → (n : SeenNode) × (get_or nodes k None ≡ Some n) × (slice_get made.last.agents k ≡ Some n.machine.done)
            each k inside =
                let many = many_last in
                let low : k < length ms = omega arith in
                let found = member k low in
                let n = found.0 in
                let is = found.1 in
                let t = is.machine.done.task in
                let all_many = many_tasks value ms new in
                let me = number value ms new k low is.machine is.here in
                let there = made.agents t (k, omega arith, task_here value ms new k low is.machine is.here) in
                (n, is.there, ap (agent_at made.last) (sym me) ∙ (there ∙ ap Some (record_is k n is t me)))

        machines_are : made.last.agents ≡ map (λ m. m.done) f.machines.items
        machines_are = last_is ∙ ap (map (λ (m : AgentMachine). m.done)) (sym machines)

        pub has_finished : HasFinished value limit_is tasks f
        has_finished = record {
          tasks_are = ap tasks_of machines ∙ same_tasks nodes ms many_nodes (λ k. same (suc k));
          is_log = subst (IsLog (team_with value limit_is tasks)) (sym log_is) made.is_log;
          last = made.last;
          leads = ap (λ l. run (team_with value limit_is tasks) (schedule l)) log_is ∙ made.runs;
          agents = machines_are;
          over = ap (list_all (λ (r : AgentRecord). not (is_going r.ending))) last_is ∙ all_over nodes all.ended;
        }
