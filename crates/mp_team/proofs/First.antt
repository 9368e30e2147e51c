-- A team at the start: each machine is new, and each node fits its party.
use Rattle.std.proofs.Common.{◌≡◌, ℕ, zero, suc, ◌<◌, ◌≤◌, ◌⊎◌, inl, inr, List, [], ◌∷◌, length, map, get_or, Some, None, refl, sym, ap, ◌∙◌, arith, subst}
use Rattle.std.specs.Prelude.{replicate}
use Rattle.std.specs.List.{range_with_len}
use Rattle.std.proofs.lemmas.List.{get_or-map, get_or-replicate, get_or_past, length-map, length-replicate}
use Rattle.std.proofs.lemmas.List.Elements.{All-contains, All-nil}
use Rattle.mp_task.specs.Agreement.{FitsTeam}
use Rattle.mp_task.specs.AgentTask.{AgentTask}
use Rattle.mp_task.proofs.Agreeing.{number_at}
use Rattle.mp_machine.specs.AgentRecord.{new_record}
use Rattle.mp_machine.specs.Machine.{AgentMachine}
use Rattle.mp_nodes.specs.Nodes.{AreServed, IsNode, IsPlaceAt, node_at}
use Rattle.mp_post_rule.specs.Queues.{IsSignable}
use Rattle.mp_post_rule.specs.Views.{first_view, new_party}
use Rattle.mp_schedule.specs.Machines.{AreNew, limit_of, new_machine, tasks_of}
use Rattle.mp_world.specs.Logs.{HasDone}
use Rattle.mp_world.specs.Values.{Values}
use Rattle.mp_team.specs.Machines.{first_node, first_places}

-- the machine of a place
pub item : {X : Type 0} (xs : List X) (k : ℕ) → k < length xs → (x : X) × (get_or xs k x ≡ x)
item [] k inside = absurd (omega arith)
item (x ∷ xs) zero inside = (x, refl)
item (x ∷ xs) (suc k) inside = item xs k (omega arith)

below : (k n : ℕ) → (k < n) ⊎ (n ≤ k)
below k zero = inr (omega arith)
below zero (suc n) = inl (omega arith)
below (suc k) (suc n) = further (below k n)
  where
    further : (k < n) ⊎ (n ≤ k) → (suc k < suc n) ⊎ (suc n ≤ suc k)
    further (inl h) = inl (omega arith)
    further (inr h) = inr (omega arith)

map_twice : (ms : List AgentMachine) → map (λ (t : AgentTask). t.me) (tasks_of ms) ≡ map (λ m. m.done.task.me) ms
map_twice [] = refl
map_twice (m ∷ ms) = ap (λ l. m.done.task.me ∷ l) (map_twice ms)

module _ (value : Values) (ms : List AgentMachine) (new : AreNew value ms) where
  pub many_tasks : length (tasks_of ms) ≡ length ms
  many_tasks = length-map ms (λ m. m.done.task)

  pub numbers : map (λ m. m.done.task.me) ms ≡ range_with_len 1 (length ms)
  numbers = sym (map_twice ms) ∙ (new.tasks.agree.numbered ∙ ap (range_with_len 1) many_tasks)

  module _ (k : ℕ) (inside : k < length ms) (m : AgentMachine) (here : get_or ms k m ≡ m) where
    pub is_new : m ≡ new_machine value (limit_of ms) m.done.task
    is_new = All-contains (λ n. n ≡ new_machine value (limit_of ms) n.done.task) ms m new.new (k, inside, here)

    in_tasks : k < length (tasks_of ms)
    in_tasks = let e = many_tasks in omega arith

    pub task_here : get_or (tasks_of ms) k m.done.task ≡ m.done.task
    task_here = get_or-map (λ (n : AgentMachine). n.done.task) ms k m m.done.task inside ∙ ap (λ (n : AgentMachine). n.done.task) here

    pub number : m.done.task.me ≡ suc k
    number = number_at (tasks_of ms) new.tasks.agree.numbered k m.done.task in_tasks task_here

    pub team : m.done.task.agents ≡ length ms
    team = (All-contains (FitsTeam (tasks_of ms)) (tasks_of ms) m.done.task new.tasks.agree.team (k, in_tasks, task_here)).agents ∙ many_tasks

    pub limit : m.done.limit ≡ limit_of ms
    limit = ap (λ (n : AgentMachine). n.done.limit) is_new

    pub place_here : get_or (first_places ms) k None ≡ Some (first_node m)
    place_here = get_or-map (λ (n : AgentMachine). Some (first_node n)) ms k m None inside ∙ ap (λ (n : AgentMachine). Some (first_node n)) here

    has_done : HasDone (value m.done.task) (new_record m.done.task (value m.done.task) m.done.limit) [] m.done
    has_done =
        let same : new_record m.done.task (value m.done.task) m.done.limit ≡ m.done =
        ap (new_record m.done.task (value m.done.task)) limit ∙ sym (ap (λ (n : AgentMachine). n.done) is_new)
        in
        subst (HasDone (value m.done.task) (new_record m.done.task (value m.done.task) m.done.limit) []) same
        (HasDone.nothing (new_record m.done.task (value m.done.task) m.done.limit))

    pub fits : (agents : ℕ) → agents ≡ length ms → IsNode value agents (suc k) new_party (first_node m)
    fits agents count = record {
      of_team = record { from_1 = omega arith; at_most = omega arith };
      me = number;
      team = team ∙ sym count;
      unmarked = refl;
      free = ap (λ (n : AgentMachine). n.stopped) is_new;
      done = has_done;
      batch = All-nil (IsSignable agents (suc k));
    }

  module _ (agents : ℕ) (count : agents ≡ length ms) where
    in_place : (k : ℕ) → (k < length ms) ⊎ (length ms ≤ k) → IsPlaceAt value agents (suc k) (first_view agents) (get_or (first_places ms) k None)
    in_place k (inl inside) =
        let m = item ms k inside in
        subst (IsPlaceAt value agents (suc k) (first_view agents)) (sym (place_here k inside m.0 m.1))
        (record {
          party = new_party;
          held = get_or-replicate agents k (Some new_party) None (omega arith);
          fits = fits k inside m.0 m.1 agents count;
        })
    in_place k (inr past) =
        let many = length-map ms (λ n. Some (first_node n)) in
        let all = length-replicate agents (Some new_party) in
        subst (IsPlaceAt value agents (suc k) (first_view agents)) (sym (get_or_past (first_places ms) k None (omega arith)))
        (get_or_past (replicate agents (Some new_party)) k None (omega arith))

    each : (agent : ℕ) → IsPlaceAt value agents agent (first_view agents) (node_at (first_places ms) agent)
    each zero = refl
    each (suc k) = in_place k (below k (length ms))

    pub first_served : AreServed value agents (first_places ms) (first_view agents)
    first_served = record { many = length-map ms (λ n. Some (first_node n)) ∙ sym count; each = each }
