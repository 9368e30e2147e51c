-- A team whose agents were all served, and for none of whom memory ran out: no message is a bad one. So nobody was halted, and
-- all agents have ended.
use Rattle.std.proofs.Common.{◌≡◌, ◌⊎◌, inl, inr, ℕ, zero, suc, ◌<◌, true, false, List, [], ◌∷◌, ◌++◌, length, get_or, Some, None, Err, refl, sym, ap, ◌∙◌, arith, subst}
use Rattle.std.specs.Prelude.{Contains, IfSome, Option}
use Rattle.std.proofs.lemmas.Bool.{false≢true}
use Rattle.std.proofs.lemmas.List.{append-nil}
use Rattle.std.proofs.lemmas.List.Elements.{All-nil, All-weaker}
use Rattle.std.proofs.lemmas.Option.{none-some, same_Some}
use Rattle.atomic_table.specs.Seated.{TableId}
use Rattle.mp_task.specs.AgentTask.{AgentTask}
use Rattle.mp_messages.specs.declared.history.Entry.{Entry}
use Rattle.mp_messages.specs.declared.history.Entry.TheVariants.{Act, Put, Took}
use Rattle.mp_messages.specs.History.{part}
use Rattle.mp_machine.specs.AgentRecord.{new_record}
use Rattle.mp_machine.specs.LocalStep.{local}
use Rattle.mp_machine.specs.Machine.{AgentMachine}
use Rattle.mp_machine.specs.declared.event.Local.TheVariants as locals
use Rattle.mp_world.specs.Values.{Values}
use Rattle.mp_logs.specs.Served.{HasServed, Served, is_receipt}
use Rattle.mp_nodes.specs.Nodes.{AreSameAgents, AreServed, IsNodeAt, IsPlaceAt, SeenNode, have_ended, node_at}
use Rattle.mp_nodes.specs.Served.{AllEnded}
use Rattle.mp_nodes.specs.Steps.{IsBadAt, IsSeenHalted}
use Rattle.mp_nodes.specs.declared.served.Served.{Served as Answer}
use Rattle.mp_nodes.specs.declared.served.Served.TheVariants as answers
use Rattle.mp_post_rule.specs.Kinds.{HoldsAll}
use Rattle.mp_post_rule.specs.Queues.{IsSignable}
use Rattle.mp_post_rule.specs.Views.{list_at, list_in, party_at}
use Rattle.mp_post_rule.specs.declared.view.Party.{Party}
use Rattle.mp_post_rule.specs.declared.view.View.{View}
use Rattle.mp_schedule.specs.Machines.{limit_of, tasks_of}
use Rattle.mp_stamps.specs.Lists.{IsAgentOf, entries}
use Rattle.mp_team.specs.Kept.{Places}
use Rattle.mp_team.specs.Machines.{first_places}
use Rattle.mp_team.specs.Works.{AreAllAnswered, AreHere, IsAnsweredAt, IsFoundOut, is_ended, lacks_memory}
use Rattle.mp_team.specs.declared.work.Answered.{Answered}
use Rattle.mp_team.proofs.Ended.{IsMember, member, moved, node_for, node_of}
use Rattle.mp_team.proofs.First.{item, many_tasks, number, task_here}
use Rattle.mp_team.proofs.Keeping.{kept_agents}

true-false : true ≡ false → ⊥
true-false e = cc

-- what is not signed are no receipts
no_receipt : (agents agent : ℕ) (e : Entry) → IsSignable agents agent e → is_receipt e ≡ false
no_receipt agents agent (Act by kind) is = refl
no_receipt agents agent (Put from to bytes) is = refl
no_receipt agents agent (Took by from bytes) is = absurd is

module _ {H : Type 0} (value : Values) (table : TableId) (agents : ℕ) (ms : List AgentMachine)
    (a : Answered H) (all : AreAllAnswered value table agents ms a) (enough : lacks_memory a.served ≡ false) where
  abbrev nodes : Places
  nodes = a.work.nodes

  abbrev view : View
  view = a.work.desk.view

  pub here : AreHere value table agents (first_places ms ∷ []) a.work
  here = all.answered.here enough

  pub same : AreSameAgents (first_places ms) nodes
  same = kept_agents (first_places ms) nodes here.kept

  -- the place of an agent of the team has a node
  there_is : (k : ℕ) → k < length ms → (n : SeenNode) × IsMember value ms all.new nodes agents all.count same k n
  there_is k inside = member value ms all.new nodes agents all.count same k inside

  -- all parties are held
  pub holds : HoldsAll agents view
  holds = record { many = all.answered.desk.many; each = each }
    where
      party : (agent : ℕ) (place : Option SeenNode) (n : SeenNode) → place ≡ Some n → IsAnsweredAt value agents agent view place
          → (p : Party) × (party_at view agent ≡ Some p)
      party agent None n there is = absurd (none-some n there)
      party agent (Some m) n there (inl at) = (at.party, at.held)
      party agent (Some m) n there (inr at) = (at.party, at.held)

      each : (agent : ℕ) → IsAgentOf agents agent → (p : Party) × (party_at view agent ≡ Some p)
      each zero of = let low = of.from_1 in absurd (omega arith)
      each (suc k) of =
          let high = of.at_most in
          let count = all.count in
          let n = there_is k (omega arith) in
          party (suc k) (get_or nodes k None) n.0 n.1.there (here.each (suc k))

  abbrev limit_is : ℕ
  limit_is = limit_of ms

  -- what an agent has done, by its node and its party
  abbrev pub served_at : (t : AgentTask) (agent : ℕ) (place : Option SeenNode) → IsAnsweredAt value agents agent view place → Served
  served_at t agent None is = record { signed = []; unsigned = []; last = new_record t (value t) limit_is; bad = None }
  served_at t agent (Some n) (inl at) =
      record { signed = entries at.party.list; unsigned = n.batch; last = n.machine.done; bad = None }
  served_at t agent (Some n) (inr at) = record {
    signed = at.is_bad.before;
    unsigned = [];
    last = n.machine.done;
    bad = Some (record { from = at.is_bad.from; bytes = at.is_bad.bytes });
  }

  abbrev pub served_of : AgentTask → Served
  served_of t = served_at t t.me (node_at nodes t.me) (here.each t.me)

  module _ (log : List Entry) (parts : (agent : ℕ) → IsAgentOf agents agent → part log agent ≡ entries (list_at view agent)) where
    has_at : (k : ℕ) (n : SeenNode) (t : AgentTask) → k < length ms → t.me ≡ suc k → n.machine.done.task ≡ t
        → n.machine.done.limit ≡ limit_is → (place : Option SeenNode) (is : IsAnsweredAt value agents (suc k) view place) → place ≡ Some n
        → HasServed value limit_is t (part log t.me) (served_at t (suc k) place is)
    has_at k n t inside me own limits None is there = absurd (none-some n there)
    has_at k n t inside me own limits (Some m) is there = by is
      where
        same_node : m ≡ n
        same_node = same_Some m n there

        task : m.machine.done.task ≡ t
        task = ap (λ (x : SeenNode). x.machine.done.task) same_node ∙ own

        limit_there : m.machine.done.limit ≡ limit_is
        limit_there = ap (λ (x : SeenNode). x.machine.done.limit) same_node ∙ limits

        signed : (p : Party) → party_at view (suc k) ≡ Some p → part log t.me ≡ entries p.list
        signed p held =
            let count = all.count in
            ap (part log) me
            ∙ (parts (suc k) (record { from_1 = omega arith; at_most = omega arith }) ∙ ap (λ o. entries (list_in o)) held)

        by : (at : IsNodeAt value agents (suc k) view m ⊎ IsBadAt value agents (suc k) view m)
            → HasServed value limit_is t (part log t.me) (served_at t (suc k) (Some m) at)
        by (inl at) = record {
          own_is = signed at.party at.held ∙ sym (append-nil (entries at.party.list));
          no_receipts = All-weaker (IsSignable agents (suc k)) (λ e. is_receipt e ≡ false) (no_receipt agents (suc k)) m.batch at.fits.batch;
          done = moved value m.machine.done.task t m.machine.done.limit limit_is (entries at.party.list ++ m.batch)
              (entries at.party.list ++ m.batch) m.machine.done m.machine.done task limit_there refl refl at.fits.done;
          bad = tt;
        }
        by (inr at) =
            let found = at.is_bad in record {
              own_is = signed at.party at.held
                  ∙ (found.list ∙ ap (λ (x : ℕ). found.before ++ Took x found.from found.bytes ∷ []) (sym me));
              no_receipts = All-nil (λ e. is_receipt e ≡ false);
              done = moved value m.machine.done.task t m.machine.done.limit limit_is found.before (found.before ++ []) m.machine.done
                  m.machine.done task limit_there (sym (append-nil found.before)) refl found.done;
              bad = (
                found.may,
                (
                  found.kind,
                  subst (λ (x : AgentTask). local (value x) m.machine.done (locals.Take found.from) found.bytes ≡ Err found.kind) task found.bad,
                ),
              );
            }

    pub has_served : (t : AgentTask) → Contains (tasks_of ms) t → HasServed value limit_is t (part log t.me) (served_of t)
    has_served t contains =
        let found = node_for value ms all.new nodes agents all.count same t contains in
        subst (λ (x : ℕ). HasServed value limit_is t (part log t.me) (served_at t x (node_at nodes x) (here.each x))) (sym found.me)
        (has_at found.place found.node t found.inside found.me found.own found.limits (get_or nodes found.place None)
        (here.each (suc found.place)) found.member.there)

  module _ (none_bad : (t : AgentTask) → Contains (tasks_of ms) t → (served_of t).bad ≡ None) where
    not_bad_at : (agent : ℕ) → IsAgentOf agents agent
        → (t : AgentTask) × ((served_at t agent (node_at nodes agent) (here.each agent)).bad ≡ None)
    not_bad_at zero of = let low = of.from_1 in absurd (omega arith)
    not_bad_at (suc k) of =
        let high = of.at_most in
        let count = all.count in
        let inside : k < length ms = omega arith in
        let many = many_tasks value ms all.new in
        let m = item ms k inside in
        let t = m.0.done.task in
        let me : t.me ≡ suc k = number value ms all.new k inside m.0 m.1 in (
          t,
          subst (λ (x : ℕ). (served_at t x (node_at nodes x) (here.each x)).bad ≡ None) me
              (none_bad t (k, omega arith, task_here value ms all.new k inside m.0 m.1)),
        )

    goes_on : (agent : ℕ) (place : Option SeenNode) (is : IsAnsweredAt value agents agent view place)
        → (IsAgentOf agents agent → (t : AgentTask) × ((served_at t agent place is).bad ≡ None)) → IsPlaceAt value agents agent view place
    goes_on agent None is none = is
    goes_on agent (Some n) (inl at) none = at
    goes_on agent (Some n) (inr at) none =
        absurd (none-some (record { from = at.is_bad.from; bytes = at.is_bad.bytes }) (sym (none at.is_bad.of_team).1))

    served : AreServed value agents nodes view
    served = record {
      many = here.many;
      each = λ agent. goes_on agent (node_at nodes agent) (here.each agent) (not_bad_at agent);
    }

    -- nobody was halted
    not_halted : (agent : ℕ) → IsSeenHalted agents agent view → ⊥
    not_halted zero is = let low = is.of_team.from_1 in absurd (omega arith)
    not_halted (suc k) is =
        let high = is.of_team.at_most in
        let count = all.count in
        let n = there_is k (omega arith) in
        let at = node_of value ms all.new nodes agents all.count same view served k n.0 n.1 in
        let marked : at.party.halted ≡ true = subst (λ o. IfSome o (λ (p : Party). p.halted ≡ true)) at.held is.marked in
        false≢true (sym at.fits.unmarked ∙ marked)

    -- and no agent of the work is stopped by a bad message
    not_stopped : (agent : ℕ) (n : SeenNode) → node_at nodes agent ≡ Some n → IsBadAt value agents agent view n → ⊥
    not_stopped agent n there bad =
        let at : IsNodeAt value agents agent view n = subst (IsPlaceAt value agents agent view) there (served.each agent) in
        none-some _ (sym at.fits.free ∙ bad.is_bad.stopped)

    pub ended : is_ended a.served ≡ true
    ended = by a.served all.answered.found_out enough
      where
        by : (s : Answer) → IsFoundOut value table agents a.work s → lacks_memory s ≡ false → is_ended s ≡ true
        by answers.Ended found e = refl
        by (answers.Halted agent) found e = absurd (not_halted agent found)
        by (answers.Bad agent) found e = absurd (not_stopped agent found.0 found.1 found.2)
        by (answers.OutOfMemory agent) found e = absurd (true-false e)

    pub all_ended : AllEnded value agents nodes view
    all_ended = record { served = served; ended = by a.served all.answered.found_out ended }
      where
        by : (s : Answer) → IsFoundOut value table agents a.work s → is_ended s ≡ true → have_ended nodes ≡ true
        by answers.Ended found e = found
        by (answers.Halted agent) found e = absurd (false≢true e)
        by (answers.Bad agent) found e = absurd (false≢true e)
        by (answers.OutOfMemory agent) found e = absurd (false≢true e)
