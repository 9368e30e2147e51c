-- A node after a step of its machine.
use Rattle.std.proofs.Common.{◌≡◌, ℕ, Bool, true, false, List, [], ◌∷◌, ◌++◌, map, refl, sym, ap, subst, ◌∙◌, ◌≤◌, arith, append_assoc, Some, None}
use Rattle.std.specs.Prelude.{All, Option, Result, Ok, Err, IfErr, IsErrAnd, if◌then◌else◌}
use Rattle.std.specs.Option.{option_map_or}
use Rattle.std.proofs.lemmas.Bool.{and_parts, eqb-true}
use Rattle.std.proofs.lemmas.List.Elements.{All-append, All-cons, All-head, All-nil, All-tail}
use Rattle.mp_sets.specs.Numbers.{Numbers}
use Rattle.mp_task.specs.AgentTask.{AgentTask}
use Rattle.mp_messages.specs.declared.history.Entry.{Entry}
use Rattle.mp_messages.specs.declared.history.Entry.TheVariants.{Act, Took}
use Rattle.mp_messages.specs.declared.history.Event.{Event}
use Rattle.mp_messages.specs.declared.history.Event.TheVariants as events
use Rattle.mp_messages.specs.declared.history.Kind.{Kind}
use Rattle.mp_messages.specs.declared.history.Kind.TheVariants as kinds
use Rattle.mp_machine.specs.AgentRecord.{AgentRecord, is_going, new_record}
use Rattle.mp_machine.specs.LocalStep.{local, may, may_start}
use Rattle.mp_machine.specs.Machine.{AgentMachine, IsStep, answered, stepped}
use Rattle.mp_machine.specs.Outgoing.{Outgoing, Step, in_bytes}
use Rattle.mp_machine.specs.declared.event.Local.{Local}
use Rattle.mp_machine.specs.declared.event.Local.TheVariants as locals
use Rattle.mp_machine.specs.declared.outgoing.Out.{Out}
use Rattle.mp_machine.specs.declared.refusal.BadKind.{BadKind}
use Rattle.mp_machine.specs.declared.refusal.StepRefusal.{StepRefusal}
use Rattle.mp_machine.specs.declared.refusal.StepRefusal.TheVariants.{NotNow, Bad, OutOfMemory}
use Rattle.mp_world.specs.Events.{agent_of, local_of as local_of_event, sent_in}
use Rattle.mp_world.specs.Logs.{HasDone, entries_of, put_by}
use Rattle.mp_world.specs.Values.{Values}
use Rattle.mp_logs.proofs.Onward.{done_next}
use Rattle.mp_team_verdicts.specs.Others.{IsAnother}
use Rattle.mp_stamps.specs.Lists.{IsAgentOf, entries}
use Rattle.mp_post_rule.specs.Queues.{IsSignable}
use Rattle.mp_post_rule.specs.declared.view.Party.{Party}
use Rattle.mp_nodes.specs.Nodes.{HasDoneAll, IsNode, Orders, SeenNode}
use Rattle.mp_nodes.specs.Steps.{HasActed, HasReceived, IsHanded, IsSameAgent, MayRefuse, me_of}

-- ---- What a machine that goes on answers.

module _ (value : Numbers → Numbers → Option ℕ) (m : AgentMachine) (event : Local) (bytes : List ℕ) where
  -- a step that was taken is the one of the definition
  pub record IsTaken (outs : List Out) (n : AgentMachine) : Type 0 where
    pub allowed : may m.done event ≡ true
    pub step : Step
    pub did : local value m.done event bytes ≡ Ok step
    pub out : outs ≡ sent_in step
    pub after : n ≡ record { done = step.after; stopped = None }

  -- a message that was found to be a bad one
  pub record IsFoundBad (kind : BadKind) (n : AgentMachine) : Type 0 where
    pub allowed : may m.done event ≡ true
    pub bad : local value m.done event bytes ≡ Err kind
    pub after : n ≡ record { done = m.done; stopped = Some (Bad kind) }

  abbrev answer_by : Bool → Result Step BadKind → Result (List Out) StepRefusal × AgentMachine
  answer_by allowed known = if allowed then stepped m.done known else (Err NotNow, m)

  answers : m.stopped ≡ None → answered value m event bytes ≡ answer_by (may m.done event) (local value m.done event bytes)
  answers free = ap (λ (o : Option StepRefusal). option_map_or (λ refusal. (Err refusal, m)) o
      (answer_by (may m.done event) (local value m.done event bytes))) free

  pub taken : (outs : List Out) (n : AgentMachine) → m.stopped ≡ None → (Ok outs, n) ≡ answered value m event bytes → IsTaken outs n
  taken outs n free is = by (may m.done event) refl (local value m.done event bytes) refl (is ∙ answers free)
    where
      by : (b : Bool) → may m.done event ≡ b → (known : Result Step BadKind) → local value m.done event bytes ≡ known
          → (Ok outs, n) ≡ answer_by b known → IsTaken outs n
      by true allowed (Ok s) did same = record {
        allowed = allowed;
        step = s;
        did = did;
        out = let first : Ok outs ≡ Ok (sent_in s) = ap (λ p. p.0) same in cc;
        after = ap (λ p. p.1) same;
      }
      by true allowed (Err kind) did same = absurd (let first : Ok outs ≡ Err (Bad kind) = ap (λ p. p.0) same in cc)
      by false not_now known did same = absurd (let first : Ok outs ≡ Err NotNow = ap (λ p. p.0) same in cc)

  pub found_bad : (kind : BadKind) (n : AgentMachine) → m.stopped ≡ None → (Err (Bad kind), n) ≡ answered value m event bytes
      → IsFoundBad kind n
  found_bad kind n free is = by (may m.done event) refl (local value m.done event bytes) refl (is ∙ answers free)
    where
      by : (b : Bool) → may m.done event ≡ b → (known : Result Step BadKind) → local value m.done event bytes ≡ known
          → (Err (Bad kind), n) ≡ answer_by b known → IsFoundBad kind n
      by true allowed (Ok s) did same = absurd (let first : Err (Bad kind) ≡ Ok (sent_in s) = ap (λ p. p.0) same in cc)
      by true allowed (Err other) did same =
          let first : Err (Bad kind) ≡ Err (Bad other) = ap (λ p. p.0) same in
          let one : other ≡ kind = cc in record {
            allowed = allowed;
            bad = did ∙ ap Err one;
            after = ap (λ p. p.1) same ∙ ap (λ (k : BadKind). record { done = m.done; stopped = Some (Bad k) }) one;
          }
      by false not_now known did same = absurd (let first : Err (Bad kind) ≡ Err NotNow = ap (λ p. p.0) same in cc)

-- ---- Messages go to other agents of the team.

puts_signable : (agents agent : ℕ) (t : AgentTask) (out : List Outgoing) → t.me ≡ agent → t.agents ≡ agents → All (λ x. IsAnother t x.to) out
    → All (IsSignable agents agent) (map (put_by agent) (map in_bytes out))
puts_signable agents agent t [] me team all = All-nil (IsSignable agents agent)
puts_signable agents agent t (x ∷ xs) me team all =
    let first = All-head (λ (x : Outgoing). IsAnother t x.to) x xs all in
    All-cons (IsSignable agents agent) (put_by agent (in_bytes x)) (map (put_by agent) (map in_bytes xs)) (
      refl,
      record {
        of_team = record { from_1 = first.from_1; at_most = subst (λ n. x.to ≤ n) team first.in_team };
        differs = λ same. first.another (same ∙ sym me);
      },
    )
    (puts_signable agents agent t xs me team (All-tail (λ (x : Outgoing). IsAnother t x.to) x xs all))

-- ---- Agent 1 alone starts snapshots.

starts_at_1 : (r : AgentRecord) → may r locals.Start ≡ true → 1 ≡ r.task.me
starts_at_1 r allowed =
    let now = (and_parts (is_going r.ending) (may_start r) allowed).1 in
    let a = and_parts _ _ now in
    let b = and_parts _ _ a.0 in
    let c = and_parts _ _ b.0 in
    let d = and_parts _ _ c.0 in
    sym (eqb-true r.task.me 1 d.0)

-- ---- Nodes.

-- the law that messages of a step go to other agents of the team
abbrev pub GoToOthers : Type 0
GoToOthers =
    (value : Numbers → Numbers → Option ℕ) (limit : ℕ) (t : AgentTask) (log : List Entry) (r : AgentRecord) (event : Event) (bytes : List ℕ) (s : Step)
    → 1 ≤ t.agents → HasDone value (new_record t value limit) log r → may r (local_of_event event) ≡ true
    → local value r (local_of_event event) bytes ≡ Ok s → All (λ x. IsAnother t x.to) s.out

module _ (value : Values) (agents agent : ℕ) where
  -- what an agent has done goes on with one event
  module _ (old new : SeenNode) (log : List Entry) (event : Event) (bytes : List ℕ) (outs : List Out)
      (same : IsSameAgent old new)
      (is : IsTaken (value old.machine.done.task) old.machine (local_of_event event) bytes outs new.machine)
      (of_team : IsAgentOf agents agent) (me : me_of old ≡ agent) (team : old.machine.done.task.agents ≡ agents)
      (own : agent_of event ≡ agent)
      (done : HasDoneAll value old.machine.done.task old.machine.done.limit log old.machine.done)
    where
      abbrev t : AgentTask
      t = old.machine.done.task

      abbrev limit : ℕ
      limit = old.machine.done.limit

      done_more : HasDoneAll value new.machine.done.task new.machine.done.limit (log ++ entries_of event bytes outs) new.machine.done
      done_more =
          let raw : HasDoneAll value t limit (log ++ entries_of event bytes (sent_in is.step)) is.step.after =
          done_next (value t) (new_record t (value t) limit) old.machine.done log event bytes is.step done (own ∙ sym me) is.allowed is.did in
          let sent : HasDoneAll value t limit (log ++ entries_of event bytes outs) is.step.after =
          subst (λ os. HasDoneAll value t limit (log ++ entries_of event bytes os) is.step.after) (sym is.out) raw in
          let after : HasDoneAll value t limit (log ++ entries_of event bytes outs) new.machine.done =
          subst (λ r. HasDoneAll value t limit (log ++ entries_of event bytes outs) r) (sym (ap (λ (m : AgentMachine). m.done) is.after)) sent in
          subst (λ (o : Orders). HasDoneAll value o.task o.limit (log ++ entries_of event bytes outs) new.machine.done) (sym same) after

      puts_are : GoToOthers → All (IsSignable agents agent) (map (put_by agent) outs)
      puts_are others =
          let low = of_team.from_1 in
          let high = of_team.at_most in
          let some : 1 ≤ t.agents = omega arith in
          subst (λ os. All (IsSignable agents agent) (map (put_by agent) os)) (sym is.out)
          (puts_signable agents agent t is.step.out me team
          (others (value t) limit t log old.machine.done event bytes is.step some done is.allowed is.did))

      goes_free : new.machine.stopped ≡ None
      goes_free = ap (λ (m : AgentMachine). m.stopped) is.after

  me_again : (old new : SeenNode) → IsSameAgent old new → me_of old ≡ agent → me_of new ≡ agent
  me_again old new same me = ap (λ (o : Orders). o.task.me) same ∙ me

  team_again : (old new : SeenNode) → IsSameAgent old new → old.machine.done.task.agents ≡ agents → new.machine.done.task.agents ≡ agents
  team_again old new same team = ap (λ (o : Orders). o.task.agents) same ∙ team

  -- it did something by itself
  module _ (others : GoToOthers) (old new : SeenNode) (party : Party) (same : IsSameAgent old new) (node : IsNode value agents agent party old)
    where
      with_entries : (event : Event) (outs : List Out) (first : Entry) → agent_of event ≡ agent → IsSignable agents agent first
          → IsTaken (value old.machine.done.task) old.machine (local_of_event event) [] outs new.machine
          → entries_of event [] outs ≡ first ∷ map (put_by agent) outs
          → new.batch ≡ old.batch ++ first ∷ map (put_by agent) outs → IsNode value agents agent party new
      with_entries event outs first own signable is entries_are unsigned =
          let log = entries party.list ++ old.batch in record {
            of_team = node.of_team;
            me = me_again old new same node.me;
            team = team_again old new same node.team;
            unmarked = node.unmarked;
            free = goes_free old new log event [] outs same is node.of_team node.me node.team own node.done;
            done = subst (λ l. HasDoneAll value new.machine.done.task new.machine.done.limit l new.machine.done)
                (append_assoc (entries party.list) old.batch (entries_of event [] outs)
                ∙ ap (λ l. entries party.list ++ l) (ap (λ l. old.batch ++ l) entries_are ∙ sym unsigned))
                (done_more old new log event [] outs same is node.of_team node.me node.team own node.done);
            batch = subst (All (IsSignable agents agent)) (sym unsigned)
                (All-append (IsSignable agents agent) old.batch (first ∷ map (put_by agent) outs) node.batch
                (All-cons (IsSignable agents agent) first (map (put_by agent) outs) signable
                (puts_are old new log event [] outs same is node.of_team node.me node.team own node.done others)));
          }

      pub acted : (kind : Kind) → HasActed value agent old new kind → IsNode value agents agent party new
      acted kinds.Expand a =
          with_entries (events.Expand agent) a.outs (Act agent kinds.Expand) refl refl
          (taken (value old.machine.done.task) old.machine locals.Expand [] a.outs new.machine node.free a.answer) refl a.unsigned
      acted kinds.Start a =
          let is = taken (value old.machine.done.task) old.machine locals.Start [] a.outs new.machine node.free a.answer in
          let first : 1 ≡ agent = starts_at_1 old.machine.done is.allowed ∙ node.me in
          with_entries events.Start a.outs (Act agent kinds.Start) first refl is
          (ap (λ (n : ℕ). Act n kinds.Start ∷ map (put_by n) a.outs) first) a.unsigned

  -- it took a message that was handed over
  module _ (old new : SeenNode) (from : ℕ) (bytes : List ℕ) (party : Party) (handed : IsHanded value agents agent from bytes party old)
    where
      pub received : GoToOthers → IsSameAgent old new → HasReceived value agent old new from bytes → IsNode value agents agent party new
      received others same a =
          let is = taken (value old.machine.done.task) old.machine (locals.Take from) bytes a.outs new.machine handed.free a.answer in
          let event = events.Take agent from in
          let puts = map (put_by agent) a.outs in
          let batch : new.batch ≡ puts = a.unsigned ∙ ap (λ l. l ++ puts) handed.batch in
          record {
            of_team = handed.of_team;
            me = me_again old new same handed.me;
            team = team_again old new same handed.team;
            unmarked = handed.unmarked;
            free = goes_free old new handed.before event bytes a.outs same is handed.of_team handed.me handed.team refl handed.done;
            done = subst (λ l. HasDoneAll value new.machine.done.task new.machine.done.limit l new.machine.done)
                (sym (append_assoc handed.before (Took agent from bytes ∷ []) puts)
                ∙ (ap (λ l. l ++ puts) (sym handed.list) ∙ ap (λ l. entries party.list ++ l) (sym batch)))
                (done_more old new handed.before event bytes a.outs same is handed.of_team handed.me handed.team refl handed.done);
            batch = subst (All (IsSignable agents agent)) (sym batch)
                (puts_are old new handed.before event bytes a.outs same is handed.of_team handed.me handed.team refl handed.done others);
          }
      -- and found it to be a bad one

-- a step with a message that the machine may take is refused for want of memory alone, or the message is a bad one
module _ (value : Values) (me : ℕ) (old new : SeenNode) (from : ℕ) (bytes : List ℕ) (free : old.machine.stopped ≡ None)
    (allowed : may old.machine.done (locals.Take from) ≡ true)
  where
    never : (Err NotNow, new.machine) ≡ answered (value old.machine.done.task) old.machine (locals.Take from) bytes → ⊥
    never is = by (local (value old.machine.done.task) old.machine.done (locals.Take from) bytes)
        (is ∙ (answers (value old.machine.done.task) old.machine (locals.Take from) bytes free
        ∙ ap (λ b. answer_by (value old.machine.done.task) old.machine (locals.Take from) bytes b
        (local (value old.machine.done.task) old.machine.done (locals.Take from) bytes)) allowed))
      where
        by : (known : Result Step BadKind) → (Err NotNow, new.machine) ≡ stepped old.machine.done known → ⊥
        by (Ok s) same = let first : Err NotNow ≡ Ok (sent_in s) = ap (λ p. p.0) same in cc
        by (Err other) same = let first : Err NotNow ≡ Err (Bad other) = ap (λ p. p.0) same in cc

    refusal_is : (e : StepRefusal) → IsStep (value old.machine.done.task) old.machine (locals.Take from) bytes (Err e) new.machine
        → new.batch ≡ old.batch → MayRefuse value me old new from bytes e
    refusal_is NotNow step same = never (step.by_definition refl)
    refusal_is (Bad kind) step same = record { kind = kind; answer = step.by_definition refl; unsigned = same }
    refusal_is OutOfMemory step same = tt

    pub refused : {A : Type 0} (e : StepRefusal) (answer : Result A StepRefusal)
        → IsStep (value old.machine.done.task) old.machine (locals.Take from) bytes (Err e) new.machine
        → new.batch ≡ old.batch → IsErrAnd answer (λ x. x ≡ e) → IfErr answer (MayRefuse value me old new from bytes)
    refused e (Ok x) step same handed = tt
    refused e (Err f) step same handed = subst (MayRefuse value me old new from bytes) (sym handed) (refusal_is e step same)
