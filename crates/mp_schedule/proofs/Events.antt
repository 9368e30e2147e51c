-- What an event makes of a world: its message is taken, its agent takes the step, and messages go out.
use Rattle.std.proofs.Common.{◌≡◌, ◌+◌, ◌-◌, true, List, [], map, Option}
use Rattle.std.proofs.Common.{Some, None, refl, sym, ap, ◌∙◌}
use Rattle.std.specs.Prelude.{Result, Ok, Err, if◌then◌else◌, slice_get, slice_set}
use Rattle.std.specs.List.{fold}
use Rattle.std.specs.Option.{option_and_then, option_map_or}
use Rattle.std.proofs.lemmas.Bool.{and_parts}
use Rattle.std.proofs.lemmas.List.{map-set}
use Rattle.mp_messages.specs.declared.history.Event.{Event}
use Rattle.mp_machine.specs.declared.outgoing.Out.{Out}
use Rattle.mp_machine.specs.declared.refusal.BadKind.{BadKind}
use Rattle.mp_machine.specs.declared.refusal.StepRefusal.{StepRefusal}
use Rattle.mp_machine.specs.declared.refusal.StepRefusal.TheVariants.{NotNow, Bad}
use Rattle.mp_machine.specs.LocalStep.{may}
use Rattle.mp_machine.specs.Machine.{AgentMachine, IsStep, answered, stepped}
use Rattle.mp_machine.specs.Outgoing.{Step}
use Rattle.mp_world.specs.Events.{after_event, agent_may, agent_of, has_message, if_good, is_legal}
use Rattle.mp_world.specs.Events.{local_of, local_step, sent_in, taken, with_sent, without_taken}
use Rattle.mp_world.specs.Logs.{entries_if_good, entries_of, log_after}
use Rattle.mp_world.specs.Values.{Values}
use Rattle.mp_world.specs.World.{World, agent_at, with_agent}
use Rattle.mp_schedule.specs.Machines.{world_of}
use Rattle.mp_schedule.specs.UnderWay.{Mail, world_with}
use Rattle.mp_schedule.proofs.MachinePlaces.{agent_there, may_is}

module _ (value : Values) (ms : List AgentMachine) (mail : Mail) (event : Event) where
  abbrev world : World
  world = world_of ms mail

  -- what is known before the step of a machine
  pub record Ready (m : AgentMachine) : Type 0 where
    pub numbered : (agent_of event - 1) + 1 ≡ agent_of event
    pub there : slice_get ms (agent_of event - 1) ≡ Some m
    pub free : m.stopped ≡ None
    pub legal : is_legal world event ≡ true

  module _ (m : AgentMachine) (ready : Ready m) where
    agent : agent_at world (agent_of event) ≡ Some m.done
    agent = agent_there ms mail (agent_of event) (agent_of event - 1) m ready.numbered ready.there

    abbrev result : Result Step BadKind
    result = local_step value world event m.done

    allowed : may m.done (local_of event) ≡ true
    allowed =
        may_is ms mail event (agent_of event - 1) m ready.numbered ready.there
        ∙ (and_parts (agent_may world event) (has_message world event) ready.legal).0

    leads : after_event value world event ≡ if_good world event result
    unfolding after_event
    leads =
        ap (λ b. if b then option_and_then (λ r. if_good world event (local_step value world event r))
        (agent_at world (agent_of event)) else None) ready.legal
        ∙ ap (option_and_then (λ r. if_good world event (local_step value world event r))) agent

    logged : log_after value world event ≡ entries_if_good value world event result
    logged = ap (λ o. option_map_or (λ r. entries_if_good value world event
        (local_step value world event r)) o []) agent

    answers : answered (value m.done.task) m (local_of event) (taken world event) ≡ stepped m.done result
    answers =
        ap (λ (o : Option StepRefusal). option_map_or (λ refusal. (Err refusal, m)) o
        (if may m.done (local_of event) then stepped m.done result else (Err NotNow, m))) ready.free
        ∙ ap (λ b. if b then stepped m.done result else (Err NotNow, m)) allowed

    -- a step that was taken is the one of the definition
    pub record IsTaken (outs : List Out) (n : AgentMachine) : Type 0 where
      pub step : Step
      pub local : result ≡ Ok step
      pub out : outs ≡ sent_in step
      pub after : n ≡ record { done = step.after; stopped = None }

    is_taken : (outs : List Out) (n : AgentMachine) (known : Result Step BadKind) → result ≡ known
        → (Ok outs, n) ≡ stepped m.done known → IsTaken outs n
    is_taken outs n (Ok s) is same = record {
      step = s;
      local = is;
      out = let first : Ok outs ≡ Ok (sent_in s) = ap (λ p. p.0) same in cc;
      after = ap (λ p. p.1) same;
    }
    is_taken outs n (Err kind) is same = absurd (let first : Ok outs ≡ Err (Bad kind) = ap (λ p. p.0) same in cc)

    pub taken_step : (outs : List Out) (n : AgentMachine)
        → IsStep (value m.done.task) m (local_of event) (taken world event) (Ok outs) n → IsTaken outs n
    taken_step outs n step = is_taken outs n result refl (step.by_definition refl ∙ answers)

    -- a message that was found to be a bad one leads nowhere
    pub bad_step : (kind : BadKind) (n : AgentMachine)
        → IsStep (value m.done.task) m (local_of event) (taken world event) (Err (Bad kind)) n
        → after_event value world event ≡ None
    bad_step kind n step = by result refl (step.by_definition refl ∙ answers)
      where
        by : (known : Result Step BadKind) → result ≡ known → (Err (Bad kind), n) ≡ stepped m.done known
            → after_event value world event ≡ None
        by (Ok s) is same = absurd (let first : Err (Bad kind) ≡ Ok (sent_in s) = ap (λ p. p.0) same in cc)
        by (Err other) is same = leads ∙ ap (if_good world event) is

    -- the machine may do it
    pub never_refused : (n : AgentMachine)
        → IsStep (value m.done.task) m (local_of event) (taken world event) (Err NotNow) n → ⊥
    never_refused n step = by result (step.by_definition refl ∙ answers)
      where
        by : (known : Result Step BadKind) → (Err NotNow, n) ≡ stepped m.done known → ⊥
        by (Ok s) same = let first : Err NotNow ≡ Ok (sent_in s) = ap (λ p. p.0) same in cc
        by (Err other) same = let first : Err NotNow ≡ Err (Bad other) = ap (λ p. p.0) same in cc

    -- the world and the log after the event
    module _ (outs : List Out) (n : AgentMachine) (mail₁ mail₂ : Mail)
        (is : IsTaken outs n)
        (without : world_with (map (λ x. x.done) ms) mail₁ ≡ without_taken world event)
      where
        abbrev new : List AgentMachine
        new = slice_set ms (agent_of event - 1) n

        agent_changed : with_agent (without_taken world event) (agent_of event) is.step.after ≡ world_with (map
            (λ x. x.done) new) mail₁
        agent_changed =
            ap (λ v. with_agent v (agent_of event) is.step.after) (sym without)
            ∙ ap (λ rs. world_with rs mail₁)
            (ap (λ (x : AgentMachine). slice_set (map (λ (y : AgentMachine). y.done) ms)
            (agent_of event - 1) x.done) (sym is.after)
            ∙ sym (map-set (λ (x : AgentMachine). x.done) ms (agent_of event - 1) n))

        pub leads_on : fold (with_sent (agent_of event)) (world_with (map
            (λ x. x.done) new) mail₁) outs ≡ world_with (map (λ x. x.done) new) mail₂
            → after_event value world event ≡ Some (world_of new mail₂)
        leads_on sent =
            leads ∙ ap (if_good world event) is.local
            ∙ ap (λ v. Some (fold (with_sent (agent_of event)) v (sent_in is.step))) agent_changed
            ∙ ap (λ xs. Some (fold (with_sent (agent_of event)) (world_with (map (λ
            (x : AgentMachine). x.done) new) mail₁) xs)) (sym is.out)
            ∙ ap Some sent

        pub logs : log_after value world event ≡ entries_of event (taken world event) outs
        logs = logged ∙ ap (entries_if_good value world event) is.local
            ∙ ap (entries_of event (taken world event)) (sym is.out)
