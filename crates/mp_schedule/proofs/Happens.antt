-- What an event makes of the parts of a team.
use Rattle.std.proofs.Common.{◌≡◌, ℕ, zero, suc, ◌-◌, true, List, [], ◌∷◌, ◌++◌, map, Option, Some}
use Rattle.std.proofs.Common.{sym, ap, subst, ◌∙◌, arith}
use Rattle.std.specs.Prelude.{All, Result, Ok, Err, slice_get}
use Rattle.std.specs.List.{fold}
use Rattle.std.proofs.lemmas.List.Elements.{All-head, All-set, All-tail}
use Rattle.std.proofs.lemmas.Option.{none-some, same_Some}
use Rattle.mp_sets.specs.Numbers.{Numbers}
use Rattle.mp_task.specs.AgentTask.{AgentTask}
use Rattle.mp_messages.specs.declared.history.Event.{Event}
use Rattle.mp_messages.specs.declared.history.Entry.{Entry}
use Rattle.mp_machine.specs.declared.outgoing.Out.{Out}
use Rattle.mp_machine.specs.declared.refusal.StepRefusal.{StepRefusal}
use Rattle.mp_machine.specs.declared.refusal.StepRefusal.TheVariants.{NotNow, Bad, OutOfMemory}
use Rattle.mp_machine.specs.Machine.{AgentMachine, IsStep}
use Rattle.mp_world.specs.Events.{agent_of, is_legal, local_of, taken, with_sent, without_taken}
use Rattle.mp_world.specs.Logs.{entries_of}
use Rattle.mp_schedule.specs.Machines.{IsFree, limit_of, tasks_of, world_of}
use Rattle.mp_schedule.specs.Steps.{AreAfter, HasStepped, IsDone, Parts}
use Rattle.mp_schedule.specs.UnderWay.{Mail, world_with}
use Rattle.mp_schedule.proofs.Events.{Ready, bad_step, leads_on, logs, never_refused, taken_step}
use Rattle.mp_schedule.proofs.MachinePlaces.{limit_again, same_again}

-- what holds of all holds of each
pub of_each : {X : Type 0} (P : X → Type 0) (xs : List X) (k : ℕ) (x : X) → All P xs → slice_get xs k ≡ Some x → P x
of_each P [] k x all there = absurd (none-some x there)
of_each P (y ∷ ys) zero x all there = subst P (same_Some y x there) (All-head P y ys all)
of_each P (y ∷ ys) (suc k) x all there = of_each P ys k x (All-tail P y ys all) there

module _ (value : AgentTask → Numbers → Numbers
    → Option ℕ) (ms ms' : List AgentMachine) (event : Event) (bytes : List ℕ) where
  -- a step keeps tasks and limits
  pub keeps_tasks : (answer : Result (List Out) StepRefusal) → HasStepped value ms event bytes answer ms'
      → tasks_of ms' ≡ tasks_of ms
  keeps_tasks answer s =
      ap tasks_of s.others ∙ same_again (λ (m : AgentMachine). m.done.task) ms
      (agent_of event - 1) s.before s.after s.there s.step.task

  pub keeps_limit : (answer : Result (List Out) StepRefusal) → HasStepped value ms event bytes answer ms'
      → limit_of ms' ≡ limit_of ms
  keeps_limit answer s = ap limit_of s.others
      ∙ limit_again ms (agent_of event - 1) s.before s.after s.there s.step.limit

  module _ (mail : Mail) (log : List Entry) (free : All IsFree ms) (legal : is_legal (world_of ms mail) event ≡ true)
      (took : bytes ≡ taken (world_of ms mail) event)
    where
      abbrev old : Parts
      old = record { machines = ms; mail = mail; log = log }

      ready : (answer : Result (List Out) StepRefusal) (s : HasStepped value ms event bytes answer ms')
          → Ready value ms mail event s.before
      ready answer s =
          let low = s.from_1 in
          record {
            numbered = omega arith;
            there = s.there;
            free = of_each IsFree ms (agent_of event - 1) s.before free s.there;
            legal = legal;
          }

      step_of : (answer : Result (List Out) StepRefusal) (s : HasStepped value ms event bytes answer ms')
          → IsStep (value s.before.done.task) s.before (local_of event) (taken (world_of ms mail) event) answer s.after
      step_of answer s = subst (λ b. IsStep (value s.before.done.task) s.before
          (local_of event) b answer s.after) took s.step

      -- a step that was refused
      pub not_done : (refusal : StepRefusal) (new : Parts) → HasStepped value ms event bytes (Err refusal) ms'
          → IsDone value {A = Unit {0}} old event (Err refusal) new
      not_done NotNow new s = never_refused value ms mail event s.before (ready (Err NotNow) s) s.after (step_of
          (Err NotNow) s)
      not_done (Bad kind) new s = bad_step value ms mail event s.before (ready (Err (Bad kind)) s) kind s.after
          (step_of (Err (Bad kind)) s)
      not_done OutOfMemory new s = tt

      -- a step that was taken, and what follows it
      pub all_done : (outs : List Out) (mail₁ mail₂ : Mail) (log₂ : List Entry)
          → HasStepped value ms event bytes (Ok outs) ms'
          → world_with (map (λ m. m.done) ms) mail₁ ≡ without_taken (world_of ms mail) event
          → fold (with_sent (agent_of event)) (world_with (map (λ m. m.done) ms') mail₁) outs ≡ world_with (map
          (λ m. m.done) ms') mail₂
          → log₂ ≡ log ++ entries_of event bytes outs
          → AreAfter value old event (record { machines = ms'; mail = mail₂; log = log₂ })
      all_done outs mail₁ mail₂ log₂ s without sent logged =
          let n = s.after in
          let r = ready (Ok outs) s in
          let is = taken_step value ms mail event s.before r outs n (step_of (Ok outs) s) in
          let there : IsFree n = ap (λ (x : AgentMachine). x.stopped) is.after in
          record {
            leads =
                leads_on value ms mail event s.before r outs n mail₁ mail₂ is without
                (subst (λ xs. fold (with_sent (agent_of event)) (world_with (map (λ
                (m : AgentMachine). m.done) xs) mail₁) outs ≡ world_with (map (λ
                (m : AgentMachine). m.done) xs) mail₂) s.others sent)
                ∙ ap (λ xs. Some (world_of xs mail₂)) (sym s.others);
            logged =
                logged ∙ ap (λ b. log ++ entries_of event b outs) took
                ∙ ap (λ es. log ++ es) (sym (logs value ms mail event s.before r outs n mail₁ mail₂ is without));
            free = subst (All IsFree) (sym s.others) (All-set IsFree ms (agent_of event - 1) n there free);
          }
