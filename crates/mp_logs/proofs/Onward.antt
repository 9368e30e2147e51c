-- What is done goes on.
use Rattle.std.proofs.Common.{◌≡◌, ℕ, List, [], ◌++◌, true, refl, sym, ap, subst, ◌∙◌, append_assoc}
use Rattle.std.specs.Prelude.{Option, Ok, All}
use Rattle.std.proofs.lemmas.List.{append-nil}
use Rattle.std.proofs.lemmas.List.Elements.{All-append, All-nil, All-weaker}
use Rattle.mp_messages.specs.declared.history.Entry.{Entry}
use Rattle.mp_messages.specs.declared.history.Event.{Event}
use Rattle.mp_messages.specs.History.{agent_of as owner_of}
use Rattle.mp_machine.specs.AgentRecord.{AgentRecord}
use Rattle.mp_machine.specs.LocalStep.{local, may}
use Rattle.mp_machine.specs.Outgoing.{Step}
use Rattle.mp_sets.specs.Numbers.{Numbers}
use Rattle.mp_task.specs.AgentTask.{AgentTask}
use Rattle.mp_world.specs.Events.{agent_of, local_of, sent_in}
use Rattle.mp_world.specs.Logs.{HasDone, entries_of}
use Rattle.mp_world.specs.Logs.HasDone.{nothing, onward}
use Rattle.mp_world.proofs.Entries.{entries_owners}
use Rattle.mp_world.proofs.Tasks.{local_keeps_task}

module _ (value : Numbers → Numbers → Option ℕ) where
  pub done_both : (first middle last : AgentRecord) (front back : List Entry) → HasDone value first front middle
      → HasDone value middle back last → HasDone value first (front ++ back) last
  done_both _ _ last _ back (nothing r) then = then
  done_both _ middle last _ back (onward first end event bytes s later mine allowed did rest) then =
      subst (λ log. HasDone value first log last) (sym (append_assoc (entries_of event bytes (sent_in s)) later back))
      (onward first last event bytes s (later ++ back) mine allowed did (done_both s.after end last later back rest then))

  -- one event more
  pub done_next : (first middle : AgentRecord) (log : List Entry) (event : Event) (bytes : List ℕ) (s : Step)
      → HasDone value first log middle → agent_of event ≡ middle.task.me → may middle (local_of event) ≡ true
      → local value middle (local_of event) bytes ≡ Ok s
      → HasDone value first (log ++ entries_of event bytes (sent_in s)) s.after
  done_next first middle log event bytes s done mine allowed did =
      done_both first middle s.after log (entries_of event bytes (sent_in s)) done
      (subst (λ es. HasDone value middle es s.after) (append-nil (entries_of event bytes (sent_in s)))
      (onward middle s.after event bytes s [] mine allowed did (nothing s.after)))

  -- the entries are those of the agent
  pub done_owners : (first last : AgentRecord) (log : List Entry) → HasDone value first log last
      → All (λ e. owner_of e ≡ first.task.me) log
  done_owners _ _ _ (nothing r) = All-nil (λ e. owner_of e ≡ r.task.me)
  done_owners _ last _ (onward first _ event bytes s later mine allowed did rest) =
      let same : s.after.task ≡ first.task = local_keeps_task value first (local_of event) bytes s did in
      All-append (λ e. owner_of e ≡ first.task.me) (entries_of event bytes (sent_in s)) later
      (All-weaker (λ e. owner_of e ≡ agent_of event) (λ e. owner_of e ≡ first.task.me) (λ e own. own ∙ mine)
      (entries_of event bytes (sent_in s)) (entries_owners event bytes (sent_in s)))
      (All-weaker (λ e. owner_of e ≡ s.after.task.me) (λ e. owner_of e ≡ first.task.me)
      (λ e own. own ∙ ap (λ (t : AgentTask). t.me) same) later (done_owners s.after last later rest))

  -- and it has the same task at the end
  pub done_task : (first last : AgentRecord) (log : List Entry) → HasDone value first log last → last.task ≡ first.task
  done_task _ _ _ (nothing r) = refl
  done_task _ last _ (onward first _ event bytes s later mine allowed did rest) =
      done_task s.after last later rest ∙ local_keeps_task value first (local_of event) bytes s did
