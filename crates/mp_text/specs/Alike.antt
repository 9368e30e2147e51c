-- Logs with the same texts.
use Rattle.std.specs.Prelude.{◌≡◌, List, length}
use Rattle.mp_joint.specs.declared.plan.PlanStep.{PlanStep}
use Rattle.mp_messages.specs.History.{schedule}
use Rattle.mp_messages.specs.declared.history.Entry.{Entry}
use Rattle.mp_world.specs.declared.outcome.Outcome.{Outcome}
use Rattle.mp_text.specs.Outcome.{message_bytes, messages, outcome_text}
use Rattle.mp_text.specs.Trace.{trace_text}

-- One trace, the same numbers of events, of messages and of their bytes, and one text for each
-- outcome with each agent's names.
pub record TellTheSame (log other : List Entry) : Type 0 where
  pub traces : trace_text other ≡ trace_text log
  pub events : length (schedule other) ≡ length (schedule log)
  pub messages : length (messages other) ≡ length (messages log)
  pub bytes : message_bytes other ≡ message_bytes log
  pub outcomes :
      (found : Outcome) (names : List (List PlanStep))
      → outcome_text found names other ≡ outcome_text found names log
