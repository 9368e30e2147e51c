-- Texts of schedules that a trace begins.
use Rattle.std.specs.Prelude.{◌≡◌, true, ◌∷◌, ◌++◌, List}
use Rattle.mp_joint.specs.Fact.{Text}
use Rattle.mp_messages.specs.declared.history.Entry.{Entry}
use Rattle.mp_text.specs.Schedule.{is_end}
use Rattle.mp_text.specs.Trace.{trace_text}

-- the trace of a log, a line that ends a schedule, and anything else behind it
pub record IsTraceOf (log : List Entry) (text : Text) : Type 0 where
  pub end : Text
  pub later : Text
  pub ends : is_end end ≡ true
  pub text_is : text ≡ trace_text log ++ (end ++ 10 ∷ later)
