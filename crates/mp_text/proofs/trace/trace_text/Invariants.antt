use Rattle.std.proofs.Common.{◌≡◌, ◌++◌, drop}
use Rattle.mp_text.specs.Trace.{trace_text as trace_text_of}
use Rattle.mp_text.proofs.trace.trace_text.Given as goal

-- the text so far and the text of what is left of the log make the whole
abbrev pub invariant-loop-at : goal.invariant-loop-at
invariant-loop-at l = l.text ++ trace_text_of (drop l.at l.log) ≡ trace_text_of l.log
