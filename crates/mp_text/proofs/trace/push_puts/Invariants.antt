use Rattle.std.proofs.Common.{◌≡◌, ◌++◌, drop}
use Rattle.std.specs.List.{filter_map}
use Rattle.mp_text.specs.Lines.{text_of_lines}
use Rattle.mp_text.specs.Trace.{puts_before_event, put_line}
use Rattle.mp_text.proofs.trace.push_puts.Given as goal

-- the text so far and the lines of the messages that are left make the whole
abbrev pub invariant-loop-at : goal.invariant-loop-at
invariant-loop-at l =
    l.text ++ text_of_lines (filter_map put_line (puts_before_event l.agent (drop l.at l.log)))
    ≡ l.fn.text ++ text_of_lines (filter_map put_line (puts_before_event l.agent (drop l.from_place l.log)))
