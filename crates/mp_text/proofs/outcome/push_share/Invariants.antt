use Rattle.std.proofs.Common.{◌≡◌, ◌++◌, take}
use Rattle.mp_text.specs.Lines.{text_of_lines}
use Rattle.mp_text.specs.Outcome.{share_lines}
use Rattle.mp_text.proofs.outcome.push_share.Given as goal

-- the text has grown by the lines of the actions so far
abbrev pub invariant-loop-timed : goal.invariant-loop-timed
invariant-loop-timed l = l.text ≡ l.fn.text ++ text_of_lines (share_lines l.own (take l.timed-index l.share))
