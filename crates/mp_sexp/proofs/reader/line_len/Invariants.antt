use Rattle.std.proofs.Common.{◌≡◌, ◌+◌, drop}
use Rattle.std.specs.List.{prefix_len}
use Rattle.mp_sexp.specs.Reading.{is_within_line}
use Rattle.mp_sexp.proofs.reader.line_len.Given as goal

abbrev pub invariant-loop-len : goal.invariant-loop-len
invariant-loop-len l = prefix_len is_within_line l.text ≡ l.len + prefix_len is_within_line (drop l.len l.text)
