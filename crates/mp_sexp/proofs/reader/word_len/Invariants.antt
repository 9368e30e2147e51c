use Rattle.std.proofs.Common.{◌≡◌, ◌+◌, drop}
use Rattle.std.specs.List.{prefix_len}
use Rattle.mp_sexp.specs.Reading.{is_word}
use Rattle.mp_sexp.proofs.reader.word_len.Given as goal

abbrev pub invariant-loop-len : goal.invariant-loop-len
invariant-loop-len l = prefix_len is_word l.text ≡ l.len + prefix_len is_word (drop l.len l.text)
