use Rattle.std.proofs.Common.{◌≡◌, ◌+◌, drop}
use Rattle.std.specs.List.{prefix_len}
use Rattle.mp_plans.specs.Names.{is_within_word}
use Rattle.mp_plans.proofs.name.word_length.Given as goal

-- no blank so far
abbrev pub invariant-loop-before : goal.invariant-loop-before
invariant-loop-before l = prefix_len is_within_word l.text ≡ l.before + prefix_len is_within_word (drop l.before l.text)
