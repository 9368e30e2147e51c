use Rattle.std.proofs.Common.{◌≡◌, fold, take}
use Rattle.mp_rows.specs.Hashes.{with_word}
use Rattle.mp_rows.proofs.hashes.with_words.Given as goal

abbrev pub invariant-loop-word : goal.invariant-loop-word
invariant-loop-word l = l.mixed ≡ fold with_word l.number (take l.word-index l.words)
