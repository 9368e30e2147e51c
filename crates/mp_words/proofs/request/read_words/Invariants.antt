use Rattle.std.proofs.Common.{◌≡◌, map, drop, string_bytes}
use Rattle.mp_words.specs.Asked.{nothing}
use Rattle.mp_words.specs.Reads.{asked_by}
use Rattle.mp_words.specs.Words.{after_words}
use Rattle.mp_words.proofs.request.read_words.Given as goal

-- what all words ask for is what those that are left do, behind what was read
abbrev pub invariant-loop-word : goal.invariant-loop-word
invariant-loop-word l =
    after_words nothing (map string_bytes l.words)
    ≡ after_words (asked_by l.read) (map string_bytes (drop l.word-index l.words))
