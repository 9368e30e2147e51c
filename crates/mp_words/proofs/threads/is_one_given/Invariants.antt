use Rattle.std.proofs.Common.{◌≡◌, map, drop, string_bytes}
use Rattle.mp_words.specs.Requests.{stands_before_dashes}
use Rattle.mp_words.proofs.threads.is_one_given.Given as goal

-- what the words say is what the words that are left say
abbrev pub invariant-loop-word : goal.invariant-loop-word
invariant-loop-word l =
    stands_before_dashes (map string_bytes l.words) ≡ stands_before_dashes (map string_bytes (drop l.word-index l.words))
