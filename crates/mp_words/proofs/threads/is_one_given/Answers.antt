use Rattle.std.proofs.Common.{rules, ◌∙◌, ap, sym, drop, ◌+◌, map, string_bytes}
use Rattle.mp_words.specs.Requests.{stands_before_dashes}
use Rattle.mp_words.proofs.WordLemmas.{drop_here, passes_by, found_first}
use Rattle.mp_words.proofs.threads.is_one_given.Goals as goal

pub loop-word-preserved : goal.loop-word-preserved
loop-word-preserved c =
    c.loop-word.invariant
    ∙ ap (λ ws. stands_before_dashes (map string_bytes ws)) (drop_here _ _ _ c.loop-word-test.true c.word-item.is)
    ∙ passes_by (string_bytes c.word-item.result) (map string_bytes (drop (c.loop-word.word-index + 1) c.args.words.now)) (search rules) (search rules)

pub returns-then-eq-2 : goal.returns-then-eq-2
returns-then-eq-2 c =
    sym (c.loop-word.invariant
    ∙ ap (λ ws. stands_before_dashes (map string_bytes ws)) (drop_here _ _ _ c.loop-word-test.true c.word-item.is)
    ∙ found_first (string_bytes c.word-item.result) (map string_bytes (drop (c.loop-word.word-index + 1) c.args.words.now)) (search rules) (search rules))
