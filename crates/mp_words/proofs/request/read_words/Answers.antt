use Rattle.std.proofs.Common.{rules, [], ◌∙◌, ap, drop, ◌+◌, map, string_bytes}
use Rattle.std.proofs.lemmas.List.{drop_all}
use Rattle.mp_words.specs.Reads.{asked_by}
use Rattle.mp_words.specs.Words.{after_words}
use Rattle.mp_words.proofs.WordLemmas.{drop_here, goes_on, ends_all, no_more_words}
use Rattle.mp_words.proofs.request.read_words.Goals as goal

pub returns-then-not-branch : goal.returns-then-not-branch
returns-then-not-branch c =
    c.loop-word.invariant
    ∙ ap (λ ws. after_words (asked_by c.loop-word.read) (map string_bytes ws)) (drop_here _ _ _ c.loop-word-test.true c.word-item.is)
    ∙ ends_all (asked_by c.loop-word.read) (asked_by c.read.new.self) (string_bytes c.word-item.result) (map string_bytes (drop (c.loop-word.word-index + 1) c.args.words.now)) c.in_ok-read.field-0 (search rules) (search rules)

pub loop-word-preserved : goal.loop-word-preserved
loop-word-preserved c =
    c.loop-word.invariant
    ∙ ap (λ ws. after_words (asked_by c.loop-word.read) (map string_bytes ws)) (drop_here _ _ _ c.loop-word-test.true c.word-item.is)
    ∙ goes_on (asked_by c.loop-word.read) (asked_by c.read.new.self) (string_bytes c.word-item.result) (map string_bytes (drop (c.loop-word.word-index + 1) c.args.words.now)) c.in_ok-read.field-0 (search rules) (search rules)

pub returns : goal.returns
returns c =
    c.loop-word.invariant
    ∙ ap (λ ws. after_words (asked_by c.loop-word.read) (map string_bytes ws)) (drop_all _ c.args.words.now c.loop-word-test.false)
    ∙ no_more_words (asked_by c.loop-word.read) [] 0 (search rules)
