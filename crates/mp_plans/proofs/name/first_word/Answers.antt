use Rattle.mp_plans.proofs.WordLemmas.{last_word, one_word}
use Rattle.mp_plans.proofs.name.first_word.Goals as goal

pub returns-in-empty-clause-words : goal.returns-in-empty-clause-words
returns-in-empty-clause-words c =
    last_word _ _ _ _ c.word_length.ensures.value c.split_at.ensures.front c.split_at.ensures.back c.in-empty.len_below

pub returns-in-len1-up-clause-words : goal.returns-in-len1-up-clause-words
returns-in-len1-up-clause-words c =
    one_word _ _ _ _ c.word_length.ensures.value c.split_at.ensures.front c.split_at.ensures.back c.in-len1-up.len_at_least
