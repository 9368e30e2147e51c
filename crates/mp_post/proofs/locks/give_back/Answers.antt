use Rattle.std.proofs.Common.{[], ap, ◌∙◌}
use Rattle.mp_post_rule.specs.Views.{after_release}
use Rattle.mp_post.proofs.locks.give_back.Goals as goal

pub release_turn-requires-clause-value : goal.release_turn-requires-clause-value
release_turn-requires-clause-value c = (c.args.kept, ap (λ v. v.turn) c.put_back.ensures.view ∙ c.requires.turn, c.put_back.ensures.value)

pub returns-clause-me : goal.returns-clause-me
returns-clause-me c = c.release_turn.ensures.me ∙ ap (λ v. (after_release v, [])) c.put_back.ensures.view
