use Rattle.std.proofs.Common.{◌≡◌, ℕ, ◌*◌, All, replicate, Some, ap, subst, ◌∙◌}
use Rattle.mp_post_rule.specs.Rule.{Home, kept_in}
use Rattle.mp_post_rule.specs.Views.{no_mail}
use Rattle.mp_post_rule.proofs.Opens.{opens_with}
use Rattle.mp_post_rule.proofs.posts.open_posts.Goals as goal

pub new-requires : goal.new-requires
new-requires c = opens_with c.args.agents c.as_slice.result.now c.in_ok-slots.slots.items
    (c.as_slice.ensures.value ∙ (c.in_ok-words.ensures ∙ ap (λ (n : ℕ). replicate (2 * n) 0) c.from-count.ensures))
    (c.in_ok-slots.ensures.count ∙ c.from-count.ensures)
    (subst (λ (n : ℕ). All (λ (home : Home). kept_in home ≡ Some (no_mail n)) c.in_ok-slots.slots.items) c.from-count.ensures c.in_ok-slots.ensures.each)
