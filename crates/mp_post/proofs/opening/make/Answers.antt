use Rattle.std.proofs.Common.{ℕ, [], sym, ap, subst, ◌∙◌}
use Rattle.std.specs.Prelude.{replicate, true}
use Rattle.mp_post_rule.specs.Kinds.{HoldsAll}
use Rattle.mp_post.proofs.Lists.{all_held, opened}
use Rattle.mp_post.proofs.opening.make.Goals as goal

pub invariant_of-result : goal.invariant_of-result
invariant_of-result c =
    let count = c.from-count.ensures in
    opened c.args.agents c.in_ok-posts.seat.me c.in_ok-lists.lists c.in_ok-held.held.items c.in_ok-posts.ensures.3
    (c.in_ok-lists.ensures ∙ ap (λ (n : ℕ). replicate n []) count) (c.in_ok-held.ensures ∙ ap (λ (n : ℕ). replicate n true) count)

pub returns-clause-all : goal.returns-clause-all
returns-clause-all c = subst (HoldsAll c.args.agents) (sym (ap (λ m. m.0) c.in_ok-posts.ensures.3)) (all_held c.args.agents)
