use Rattle.std.proofs.Common.{subst, sym, ap, ◌∙◌}
use Rattle.mp_trail.specs.Share.{IsRising, fits}
use Rattle.mp_trail.specs.Walk.{back_at, walk}
use Rattle.mp_trail.proofs.WalkLemmas.{walked_fits, walked_rising}
use Rattle.mp_trail.proofs.trail.Trail.walk.Goals as goal

pub invariant_of-self : goal.invariant_of-self
invariant_of-self c =
    subst IsRising (sym c.in-Ok.ensures.noted)
    (walked_rising c.args.store.now c.args.entry c.args.back c.self.inside.noted.items c.self.invariant
    (ap (fits c.args.back) c.self.view_is ∙ c.requires.above))

pub returns-in-Ok-clause-fits : goal.returns-in-Ok-clause-fits
returns-in-Ok-clause-fits c =
    ap (λ end. fits (back_at end) c.note_walk.new.noted.items) c.in-Ok.ensures.end
    ∙ ap (fits (back_at (walk c.args.store.now c.args.entry c.args.back).end)) c.in-Ok.ensures.noted
    ∙ walked_fits c.args.store.now c.args.entry c.args.back c.self.inside.noted.items
    (ap (fits c.args.back) c.self.view_is ∙ c.requires.above)
