use Rattle.std.proofs.Common.{sym, ap, subst, ◌∙◌}
use Rattle.mp_sets.specs.Words.{ArePacked}
use Rattle.mp_sets.proofs.WordLemmas.{sized}
use Rattle.mp_sets.proofs.bits.Bits.view.Goals as goal

pub new-requires : goal.new-requires
new-requires c = subst (ArePacked c.self.inside.size) (sym c.as_slice.ensures.value) c.self.invariant

pub returns : goal.returns
returns c = c.new.ensures ∙ ap (sized c.self.inside.size) c.as_slice.ensures.value ∙ c.self.view_is
