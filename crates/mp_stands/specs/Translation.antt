-- Two factors that are the same in numbers: what an agent grounds of them differs in private names alone.
use Rattle.std.specs.Prelude.{◌≡◌, ℕ, false, Some, slice_get}
use Rattle.mp_forms.specs.declared.factor.Factor.{Factor}
use Rattle.mp_sexp.specs.Numbers.{name_at}
use Rattle.mp_lifted.specs.declared.lifted.LiftedFactor.{LiftedFactor}
use Rattle.mp_lifting.specs.declared.view.OpenView.{OpenView}
use Rattle.mp_lifting.specs.Factors.{lifted_factor}
use Rattle.mp_lifting.specs.Vocabulary.{vocabulary_of}
use Rattle.mp_views.specs.Opened.{open_view}

-- a factor in numbers, but for the initial facts that other agents show
abbrev pub AreAlikeButKnown : LiftedFactor → LiftedFactor → Type 0
AreAlikeButKnown a b = b ≡ record a { known = b.known }

-- For an agent that has seen this of the others, both are the same in numbers, but for initial facts that others show:
-- some of these may be told by names of the one and not by names of the other. Their public names are the same, and both
-- show the same before grounding.
pub record AreAlike (view : OpenView) (f g : Factor) : Type 0 where
  pub lifted : AreAlikeButKnown (lifted_factor f view) (lifted_factor g view)
  pub public_objects :
      (n : ℕ)
      → slice_get (lifted_factor f view).private_objects n ≡ Some false
      → name_at (vocabulary_of g).objects n ≡ name_at (vocabulary_of f).objects n
  pub public_predicates :
      (n : ℕ)
      → slice_get (lifted_factor f view).private_predicates n ≡ Some false
      → name_at (vocabulary_of g).predicates n ≡ name_at (vocabulary_of f).predicates n
  pub shown : open_view g ≡ open_view f
