use Rattle.mp_factor.proofs.Basics.{ℕ, ap, ◌∙◌, length}
use Rattle.std.specs.Prelude.{Option, unwrap_or}
use Rattle.mp_factor.proofs.TypedLemmas.{size_is}
use Rattle.mp_factor.proofs.typed_values.group_len.Goals as goal

pub returns-clause-size : goal.returns-clause-size
returns-clause-size g c =
    c.unwrap_or.ensures ∙ ap (λ (first : Option ℕ). unwrap_or first (length c.args.trees.now)) c.first_end.ensures
    ∙ size_is (g.L.Listing.listing c.args.listing.now) c.args.trees.now
