use Rattle.mp_grounder.proofs.Basics.{ap, ◌∙◌, ℕ, Option, unwrap_or, unwrap_or-slice_get}
use Rattle.std.specs.List.{slice_get}
use Rattle.mp_grounder.proofs.places.public_place.Goals as goal

pub returns : goal.returns
returns c =
    let publics = c.args.places.now.publics in
    c.unwrap_or.ensures
    ∙ ap (λ (o : Option ℕ). unwrap_or o 0) (c.copied.ensures ∙ c.get.ensures ∙ ap (slice_get publics) c.saturating_sub-at.ensures)
    ∙ unwrap_or-slice_get publics _ 0
