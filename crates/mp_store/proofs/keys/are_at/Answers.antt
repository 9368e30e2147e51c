use Rattle.std.proofs.Common.{◌≡◌, Some, sym, ap, ◌∙◌}
use Rattle.std.specs.Option.{option_copied}
use Rattle.std.specs.Prelude.{slice_get}
use Rattle.mp_store.proofs.TagLemmas.{tags_there}
use Rattle.mp_store.proofs.keys.are_at.Goals as goal

pub returns-in-Some : goal.returns-in-Some
returns-in-Some c = λ same.
    let at : slice_get c.args.tags.now.keys c.args.place ≡ Some c.in-Some.there.now = sym c.get_index.ensures.key ∙ ap option_copied c.in-Some.is in
    tags_there c.args.tags.now.keys c.args.sought.now c.in-Some.there.now c.args.place at (sym c.as_slice.ensures ∙ c.are_same.ensures.0 same ∙ c.as_slice-in-Some.ensures)
