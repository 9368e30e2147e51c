use Rattle.std.proofs.Common.{ℕ, ◌-◌, sym, ap, ◌∙◌}
use Rattle.std.specs.Option.{option_copied}
use Rattle.std.specs.Prelude.{slice_index_or}
use Rattle.mp_search.specs.AgentState.{no_tag}
use Rattle.mp_search.proofs.KeyedStates.{none_at_place}
use Rattle.mp_search.proofs.receipt.tag_of.Goals as goal

pub returns-in-None : goal.returns-in-None
returns-in-None c =
    sym (none_at_place c.args.tags.now _ no_tag (sym c.get.ensures ∙ ap option_copied c.in-None.is))
    ∙ ap (λ (n : ℕ). slice_index_or c.args.tags.now (n - 1) no_tag) c.number.ensures.number
