use Rattle.mp_split.proofs.Basics.{◌≡◌, Bool, true, false, ap, not, refl, sym, ◌∙◌, is_some, has_place}
use Rattle.mp_split.proofs.common.is_no_name.Goals as goal

twice_not : (b : Bool) → not (not b) ≡ b
twice_not true = refl
twice_not false = refl

pub returns : goal.returns
returns c =
    sym (twice_not c.is_none.result) ∙ ap not (sym c.is_none.ensures ∙ ap is_some c.find.ensures ∙ has_place c.args.text.now 0 c.args.names.now)
