use Rattle.mp_grounder.proofs.Basics.{ℕ, List, [], Option, ap, ◌∙◌, unwrap_or, unwrap_or-slice_get}
use Rattle.mp_grounder.proofs.names.copied_name.Goals as goal

pub returns-in-None : goal.returns-in-None
returns-in-None c =
    c.new.ensures ∙ ap (λ (o : Option (List ℕ)). unwrap_or o []) c.in-None.ensures ∙ unwrap_or-slice_get c.args.names.now c.args.number []
