use Rattle.mp_grounder.proofs.Basics.{◌∙◌, ap, map, List, ℕ}
use Rattle.std.proofs.Common.{Bor}
use Rattle.mp_grounder.proofs.names.names_in_order.Goals as goal

pub returns : goal.returns
returns c =
    ap (map (λ (n : Bor (List ℕ)). n.now)) c.in_ok-from_slice.ensures.items ∙ c.as_slice.ensures
    ∙ c.in_ok-table.ensures
