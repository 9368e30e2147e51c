use Rattle.mp_typing.proofs.Basics.{IfOk-weaker, ◌∙◌, ℕ, List, ap, subst, ◌↔◌, Contains, flat_map, items_of}
use Rattle.mp_typing.proofs.listed.listed_under.Goals as goal

pub returns : goal.returns
returns c =
    let entries = c.args.listed.now.entries in
    let keys = c.args.types.now.keys in
    let is = c.in_ok-numbers.ensures ∙ ap (flat_map (items_of entries)) c.as_slice.ensures.keys in
    IfOk-weaker c.in_order.result _ _
    (λ list made. (made.0, subst (λ (ns : List ℕ). (number : ℕ) → Contains list number ↔ Contains ns number) is made.1)) c.in_order.ensures
