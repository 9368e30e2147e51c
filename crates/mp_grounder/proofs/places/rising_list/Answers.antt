use Rattle.mp_grounder.proofs.Basics.{ℕ, List, IfOk, ◌≡◌, sym, subst, ◌∙◌, IsStrictlyIncreasing}
use Rattle.mp_grounder.proofs.Rising.{rising_increases}
use Rattle.mp_grounder.proofs.places.rising_list.Goals as goal

pub list_of-requires : goal.list_of-requires
list_of-requires c = subst IsStrictlyIncreasing (sym (c.as_slice.ensures.value ∙ c.put_in_order.ensures)) (rising_increases c.args.numbers.now.items)

pub returns : goal.returns
returns c =
    subst (λ (ns : List ℕ). IfOk c.list_of.result (λ list. list ≡ ns)) (c.as_slice.ensures.value ∙ c.put_in_order.ensures) c.list_of.ensures
