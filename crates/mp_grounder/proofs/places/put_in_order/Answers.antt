use Rattle.mp_grounder.proofs.Basics.{arith, ◌∙◌}
use Rattle.std.proofs.lemmas.List.Filters.{dedup_is}
use Rattle.mp_grounder.proofs.Rising.{few_sorted, sorted_numbers}
use Rattle.mp_grounder.proofs.places.put_in_order.Goals as goal

pub returns-then-len-le1 : goal.returns-then-len-le1
returns-then-len-le1 c = few_sorted _ (omega (arith, c.len.ensures, c.if-len-le1.true))

pub returns : goal.returns
returns c = dedup_is _ _ _ c.dedup.ensures.filtered ∙ sorted_numbers _ _ c.sort_unstable.ensures.permutation c.sort_unstable.ensures.sorted
