use Rattle.mp_grounder.proofs.Basics.{arith, length, ap, ◌∙◌, length-drop, length-map, text_at}
use Rattle.mp_grounder.proofs.Sorted.{count_in_order}
use Rattle.mp_grounder.proofs.texts.publics_of.Goals as goal

pub numbers_in-requires : goal.numbers_in-requires
numbers_in-requires c =
    let short = count_in_order c.in_ok-copy_all.field-0.items in
    let same = ap length (c.in_ok-copy_all.ensures ∙ c.as_slice.ensures) in
    let long = ap length c.in_ok-spelled.ensures ∙ length-map _ (text_at c.args.names.now) in
    let rest = length-drop c.private_count-privates.result c.args.facts.now in
    omega (arith, short, same, long, rest, ap length c.in_ok-texts.ensures, c.requires)
