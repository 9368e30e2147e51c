use Rattle.std.proofs.Common.{sym, subst, ap, ◌∙◌}
use Rattle.mp_sets.specs.Words.{words_for, ArePacked}
use Rattle.mp_sets.proofs.SetLemmas.{numbers_below-none}
use Rattle.mp_sets.proofs.WordLemmas.{ArePacked-zeros, has_bit-zeros, sized}
use Rattle.mp_sets.proofs.bits.Bits.new.Goals as goal

pub invariant_of-result : goal.invariant_of-result
invariant_of-result c =
    subst (ArePacked c.args.size) (sym (c.in_ok-vec.ensures.items_if_clones_equal (λ y e. e))) (ArePacked-zeros c.args.size)

pub returns : goal.returns
returns c =
    ap (sized c.args.size) (c.in_ok-vec.ensures.items_if_clones_equal (λ y e. e))
    ∙ ap (λ m. record { size = c.args.size; members = m }) (numbers_below-none c.args.size _ (has_bit-zeros (words_for c.args.size)))
