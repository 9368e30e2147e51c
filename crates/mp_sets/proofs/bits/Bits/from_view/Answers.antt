use Rattle.std.proofs.Common.{ℕ, sym, subst, ◌∙◌}
use Rattle.mp_sets.specs.Numbers.{numbers_below}
use Rattle.mp_sets.specs.Words.{has_bit, ArePacked}
use Rattle.mp_sets.proofs.bits.Bits.from_view.Goals as goal

pub invariant_of-result : goal.invariant_of-result
invariant_of-result c =
    subst (λ (n : ℕ). ArePacked n c.in_ok-from_slice.field-0.items) (sym c.size.ensures.size)
    (subst (ArePacked c.args.view.now.size) (sym c.in_ok-from_slice.ensures.items) c.words.ensures.packed)

pub returns : goal.returns
returns c =
    (λ j. record { size = c.size.ensures.size j; members = numbers_below (c.size.ensures.size j) (has_bit (c.in_ok-from_slice.ensures.items j)) })
    ∙ c.words.ensures.set
