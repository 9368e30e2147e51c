use Rattle.std.proofs.Common.{◌≡◌, ℕ, length, sym, ap, subst, ◌∙◌, arith}
use Rattle.std.proofs.lemmas.List.{with_items_is}
use Rattle.mp_sets.specs.Numbers.{SizedSet, numbers_below}
use Rattle.mp_sets.specs.Words.{has_bit, ArePacked}
use Rattle.mp_sets.proofs.WordLemmas.{sized}
use Rattle.mp_sets.proofs.bits.Bits.copy_from_view.Goals as goal

pub invariant_of-self : goal.invariant_of-self
invariant_of-self c =
    let size : c.args.other.now.size ≡ c.self.inside.size = sym (ap (λ (s : SizedSet). s.size) c.self.view_is ∙ c.requires) in
    let as_many : length c.copy_from_slice.new.self ≡ c.self.inside.words.len = omega (arith, c.as_mut_slice.ensures.len, c.copy_from_slice.ensures.len) in
    subst (ArePacked c.self.inside.size) (sym (with_items_is c.self.inside.words c.copy_from_slice.new.self as_many ∙ c.copy_from_slice.ensures.after))
    (subst (λ (n : ℕ). ArePacked n c.words.result.now) size c.words.ensures.packed)

pub returns : goal.returns
returns c =
    let size : c.self.inside.size ≡ c.args.other.now.size = ap (λ (s : SizedSet). s.size) c.self.view_is ∙ c.requires in
    let as_many : length c.copy_from_slice.new.self ≡ c.self.inside.words.len = omega (arith, c.as_mut_slice.ensures.len, c.copy_from_slice.ensures.len) in
    ap (sized c.self.inside.size) (with_items_is c.self.inside.words c.copy_from_slice.new.self as_many ∙ c.copy_from_slice.ensures.after)
    ∙ (λ j. record { size = size j; members = numbers_below (size j) (has_bit c.words.result.now) })
    ∙ c.words.ensures.set
