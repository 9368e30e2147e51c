use Rattle.std.proofs.Common.{◌≡◌, ◌^◌, ap, sym, subst, ◌∙◌}
use Rattle.std.specs.FinSet as set
use Rattle.std.specs.Simd.Lanes.{digits_l}
use Rattle.mp_sets.specs.Compared.{binary}
use Rattle.mp_sets.specs.Numbers.{SizedSet, numbers_below}
use Rattle.mp_sets.specs.Words.{words_for, has_bit, ArePacked}
use Rattle.mp_sets.proofs.ComparedLemmas.{number_l-packed, digits_l-packed}
use Rattle.mp_sets.proofs.WordLemmas.{sized, contains-packed}
use Rattle.mp_sets.proofs.bits.Bits.words.Goals as goal

pub returns-clause-bits : goal.returns-clause-bits
returns-clause-bits c = λ x.
    sym (ap (λ s. set.contains s.members x) c.self.view_is)
    ∙ contains-packed c.self.inside.size c.self.inside.words.items c.self.invariant x
    ∙ ap (λ words. has_bit words x) (sym c.as_slice-words.ensures.value)

pub returns-clause-set : goal.returns-clause-set
returns-clause-set c =
    let view : sized c.self.inside.size c.as_slice-words.result.now ≡ c.args.self.now = ap (sized c.self.inside.size) c.as_slice-words.ensures.value ∙ c.self.view_is in
    (λ j. record { size = c.args.self.now.size; members = numbers_below (ap (λ (s : SizedSet). s.size) (sym view) j) (has_bit c.as_slice-words.result.now) })
    ∙ ap (λ (s : SizedSet). record { size = c.args.self.now.size; members = s.members }) view

pub returns-clause-number : goal.returns-clause-number
returns-clause-number c =
    let packed = subst (ArePacked c.self.inside.size) (sym c.as_slice-words.ensures.value) c.self.invariant in
    let view = ap (sized c.self.inside.size) c.as_slice-words.ensures.value ∙ c.self.view_is in
    number_l-packed c.self.inside.size c.as_slice-words.result.now packed c.have_64_bits.ensures
    ∙ ap (λ s. binary s.members) view

pub returns-clause-digits : goal.returns-clause-digits
returns-clause-digits c =
    let packed = subst (ArePacked c.self.inside.size) (sym c.as_slice-words.ensures.value) c.self.invariant in
    let view = ap (sized c.self.inside.size) c.as_slice-words.ensures.value ∙ c.self.view_is in
    digits_l-packed c.self.inside.size c.as_slice-words.result.now packed c.have_64_bits.ensures
    ∙ ap (λ s. digits_l (2 ^ 64) (words_for s.size) (binary s.members)) view
