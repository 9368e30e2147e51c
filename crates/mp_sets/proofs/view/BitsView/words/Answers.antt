use Rattle.std.proofs.Common.{◌≡◌, ◌^◌, ap, sym, ◌∙◌}
use Rattle.std.specs.FinSet as set
use Rattle.std.specs.Simd.Lanes.{digits_l}
use Rattle.mp_sets.specs.Compared.{binary}
use Rattle.mp_sets.specs.Numbers.{SizedSet, numbers_below}
use Rattle.mp_sets.specs.Words.{has_bit, words_for}
use Rattle.mp_sets.proofs.ComparedLemmas.{number_l-packed, digits_l-packed}
use Rattle.mp_sets.proofs.WordLemmas.{contains-packed, sized}
use Rattle.mp_sets.proofs.view.BitsView.words.Goals as goal

pub returns-clause-bits : goal.returns-clause-bits
returns-clause-bits c = λ x.
    sym (ap (λ s. set.contains s.members x) c.self.view_is)
    ∙ contains-packed c.self.inside.size c.self.inside.words.now c.self.invariant x

pub returns-clause-set : goal.returns-clause-set
returns-clause-set c =
    let view : sized c.self.inside.size c.self.inside.words.now ≡ c.args.self.now = c.self.view_is in
    (λ j. record { size = c.args.self.now.size; members = numbers_below (ap (λ (s : SizedSet). s.size) (sym view) j) (has_bit c.self.inside.words.now) })
    ∙ ap (λ (s : SizedSet). record { size = c.args.self.now.size; members = s.members }) view

pub returns-clause-number : goal.returns-clause-number
returns-clause-number c =
    number_l-packed c.self.inside.size c.self.inside.words.now c.self.invariant c.have_64_bits.ensures
    ∙ ap (λ s. binary s.members) c.self.view_is

pub returns-clause-digits : goal.returns-clause-digits
returns-clause-digits c =
    digits_l-packed c.self.inside.size c.self.inside.words.now c.self.invariant c.have_64_bits.ensures
    ∙ ap (λ s. digits_l (2 ^ 64) (words_for s.size) (binary s.members)) c.self.view_is
