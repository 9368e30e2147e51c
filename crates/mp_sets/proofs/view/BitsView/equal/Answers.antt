use Rattle.std.proofs.Common.{◌≡◌, ap, sym, ◌∙◌, arith}
use Rattle.mp_sets.proofs.WordLemmas.{same_bits-sized, sized-same_bits}
use Rattle.mp_sets.proofs.view.BitsView.equal.Goals as goal

pub returns : goal.returns
returns c =
    let m = c.self.inside.size in
    let n = c.other.inside.size in
    let sizes : m ≡ n = omega (arith, ap (λ s. s.size) c.self.view_is, ap (λ s. s.size) c.other.view_is) in
    let xs = c.self.inside.words.now in
    let ys = c.other.inside.words.now in (
      λ yes. sym c.self.view_is ∙ same_bits-sized m n xs ys sizes (c.are_equal.ensures.0 yes) ∙ c.other.view_is,
      λ same. c.are_equal.ensures.1 (sized-same_bits m n xs ys c.self.invariant c.other.invariant (c.self.view_is ∙ same ∙ sym c.other.view_is)),
    )
