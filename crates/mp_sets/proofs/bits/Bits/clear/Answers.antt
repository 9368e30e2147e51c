use Rattle.std.proofs.Common.{◌≡◌, ℕ, replicate, vec_len, sym, ap, subst, ◌∙◌, arith}
use Rattle.std.specs.FinSet as set
use Rattle.mp_sets.specs.Numbers.{SizedSet}
use Rattle.mp_sets.specs.Words.{words_for, ArePacked}
use Rattle.mp_sets.proofs.SetLemmas.{numbers_below-none}
use Rattle.mp_sets.proofs.WordLemmas.{ArePacked-zeros, has_bit-zeros, sized}
use Rattle.mp_sets.proofs.bits.Bits.clear.Goals as goal

pub invariant_of-self : goal.invariant_of-self
invariant_of-self c =
    let many : vec_len c.self.inside.words ≡ words_for c.self.inside.size = omega (arith, c.self.inside.words.ok.0, c.self.invariant.long) in
    subst (ArePacked c.self.inside.size) (sym (c.fill.ensures.items (λ y e. e) ∙ ap (λ (n : ℕ). replicate {A = ℕ} n 0) many))
    (ArePacked-zeros c.self.inside.size)

pub returns : goal.returns
returns c =
    let many : vec_len c.self.inside.words ≡ words_for c.self.inside.size = omega (arith, c.self.inside.words.ok.0, c.self.invariant.long) in
    ap (sized c.self.inside.size) (c.fill.ensures.items (λ y e. e) ∙ ap (λ (n : ℕ). replicate {A = ℕ} n 0) many)
    ∙ ap (λ m. record { size = c.self.inside.size; members = m })
    (numbers_below-none c.self.inside.size _ (has_bit-zeros (words_for c.self.inside.size)))
    ∙ ap (λ (s : SizedSet). record { size = s.size; members = set.empty }) c.self.view_is
