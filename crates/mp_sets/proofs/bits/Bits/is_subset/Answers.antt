use Rattle.std.proofs.Common.{◌≡◌, ℕ, true, List, subst, ◌∙◌}
use Rattle.std.specs.FinSet as set
use Rattle.mp_sets.specs.Words.{has_bit}
use Rattle.mp_sets.proofs.WordLemmas.{within-is_subset}
use Rattle.mp_sets.proofs.bits.Bits.is_subset.Goals as goal

pub returns : goal.returns
returns c =
    let m = c.self.inside.size in
    let n = c.other.inside.size in
    let xs = c.self.inside.words.items in
    let ys = c.other.inside.words.items in
    let tells : List ℕ → List ℕ → Type 0 = λ xs ys. (c.are_within.result ≡ true → (q : ℕ) → has_bit xs q ≡ true → has_bit ys q ≡ true) × (((q : ℕ) → has_bit xs q ≡ true → has_bit ys q ≡ true) → c.are_within.result ≡ true) in
    within-is_subset m n xs ys c.are_within.result c.self.invariant c.other.invariant
    (subst (λ xs. tells xs ys) c.as_slice.ensures.value (subst (λ ys. tells c.as_slice.result.now ys) c.as_slice-2.ensures.value c.are_within.ensures))
    ∙ (λ i. set.is_subset (c.self.view_is i).members (c.other.view_is i).members)
