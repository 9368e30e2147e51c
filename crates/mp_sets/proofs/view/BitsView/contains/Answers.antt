use Rattle.std.proofs.Common.{◌/◌, ◌%◌, eqb, get_or, sym, ap, ◌∙◌, arith}
use Rattle.std.proofs.lemmas.Nat.Bits.{shr_and_one}
use Rattle.std.specs.FinSet as set
use Rattle.mp_sets.specs.Words.{has_bit}
use Rattle.mp_sets.proofs.SetLemmas.{contains_at}
use Rattle.mp_sets.proofs.view.BitsView.contains.Goals as goal

pub returns : goal.returns
unfolding has_bit
returns c =
    let same_size = ap (λ s. s.size) c.self.view_is in
    ap (λ b. eqb b 1) (shr_and_one (get_or c.self.inside.words.now (c.args.x / 64) 0) (c.args.x % 64))
    ∙ sym (contains_at c.self.inside.size (has_bit c.self.inside.words.now) c.args.x (omega (arith, same_size)))
    ∙ ap (λ s. set.contains s.members c.args.x) c.self.view_is
