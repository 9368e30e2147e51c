use Rattle.std.proofs.Common.{ap}
use Rattle.mp_sets.specs.Numbers.{SizedSet}
use Rattle.mp_relaxed.proofs.MemoLemmas.{has_sets}
use Rattle.mp_relaxed.proofs.memo.rows_have_sets.Goals as goal

pub returns : goal.returns
returns c =
    has_sets c.args.publics.now.size c.args.privates.now.size c.args.publics.now.members c.args.privates.now.members c.words.result.now c.words-2.result.now
    c.words.ensures.digits c.words-2.ensures.digits c.words.ensures.packed.long
    (ap (λ (s : SizedSet). s.members) c.words.ensures.set) (ap (λ (s : SizedSet). s.members) c.words-2.ensures.set)
