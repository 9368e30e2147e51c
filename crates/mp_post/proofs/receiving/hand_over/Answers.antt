use Rattle.std.proofs.Common.{◌≡◌, ◌-◌, ◌<◌, ◌^◌, ℕ, suc, List, [], ◌∷◌, arith, subst, ◌∙◌}
use Rattle.std.specs.Prelude.{drop, max, slice_index_or}
use Rattle.mp_stamps.specs.Lists.{clock}
use Rattle.mp_stamps.specs.declared.stamped.Stamped.{Stamped}
use Rattle.mp_post.proofs.receiving.hand_over.Goals as goal

pub sign_receipt-requires-clause-may : goal.sign_receipt-requires-clause-may
sign_receipt-requires-clause-may c =
    let waiting = c.args.kept.waiting in
    let message = c.in-Some.message in
    let has = c.requires.list in
    let at : c.from.result - 1 ≡ c.args.by - 1 = let a = c.from.ensures in let b = c.number.ensures.number in omega arith in (
      c.args.kept,
      c.requires.turn,
      record {
        party = has.0;
        held = has.1;
        message = message;
        others = drop 1 (slice_index_or waiting (c.args.by - 1) []);
        waits = subst (λ (n : ℕ). slice_index_or waiting n [] ≡ message ∷ drop 1 (slice_index_or waiting n [])) at c.in-Some.ensures.some;
        stamp = subst (λ (l : List Stamped). suc (max (clock l) message.stamp) < 2 ^ 64) (c.as_slice.ensures.value ∙ has.2) c.stamp_after-stamp.ensures.below;
        other = c.requires.other;
      },
    )
