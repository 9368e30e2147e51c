use Rattle.std.proofs.Common.{ap, ◌∙◌}
use Rattle.mp_post_rule.specs.Views.{after_release, after_take, alone, party_at, without}
use Rattle.mp_post.proofs.Splitting.{left_holds, right_holds}
use Rattle.mp_post.proofs.parts.parted.Goals as goal

pub split_party-new-requires-clause-held : goal.split_party-new-requires-clause-held
split_party-new-requires-clause-held g c =
    let held = c.requires.held in (held.0, ap (λ x. party_at x c.args.party) c.take_turn-kept.ensures.view ∙ held.1)

pub give_back-requires-clause-turn : goal.give_back-requires-clause-turn
give_back-requires-clause-turn g c = ap (λ m. m.0.turn) c.split_party-new.ensures.kept.1 ∙ ap (λ x. x.turn) c.take_turn-kept.ensures.view

pub give_back-requires-clause-slot : goal.give_back-requires-clause-slot
give_back-requires-clause-slot g c = record {
  home = c.take_turn-kept.ensures.slot.home;
  hand = ap (λ m. m.1) c.split_party-new.ensures.kept.1 ∙ c.take_turn-kept.ensures.slot.hand;
}

pub returns-clause-free : goal.returns-clause-free
returns-clause-free g c = (
  record { no_turn = ap (λ m. m.0.turn) c.give_back.ensures.me; no_slot = ap (λ m. m.1) c.give_back.ensures.me },
  record { no_turn = ap (λ m. m.0.turn) c.split_party-new.ensures.new.1; no_slot = ap (λ m. m.1) c.split_party-new.ensures.new.1 },
)

pub returns-clause-split : goal.returns-clause-split
returns-clause-split g c =
    let kept = c.take_turn-kept.result in
    let v = c.args.seat.now.me.0 in
    let taken = c.take_turn-kept.ensures.view ∙ ap (λ n. after_take n kept v) c.requires.first in
    record {
      kept = kept;
      left_is = ap (λ m. m.0) c.give_back.ensures.me
          ∙ (ap (λ m. after_release m.0) c.split_party-new.ensures.kept.1 ∙ ap (λ x. after_release (without c.args.party x)) taken);
      right_is = ap (λ m. m.0) c.split_party-new.ensures.new.1 ∙ ap (alone c.args.party) taken;
      marks = c.give_back.ensures.marks;
    }

pub returns-clause-holds : goal.returns-clause-holds
returns-clause-holds g c = right_holds c.args.party c.args.seat.now.me.0 c.give_back.new.seat.me.0 c.split_party-new.result.me.0
    c.requires.held (returns-clause-split g c)

pub returns-clause-others : goal.returns-clause-others
returns-clause-others g c = left_holds c.args.party c.args.seat.now.me.0 c.give_back.new.seat.me.0 c.split_party-new.result.me.0
    c.requires.held (returns-clause-split g c)
