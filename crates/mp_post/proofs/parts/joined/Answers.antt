use Rattle.std.proofs.Common.{ap, ◌∙◌}
use Rattle.mp_post_rule.specs.Views.{after_release, after_take, together}
use Rattle.mp_post.proofs.Merging.{merged_first, merged_second}
use Rattle.mp_post.proofs.parts.joined.Goals as goal

pub give_back-requires-clause-turn : goal.give_back-requires-clause-turn
give_back-requires-clause-turn g c = ap (λ m. m.0.turn) c.join_seats.ensures.me ∙ ap (λ x. x.turn) c.take_turn-kept.ensures.view

pub give_back-requires-clause-slot : goal.give_back-requires-clause-slot
give_back-requires-clause-slot g c = record {
  home = c.take_turn-kept.ensures.slot.home;
  hand = ap (λ m. m.1) c.join_seats.ensures.me ∙ c.take_turn-kept.ensures.slot.hand;
}

pub returns-clause-free : goal.returns-clause-free
returns-clause-free g c =
    record { no_turn = ap (λ m. m.0.turn) c.give_back.ensures.me; no_slot = ap (λ m. m.1) c.give_back.ensures.me }

pub returns-clause-merged : goal.returns-clause-merged
returns-clause-merged g c =
    let kept = c.take_turn-kept.result in
    let v = c.args.seat.now.me.0 in
    let o = c.args.other.me.0 in
    let taken = c.take_turn-kept.ensures.view ∙ ap (λ n. after_take n kept v) c.requires.first in
    record {
      kept = kept;
      view = ap (λ m. m.0) c.give_back.ensures.me
          ∙ (ap (λ m. after_release m.0) c.join_seats.ensures.me ∙ ap (λ x. after_release (together x o)) taken);
      marks = c.give_back.ensures.marks;
    }

pub returns-clause-holds : goal.returns-clause-holds
returns-clause-holds g c = merged_first c.args.seat.now.me.0 c.args.other.me.0 c.give_back.new.seat.me.0 (returns-clause-merged g c)

pub returns-clause-takes_over : goal.returns-clause-takes_over
returns-clause-takes_over g c = merged_second c.args.seat.now.me.0 c.args.other.me.0 c.give_back.new.seat.me.0 (returns-clause-merged g c)
