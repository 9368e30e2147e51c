use Rattle.std.proofs.Common.{ap, ◌∙◌}
use Rattle.mp_post_rule.specs.Views.{after_halt, after_release, party_at}
use Rattle.mp_post.proofs.halting.halt_at.Goals as goal

pub halt_here-requires-clause-held : goal.halt_here-requires-clause-held
halt_here-requires-clause-held g c =
    let held = c.requires.held in (held.0, ap (λ u. party_at u c.args.by) c.take_turn-kept.ensures.view ∙ held.1)

pub returns-clause-halted : goal.returns-clause-halted
returns-clause-halted g c = record {
  kept = c.take_turn-kept.result;
  view = ap (λ m. m.0) c.halt_here.ensures.me ∙ ap (λ u. after_release (after_halt c.args.by u)) c.take_turn-kept.ensures.view;
  marks = c.halt_here.ensures.marks;
}
