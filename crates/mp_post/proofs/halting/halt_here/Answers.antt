use Rattle.std.proofs.Common.{sym, ap, subst, ◌∙◌}
use Rattle.std.specs.Option.{option_map}
use Rattle.mp_post_rule.specs.Queues.{with_halted}
use Rattle.mp_post_rule.specs.Table.{Holds}
use Rattle.mp_post_rule.specs.Views.{with_value}
use Rattle.mp_post.proofs.halting.halt_here.Goals as goal

pub release_turn-requires-clause-value : goal.release_turn-requires-clause-value
release_turn-requires-clause-value c =
    let w = c.halt_party.new.seat.me.0 in (
      c.noted-noted.result,
      subst (λ k. Holds c.args.post k w) (sym c.noted-noted.ensures)
          (ap (λ u. u.turn) c.halt_party.ensures.view ∙ ap (option_map (with_value (with_halted c.args.by))) c.requires.turn),
      c.halt_party.ensures.value,
    )
