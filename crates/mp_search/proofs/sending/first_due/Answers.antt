use Rattle.std.proofs.Common.{Bool, ◌&&◌, sym, ap, ◌∙◌, eqb, length}
use Rattle.std.specs.Prelude.{not}
use Rattle.mp_search.specs.Concern.{receivers}
use Rattle.mp_search.specs.StateKeys.{reached_state}
use Rattle.mp_search.proofs.sending.first_due.Goals as goal

pub returns-then-is_visible-clause-due : goal.returns-then-is_visible-clause-due
returns-then-is_visible-clause-due c =
    let concerns = not (eqb (length (receivers c.args.context.now.task (reached_state c.args.state.now))) 0) in
    c.first_receiver.ensures.some ∙ ap (λ (b : Bool). b && concerns) (sym (sym c.is_visible.ensures ∙ c.if-is_visible.true))

pub returns-clause-due : goal.returns-clause-due
returns-clause-due c =
    let concerns = not (eqb (length (receivers c.args.context.now.task (reached_state c.args.state.now))) 0) in
    ap (λ (b : Bool). b && concerns) (sym (sym c.is_visible.ensures ∙ c.if-is_visible.false))
