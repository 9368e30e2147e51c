use Rattle.std.proofs.Common.{◌≡◌, ℕ, List, ◌++◌, ap, subst, ◌∙◌}
use Rattle.std.specs.Prelude.{OnOk}
use Rattle.mp_messages.specs.declared.message.Message.TheVariants.{State}
use Rattle.mp_messages.specs.Spelling.{spelling}
use Rattle.mp_machine.specs.declared.outgoing.Out.{Out}
use Rattle.mp_machine.specs.Outgoing.{copies}
use Rattle.mp_machine.proofs.SendingOut.{copied}
use Rattle.mp_machine.proofs.states.send_state.Goals as goal

pub returns : goal.returns
returns c =
    let s = c.args.sending.now in
    subst (λ (xs : List Out). OnOk c.send_copies.result (c.send_copies.new.outs ≡ c.args.outs.now ++ xs))
    (ap (copies c.as_slice.result.now) c.in_ok-bytes.ensures
    ∙ ap (λ (to : List ℕ). copies to (spelling (State s.state))) c.as_slice.ensures
    ∙ copied s.to (State s.state))
    c.send_copies.ensures
