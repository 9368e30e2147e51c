use Rattle.std.proofs.Common.{ℕ, [], Option, None, sym, subst, ◌∙◌}
use Rattle.std.specs.Prelude.{is_some, if◌then◌else◌}
use Rattle.mp_search.specs.Sending.{sent_entry_of}
use Rattle.mp_search.specs.StateKeys.{reached_state}
use Rattle.mp_search.specs.Steps.{HasSent}
use Rattle.mp_search.proofs.KeyedStates.{best_inside}
use Rattle.mp_search.proofs.SendingSteps.{none_best}
use Rattle.mp_search.proofs.sending.send_if_due.Goals as goal

pub send_entry-requires-clause-inside : goal.send_entry-requires-clause-inside
send_entry-requires-clause-inside c =
    best_inside (reached_state c.args.state.now) c.args.states.now.kept c.in-Some-found.entry (sym c.requires.found ∙ c.in-Some-found.is)

pub returns-in-None : goal.returns-in-None
returns-in-None c =
    let t = c.args.context.now.task in
    let s = reached_state c.args.state.now in
    let k = c.args.states.now in
    subst (λ (o : Option ℕ). HasSent t (if is_some c.args.due then sent_entry_of t s o k.kept else ([], k.kept)) k k None)
    (sym c.in-None.is ∙ c.requires.found) (none_best t s k (is_some c.args.due) c.requires.states)
