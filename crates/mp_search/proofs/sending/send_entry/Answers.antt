use Rattle.mp_search.specs.StateKeys.{IsShown, reached_state}
use Rattle.mp_search.proofs.KeyedStates.{entry_told}
use Rattle.mp_search.proofs.SendingSteps.{entry_inside, message_is, none_sent, one_sent}
use Rattle.mp_search.proofs.sending.send_entry.Goals as goal

pub returns-in_default : goal.returns-in_default
returns-in_default c =
    let found = entry_inside c.args.states.now.kept.entries c.args.entry c.requires.inside in
    none_sent c.args.context.now.task (reached_state c.args.state.now) c.args.entry c.in_ok-number.field-0 c.args.states.now c.send.new.self c.requires.states
    c.in_ok-number.ensures.sent c.in_ok-number.ensures.publics c.in_ok-number.ensures.privates found.0 found.1 c.in_default.is

pub returns : goal.returns
returns c =
    let t = c.args.context.now.task in
    let s = reached_state c.args.state.now in
    let found = entry_inside c.args.states.now.kept.entries c.args.entry c.requires.inside in
    let seen = entry_told (IsShown c.entry.result) _ c.entry.ensures.entry in
    let is_message =
    message_is t s c.args.entry c.in_ok-number.field-0 c.args.states.now c.send.new.self c.requires.states
    c.in_ok-number.ensures.sent c.in_ok-number.ensures.publics c.in_ok-number.ensures.privates found.0 found.1 c.in-Some.number c.in-Some.token c.in-Some.is
    c.entry.result c.in_ok-state.state seen.0 seen.1 seen.2 c.entry.ensures.publics c.in_ok-state.ensures
    in
    one_sent t s c.args.entry c.in_ok-number.field-0 c.args.states.now c.send.new.self c.requires.states
    c.in_ok-number.ensures.sent c.in_ok-number.ensures.publics c.in_ok-number.ensures.privates found.0 found.1 c.in-Some.number c.in-Some.token c.in-Some.is
    (record { state = c.in_ok-state.state; to = c.in_ok-to.to }) is_message c.in_ok-to.ensures
