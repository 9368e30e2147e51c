use Rattle.std.proofs.Common.{◌≡◌, ◌-◌, true, false, not, length, refl, sym, ap, ◌∙◌}
use Rattle.std.specs.Prelude.{nat_lt, slice_index_or, if◌then◌else◌}
use Rattle.mp_sets.specs.Numbers.{SizedSet}
use Rattle.mp_messages.specs.Parts.{StateParts}
use Rattle.mp_store.specs.declared.entry.Origin.TheVariants.{From}
use Rattle.mp_task.specs.Met.{is_met}
use Rattle.mp_tokens.specs.Order.{set_at}
use Rattle.mp_search.specs.AgentState.{no_tag, with_tag}
use Rattle.mp_search.specs.Offering.{offered_at}
use Rattle.mp_search.specs.Receipt.{greater_value, own_set, own_tag, state_of}
use Rattle.mp_search.specs.StateKeys.{reached_state}
use Rattle.mp_search.proofs.Receiving.{below_if_not, not_below, right, unknown, wrong}
use Rattle.mp_search.proofs.receipt.receive_read.Goals as goal

pub returns-in_default-clause-receipt : goal.returns-in_default-clause-receipt
returns-in_default-clause-receipt g c = λ m same expansions enough.
    let t = c.args.task.now in
    let tags : c.args.state.now.key.tags ≡ m.tags = ap (λ (p : StateParts). p.tags) same in
    let own : c.tag_of-tag.result ≡ own_tag t m = c.tag_of-tag.ensures ∙ (λ j. slice_index_or (tags j) ((c.task.view_is j).me - 1) no_tag) in
    unknown t (g.H.Heuristic.value t) c.args.from m (record { kept = c.args.progress.now.states.kept; expansions = expansions })
    ((λ j. nat_lt (sym own j).token (length (sym c.requires.states.used j))) ∙ not_below c.tag_of-tag.result.token (length c.args.progress.now.states.used) (c.in_default.ensures.none.0 refl))

pub returns-then-not-is_byte_right-clause-receipt : goal.returns-then-not-is_byte_right-clause-receipt
returns-then-not-is_byte_right-clause-receipt g c = λ m same expansions enough.
    let t = c.args.task.now in
    let tags : c.args.state.now.key.tags ≡ m.tags = ap (λ (p : StateParts). p.tags) same in
    let own : c.tag_of-tag.result ≡ own_tag t m = c.tag_of-tag.ensures ∙ (λ j. slice_index_or (tags j) ((c.task.view_is j).me - 1) no_tag) in
    let members : c.in-Some.mine.members ≡ own_set t c.args.progress.now.states.kept m =
    ap (λ (x : SizedSet). x.members) c.in-Some.ensures.some ∙ (λ j. set_at (c.requires.states.used j) (own j).token)
    in
    let wrong_byte : c.is_byte_right.result ≡ false = cc in
    wrong t (g.H.Heuristic.value t) c.args.from m (record { kept = c.args.progress.now.states.kept; expansions = expansions })
    ((λ j. nat_lt (sym own j).token (length (sym c.requires.states.used j))) ∙ below_if_not c.tag_of-tag.result.token (length c.args.progress.now.states.used) c.in-Some.ensures.none.1)
    ((λ j. if (sym own j).met then is_met t (sym members j) else not (is_met t (sym members j))) ∙ sym c.is_byte_right.ensures ∙ wrong_byte)

pub returns-clause-receipt : goal.returns-clause-receipt
returns-clause-receipt g c = λ m same expansions enough.
    let t = c.args.task.now in
    let tags : c.args.state.now.key.tags ≡ m.tags = ap (λ (p : StateParts). p.tags) same in
    let own : c.tag_of-tag.result ≡ own_tag t m = c.tag_of-tag.ensures ∙ (λ j. slice_index_or (tags j) ((c.task.view_is j).me - 1) no_tag) in
    let members : c.in-Some.mine.members ≡ own_set t c.args.progress.now.states.kept m =
    ap (λ (x : SizedSet). x.members) c.in-Some.ensures.some ∙ (λ j. set_at (c.requires.states.used j) (own j).token)
    in
    let right_byte : c.is_byte_right.result ≡ true = cc in
    let state_is : reached_state c.enter.new.state ≡ state_of t c.args.progress.now.states.kept m =
    c.enter.ensures.state ∙ (λ j. record { publics = (same j).facts; mine = members j; tags = with_tag (tags j) t.me no_tag })
    in
    right t (g.H.Heuristic.value t) c.args.from m (record { kept = c.args.progress.now.states.kept; expansions = expansions })
    ((λ j. nat_lt (sym own j).token (length (sym c.requires.states.used j))) ∙ below_if_not c.tag_of-tag.result.token (length c.args.progress.now.states.used) c.in-Some.ensures.none.1)
    ((λ j. if (sym own j).met then is_met t (sym members j) else not (is_met t (sym members j))) ∙ sym c.is_byte_right.ensures ∙ right_byte)
    c.in_ok-offer_received.field-0 c.offer_received.new.progress.states.kept
    (c.in_ok-offer_received.ensures.received
    ∙ (λ j. offered_at t (state_is j) (same j).g (greater_value t (g.H.Heuristic.value t) (same j).h (state_is j)) (From c.args.from (same j).sent) c.args.progress.now.states.kept))
