use Rattle.mp_search.proofs.receipt.receive_state.Goals as goal

pub returns-clause-receipt : goal.returns-clause-receipt
returns-clause-receipt g c =
    let m = c.args.message.now in
    c.receive_read.ensures.receipt m
    (λ j. record { sent = m.sent; g = m.g; h = m.h; facts = c.in_ok-state.ensures.facts j; tags = c.in_ok-state.ensures.tags j })
