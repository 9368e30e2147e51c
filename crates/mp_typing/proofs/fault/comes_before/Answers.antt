use Rattle.mp_typing.proofs.Basics.{ℕ, List, Ordering, sym, ap, ◌∙◌, is_lt, nat_cmp, ordering_then, slice_cmp, fault_at, order_by}
use Rattle.mp_typing.proofs.FirstLemmas.{earlier_by}
use Rattle.mp_typing.proofs.fault.comes_before.Goals as goal

pub returns : goal.returns
returns c =
    let a = order_by c.args.kind c.args.file c.args.word.now.at in
    c.is_lt.ensures ∙ ap is_lt c.then.ensures
    ∙ ap (λ (o : Ordering). is_lt (ordering_then o c.cmp-2.result))
    (c.cmp.ensures ∙ ap (λ (ns : List ℕ). slice_cmp nat_cmp ns c.order-order_of_known.result) c.order.ensures
    ∙ ap (λ (ns : List ℕ). slice_cmp nat_cmp a ns) c.order-order_of_known.ensures)
    ∙ ap (λ (o : Ordering). is_lt (ordering_then (slice_cmp nat_cmp a (order_by c.args.known.now.kind c.args.known.now.found.file c.args.known.now.found.at)) o)) c.cmp-2.ensures
    ∙ sym (earlier_by (fault_at c.args.kind c.args.file c.args.word.now) c.args.known.now)
