use Rattle.mp_factor.proofs.Basics.{sym}
use Rattle.mp_factor.proofs.FirstLemmas.{earlier_by}
use Rattle.mp_factor.proofs.fault.is_before.Goals as goal

pub returns : goal.returns
returns c =
    rw (c.is_lt.ensures, c.then.ensures, c.cmp.ensures, c.order.ensures, c.order-2.ensures, c.cmp-2.ensures, c.as_slice.ensures.bytes, c.as_slice-2.ensures.bytes)
    (sym (earlier_by c.args.a.now c.args.b.now))
