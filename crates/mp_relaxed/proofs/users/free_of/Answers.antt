use Rattle.std.proofs.Common.{sym, ◌∙◌, arith}
use Rattle.mp_relaxed.proofs.UserLemmas.{free_none, free_more, free_same, free_all}
use Rattle.mp_relaxed.proofs.users.free_of.Goals as goal
use Rattle.mp_relaxed.proofs.users.free_of.Goals.{then-is_empty+in_ok-push, else-is_empty}

pub loop-k-init : goal.loop-k-init
loop-k-init c = free_none c.args.pres.now c.new-free.result.items c.new-free.ensures.items

pub loop-k-preserved : goal.loop-k-preserved
loop-k-preserved c =
    elim c.if-is_empty.branch [
      | then-is_empty+in_ok-push w ↦
          free_more c.args.pres.now c.loop-k.k c.row.result.now c.loop-k.free.items c.if-is_empty.free.items (omega arith) c.row.ensures (sym c.is_empty.ensures ∙ w.if-is_empty.true)
          ((λ i. (w.free-is i).items) ∙ w.in_ok-push.ensures.items) c.loop-k.invariant
      | else-is_empty w ↦
          free_same c.args.pres.now c.loop-k.k c.row.result.now c.loop-k.free.items c.if-is_empty.free.items c.row.ensures (sym c.is_empty.ensures ∙ w.if-is_empty.false)
          (λ i. (w.free-is i).items) c.loop-k.invariant
    ]

pub returns : goal.returns
returns c = free_all c.args.pres.now c.loop-k.k c.loop-k.free.items (omega arith) c.loop-k.invariant
