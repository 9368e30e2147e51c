use Rattle.std.proofs.Common.{arith, subst}
use Rattle.mp_relaxed.specs.Users.{Takes}
use Rattle.mp_relaxed.proofs.UserLemmas.{noted_more, noted_all}
use Rattle.mp_relaxed.proofs.users.users_of.Goals as goal

pub loop-k-preserved : goal.loop-k-preserved
loop-k-preserved c =
    noted_more c.args.facts c.args.pres.now c.loop-k.lists.items c.note.new.lists.items c.loop-k.k c.loop-k.invariant (omega arith)
    (subst (λ l. Takes c.loop-k.lists.items l c.loop-k.k c.note.new.lists.items) c.row.ensures c.in_ok-note.ensures)

pub returns : goal.returns
returns c = noted_all c.args.facts c.args.pres.now c.loop-k.lists.items c.loop-k.k (omega arith) c.loop-k.invariant
