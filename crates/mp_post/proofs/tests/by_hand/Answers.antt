use Rattle.std.proofs.Common.{subst}
use Rattle.mp_post.specs.Desks.{HoldsParty}
use Rattle.mp_post.proofs.Lists.{second}
use Rattle.mp_post.proofs.tests.by_hand.Goals as goal

pub merged-requires-clause-second : goal.merged-requires-clause-second
merged-requires-clause-second g c =
    let held : HoldsParty c.args.two c.exchanged.new.second.view = second c.in_ok-handed.ensures.second in
    (c.halt.ensures.desk, subst (λ n. HoldsParty n c.halt.new.self.view) c.requires.1 (c.halt.ensures.holds c.args.two held))
