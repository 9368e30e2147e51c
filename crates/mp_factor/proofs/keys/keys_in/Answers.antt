use Rattle.mp_factor.proofs.Basics.{key_nodes}
use Rattle.mp_factor.proofs.KeyLemmas.{one_key_more, no_key_more}
use Rattle.mp_factor.proofs.keys.keys_in.Goals as goal

pub loop-first-preserved : goal.loop-first-preserved
loop-first-preserved c =
    one_key_more key_nodes c.loop-first.keys.items c.push.new.self.items c.in-Some.first.key _ _ _
    c.in_ok-push.ensures.items c.in-Some.ensures.key c.loop-first.invariant

pub returns : goal.returns
returns c =
    no_key_more key_nodes c.loop-first.keys.items _ _ c.in_default.ensures.key c.loop-first.invariant
