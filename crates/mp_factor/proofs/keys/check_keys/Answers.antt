use Rattle.mp_factor.proofs.Basics.{key_nodes, key_rule}
use Rattle.mp_factor.proofs.FoundLemmas.{checks_on, checks_end}
use Rattle.mp_factor.proofs.keys.check_keys.Goals as goal

pub loop-key-preserved : goal.loop-key-preserved
loop-key-preserved c =
    checks_on key_nodes (key_rule c.args.whole) c.loop-key.so_far _ _ _ c.args.keys.now c.loop-key.key-index c.key-item.result
    c.loop-key-test.true c.key-item.is c.in_ok-check_key.ensures c.second-so_far.ensures c.loop-key.invariant

pub returns : goal.returns
returns c =
    checks_end key_nodes (key_rule c.args.whole) c.loop-key.so_far _ c.args.keys.now c.loop-key.key-index c.loop-key-test.false c.loop-key.invariant
