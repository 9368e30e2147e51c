use Rattle.mp_certify.proofs.MadeLemmas.{more_made}
use Rattle.mp_certify.proofs.bounds.add_earlier.Goals as goal

pub returns : goal.returns
returns g c = λ e later is made.
    more_made c.args.machines.now c.args.me c.args.cost c.args.shown.now e is c.requires.state later c.args.met.now.keys c.is_new.new.met.keys
    c.args.made.now.items c.add_if.new.made.items c.in_ok-fresh.fresh c.in_ok-fresh.ensures c.in_ok-add_if.ensures.said c.in_ok-add_if.ensures.team made
