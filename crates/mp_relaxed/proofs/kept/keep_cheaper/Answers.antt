use Rattle.std.proofs.Common.{◌<◌, length, sym, arith}
use Rattle.mp_relaxed.proofs.KeptLemmas.{kept_set, kept_stay}
use Rattle.mp_relaxed.proofs.kept.keep_cheaper.Goals as goal

pub returns-then-its-own : goal.returns-then-its-own
returns-then-its-own c =
    let inside : c.args.at < length c.args.kept.now.items = omega (arith, c.requires.inside) in
    kept_stay c.args.problem.now.operators c.args.k c.args.kept.now.items c.requires.kept c.args.other c.args.at inside c.requires.own
    (record {
      needed = c.requires.needed;
      added = c.requires.added;
      cheap = omega (arith, c.if-its-own.true, c.cost-own.ensures, c.cost-its.ensures);
    })

pub returns : goal.returns
returns c =
    let inside : c.args.at < length c.args.kept.now.items = omega (arith, c.requires.inside) in
    kept_set c.args.problem.now.operators c.args.k c.args.kept.now.items c.requires.kept c.args.other c.args.at inside c.requires.own c.requires.operator
    (record {
      needed = sym c.requires.needed;
      added = sym c.requires.added;
      cheap = omega (arith, c.if-its-own.false, c.cost-own.ensures, c.cost-its.ensures);
    })
