use Rattle.std.proofs.Common.{◌+◌, arith}
use Rattle.mp_relaxed.proofs.Found.{HasFound, are_found}
use Rattle.mp_relaxed.proofs.search.find_values.Goals as goal

pub returns-clause-found : goal.returns-clause-found
returns-clause-found c =
    let has : HasFound c.args.problem.now c.args.publics.now.members c.args.privates.now.members c.args.privates.now.size c.settle.new.numbers.items = record {
      zero_publics = λ x member. let a = c.in_ok-begin.ensures.zero_publics x member in let b = c.in_ok-settle.ensures.lower (0 + x) in omega arith;
      zero_privates = λ x member. let a = c.in_ok-begin.ensures.zero_privates x member in let b = c.in_ok-settle.ensures.lower (c.args.problem.now.publics + x) in omega arith;
      below = λ values low pubs privs. c.in_ok-settle.ensures.below values low (c.in_ok-begin.ensures.below values low (λ x lt member. pubs x (omega arith) member) privs);
    } in
    are_found c.args.problem.now c.args.publics.now.members c.args.privates.now.members c.args.privates.now.size c.settle.new.numbers.items c.operators.ensures.few c.operators.ensures.cheap c.requires.privates has
    c.args.wanted.now c.in_ok-settle.ensures.served c.in_ok-settle.ensures.settled
