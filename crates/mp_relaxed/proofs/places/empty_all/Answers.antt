use Rattle.std.proofs.Common.{arith}
use Rattle.std.specs.Prelude.{vec_len}
use Rattle.mp_relaxed.proofs.PlaceLemmas.{empty_above, empty_all, empty_joined, empty_more}
use Rattle.mp_relaxed.proofs.places.empty_all.Goals as goal

pub each-preserved : goal.each-preserved
each-preserved c =
    let i = c.each.invariant in
    record {
      len = i.len;
      within = omega arith;
      done = empty_more c.each.rows.items c.each.at c.clear.new.self (omega arith) c.clear.ensures.items i.done;
      above = empty_above c.each.rows.items c.each.at c.args.end (vec_len c.args.rows.now) c.clear.new.self (omega arith) i.above;
    }

pub returns-clause-empty : goal.returns-clause-empty
returns-clause-empty c =
    let i = c.each.invariant in
    empty_all c.each.rows.items (vec_len c.args.rows.now) (omega arith)
    (empty_joined c.each.rows.items c.args.end (vec_len c.args.rows.now)
    (λ m d at lt within. i.done m d at (omega arith) within) i.above)
