use Rattle.std.proofs.Common.{◌<◌, ◌≤◌, length, refl, sym, ap, ◌∙◌, arith}
use Rattle.std.specs.Prelude.{nat_le}
use Rattle.mp_audit.proofs.SameLemmas.{sets_differ, sets_end, sets_same}
use Rattle.mp_audit.proofs.same_state.are_sets.Goals as goal

pub loop-place-init : goal.loop-place-init
loop-place-init c = record { inside = omega arith; left = refl }

pub privates_at-facts-requires : goal.privates_at-facts-requires
privates_at-facts-requires c = let count = c.agents-agents.ensures in let lt = c.loop-place-test.true in omega (arith, count, lt)

pub loop-place-preserved : goal.loop-place-preserved
loop-place-preserved c =
    let l = c.loop-place in
    let lists = c.args.bound.now.privates in
    let count = c.agents-agents.ensures in
    let test = c.loop-place-test.true in
    let lt : l.place < length lists = omega (arith, count, test) in
    record {
      inside = omega (arith, lt);
      left =
          sets_same lists c.args.sets.now l.place c.privates_at-facts.result.now lt c.privates_at-facts.ensures.is
          (sym c.if-not-is_set_at.false ∙ c.is_set_at.ensures)
          ∙ l.invariant.left;
    }

pub returns-then-not-is_set_at : goal.returns-then-not-is_set_at
returns-then-not-is_set_at c =
    let l = c.loop-place in
    let lists = c.args.bound.now.privates in
    let count = c.agents-agents.ensures in
    let test = c.loop-place-test.true in
    let lt : l.place < length lists = omega (arith, count, test) in
    sets_differ lists c.args.sets.now l.place c.privates_at-facts.result.now lt c.privates_at-facts.ensures.is
    (sym c.if-not-is_set_at.true ∙ c.is_set_at.ensures)
    ∙ l.invariant.left

pub returns : goal.returns
returns c =
    let l = c.loop-place in
    let lists = c.args.bound.now.privates in
    let count = c.agents-agents.ensures in
    let test = c.loop-place-test.false in
    let past : length lists ≤ l.place = omega (arith, count, test) in
    ap (nat_le (length c.args.sets.now)) count ∙ sets_end lists c.args.sets.now l.place l.invariant.inside past ∙ l.invariant.left
