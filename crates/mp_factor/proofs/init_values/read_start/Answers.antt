use Rattle.mp_factor.proofs.Basics.{◌≡◌, refl, ap, take, lookup, node_of, nodes_in, all_right, each, found_in, fact_rule, given, differing, same_names, init_rule}
use Rattle.std.proofs.lemmas.List.{take_all}
use Rattle.mp_factor.specs.FirstCosts.{first_cost}
use Rattle.mp_factor.proofs.EffectLemmas.{starts, starts_begin}
use Rattle.mp_factor.proofs.FirstCostLemmas.{Entries, given_next, wrong_append}
use Rattle.mp_factor.proofs.FoundLemmas.{ends, found_both, found_said, goes_on}
use Rattle.mp_factor.proofs.init_values.read_start.Goals as goal

pub loop-tree-init : goal.loop-tree-init
unfolding given first_cost differing all_right
loop-tree-init c = record {
  costs = λ names. ap (λ (es : Entries). lookup (same_names names) es) c.new-costs.ensures.empty;
  single = refl;
  start = rw (c.in_ok-with_capacity.ensures, c.new.ensures) (starts_begin (found_in (each fact_rule (nodes_in c.args.trees.now))));
}

pub loop-tree-preserved : goal.loop-tree-preserved
loop-tree-preserved c =
    let trees = c.args.trees.now in
    let i = c.loop-tree.tree-index in
    let so_far = c.loop-tree.invariant in
    let next = given_next trees i c.tree-item.result c.in_ok-fact.fact c.loop-tree-test.true c.tree-item.is c.in_ok-fact.ensures in
    record {
      costs = rw next (c.in_ok-single.ensures.costs _ so_far.costs);
      single = rw (next, wrong_append, ← so_far.single) (c.in_ok-single.ensures.fault _ so_far.costs);
      start =
          goes_on node_of fact_rule _ _ starts c.loop-tree.so_far _ _ _ trees i c.tree-item.result c.loop-tree-test.true c.tree-item.is c.in_ok-fact.ensures
          c.in_ok-so_far.ensures so_far.start;
    }

pub returns : goal.returns
unfolding init_rule
returns c =
    let trees = c.args.trees.now in
    let i = c.loop-tree.tree-index in
    let all_read : take i trees ≡ trees = take_all i trees c.loop-tree-test.false in
    let single = rw all_read at c.loop-tree.invariant.single in
    let start = ends node_of fact_rule _ _ starts c.loop-tree.so_far _ trees i c.loop-tree-test.false c.loop-tree.invariant.start in
    rw (c.second.ensures, single, start, found_both, found_said) refl
