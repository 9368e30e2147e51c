use Rattle.std.proofs.Common.{◌≡◌, ◌<◌, ◌≤◌, ◌∷◌, All, length, ap, refl, subst, sym, ◌∙◌, arith, vec_len}
use Rattle.std.proofs.lemmas.List.{get_or_default}
use Rattle.std.proofs.lemmas.List.Elements.{All-head, All-tail}
use Rattle.std.proofs.lemmas.List.Sorted.{All-permutation, length_permutation}
use Rattle.std.specs.List.Sorted.{IsPermutation}
use Rattle.mp_estimates.specs.Lowering.{Key, key, number_at, unknown}
use Rattle.mp_relaxed.specs.Search.{AreFrom}
use Rattle.mp_relaxed.proofs.CountLemmas.{all_settled, counts_begin, counts_stale, counts_settled, served_settled, serves_before, settled_all}
use Rattle.mp_estimates.proofs.ProperLemmas.{proper_popped}
use Rattle.mp_relaxed.proofs.SearchLemmas.{served_popped}
use Rattle.mp_relaxed.proofs.SettledLemmas.{reached, unsettled_begin, unsettled_settled, unsettled_stale}
use Rattle.mp_relaxed.proofs.search.settle.Goals as goal

pub pops-init : goal.pops-init
pops-init c = record {
  counted = refl;
  len = refl;
  inside = c.requires.inside;
  lower = λ x. omega arith;
  served = λ k lt none. c.requires.served k lt;
  counts = counts_begin c.args.problem.now.operators c.args.numbers.now.items c.args.queue.now c.recount.new.counters.items c.requires.all_open (λ k. let same = c.recount.ensures.count k in omega arith);
  proper = c.requires.proper;
  unsettled = unsettled_begin c.args.problem.now.operators c.args.numbers.now.items c.args.queue.now c.recount.new.counters.items c.recount.ensures.count;
  below = λ values low below. below;
}

pub pops-preserved : goal.pops-preserved
pops-preserved c =
    let numbers = c.pops.numbers.items in
    let n = c.in-Some.cost in
    let x = c.in-Some.x in
    let entry : IsPermutation c.pops.queue (key n x ∷ c.pop.new.self) = c.in-Some.ensures.entry in
    let Inside = λ (k : Key). k.1 < vec_len c.pops.numbers in
    let all = All-permutation Inside c.pops.queue _ entry c.pops.invariant.inside in
    let within = All-head Inside (key n x) c.pop.new.self all in
    let at = c.index.ensures ∙ get_or_default numbers x c.index.result.now unknown (omega arith) in
    record {
      counted = c.pops.invariant.counted;
      len = c.pops.invariant.len;
      inside = All-tail Inside (key n x) c.pop.new.self all;
      lower = c.pops.invariant.lower;
      served = λ k lt none.
          served_popped c.args.problem.now.operators numbers c.pops.queue c.pop.new.self n x k entry
          (λ i d less e f. c.if-cost-index.false (sym f ∙ ap (number_at numbers) e ∙ sym at))
          (c.pops.invariant.served k lt none);
      counts = counts_stale c.args.problem.now.operators numbers c.pops.queue c.pop.new.self c.pops.counters.items n x entry (λ e. c.if-cost-index.false (sym e ∙ sym at)) c.pops.invariant.counts;
      proper = proper_popped numbers c.pops.queue c.pop.new.self n x entry c.pops.invariant.proper;
      unsettled = unsettled_stale numbers c.pops.queue c.pop.new.self n x entry c.args.problem.now.operators c.pops.counters.items c.pops.invariant.unsettled;
      below = c.pops.invariant.below;
    }

pub count_down_all-requires-clause-reached : goal.count_down_all-requires-clause-reached
count_down_all-requires-clause-reached c =
    let numbers = c.pops.numbers.items in
    let n = c.in-Some.cost in
    let x = c.in-Some.x in
    let rest = c.pop.new.self in
    let entry : IsPermutation c.pops.queue (key n x ∷ rest) = c.in-Some.ensures.entry in
    let Inside = λ (k : Key). k.1 < vec_len c.pops.numbers in
    let all = All-permutation Inside c.pops.queue _ entry c.pops.invariant.inside in
    let within = All-head Inside (key n x) rest all in
    let is : number_at numbers x ≡ n = sym (c.if-cost-index.true ∙ c.index.ensures ∙ get_or_default numbers x c.index.result.now unknown (omega arith)) in
    reached numbers c.pops.queue rest n x entry c.args.problem.now.operators c.pops.counters.items c.users.result.now is c.users.ensures.all c.pops.invariant.unsettled

pub pops-preserved-in-Continue-1 : goal.pops-preserved-in-Continue-1
pops-preserved-in-Continue-1 c =
    let os = c.args.problem.now.operators in
    let numbers = c.pops.numbers.items in
    let n = c.in-Some.cost in
    let x = c.in-Some.x in
    let rest = c.pop.new.self in
    let users = c.users.result.now in
    let fewer = c.count_down_all.new.counters.items in
    let new = c.count_down_all.new.numbers.items in
    let after = c.count_down_all.new.queue in
    let entry : IsPermutation c.pops.queue (key n x ∷ rest) = c.in-Some.ensures.entry in
    let Inside = λ (k : Key). k.1 < vec_len c.pops.numbers in
    let all = All-permutation Inside c.pops.queue _ entry c.pops.invariant.inside in
    let tail = All-tail Inside (key n x) rest all in
    let least : AreFrom n c.pops.queue = c.in-Some.ensures.least in
    let fallen = c.in_ok-count_down_all.ensures.fallen in
    let within = All-head Inside (key n x) rest all in
    let is : number_at numbers x ≡ n = sym (c.if-cost-index.true ∙ c.index.ensures ∙ get_or_default numbers x c.index.result.now unknown (omega arith)) in
    record {
      counted = c.count_down_all.ensures.counted ∙ c.pops.invariant.counted;
      len = c.count_down_all.ensures.len ∙ c.pops.invariant.len;
      inside = λ i d lt.
          let there = fallen.inside (λ j e less. let h = tail j e less in omega arith) i d lt in
          let same = c.count_down_all.ensures.len in
          omega arith;
      lower = λ y. let one = fallen.lower y in let two = c.pops.invariant.lower y in omega arith;
      served = served_settled os numbers c.pops.queue rest c.pops.counters.items users new after fewer n x entry fallen c.in_ok-count_down_all.ensures.lowered c.users.ensures.all c.in_ok-count_down_all.ensures.served c.pops.invariant.served;
      counts = counts_settled os numbers c.pops.queue rest c.pops.counters.items users new after fewer n x entry fallen c.in_ok-count_down_all.ensures.lowered c.users.ensures.all c.pops.invariant.counts;
      proper = fallen.proper (proper_popped numbers c.pops.queue rest n x entry c.pops.invariant.proper);
      unsettled = unsettled_settled numbers c.pops.queue rest n x entry os c.pops.counters.items users is c.users.ensures.all c.pops.invariant.unsettled c.pops.invariant.proper least new after fewer c.in_ok-count_down_all.ensures.stayed c.in_ok-count_down_all.ensures.lowered;
      below = λ values low below. c.in_ok-count_down_all.ensures.below values low (c.pops.invariant.below values low below);
    }

pub returns-clause-served : goal.returns-clause-served
returns-clause-served c = λ _.
    all_settled c.args.problem.now.operators c.pops.numbers.items c.pops.queue c.pops.counters.items (ap length c.in_default.ensures.none) c.pops.invariant.served c.pops.invariant.counts

pub returns-clause-settled : goal.returns-clause-settled
returns-clause-settled c =
    settled_all c.args.problem.now.operators c.pops.numbers.items c.args.wanted.now
    (all_settled c.args.problem.now.operators c.pops.numbers.items c.pops.queue c.pops.counters.items (ap length c.in_default.ensures.none) c.pops.invariant.served c.pops.invariant.counts)

pub are_low-requires : goal.are_low-requires
are_low-requires c = λ i d lt.
    let within = c.requires.wanted i d lt in
    let same = c.pops.invariant.len in
    omega (arith, within, same)

pub returns-then-are_low-clause-served : goal.returns-then-are_low-clause-served
returns-then-are_low-clause-served c = λ none.
    let some = c.are_low.ensures.some c.if-are_low.true in
    absurd (omega (arith, none, some))

pub returns-then-are_low-clause-settled : goal.returns-then-are_low-clause-settled
returns-then-are_low-clause-settled c = record {
  bound = c.in-Some.cost;
  low = subst (λ l. All (λ x. number_at l x ≤ c.in-Some.cost) c.args.wanted.now) c.as_slice.ensures.value (c.are_low.ensures.low c.if-are_low.true);
  serves =
      serves_before c.args.problem.now.operators c.pops.numbers.items c.pops.queue c.pops.counters.items c.in-Some.cost
      c.in-Some.ensures.least c.pops.invariant.served c.pops.invariant.counts;
}

pub index-requires : goal.index-requires
index-requires c =
    let n = c.in-Some.cost in
    let x = c.in-Some.x in
    let entry : IsPermutation c.pops.queue (key n x ∷ c.pop.new.self) = c.in-Some.ensures.entry in
    let Inside = λ (k : Key). k.1 < vec_len c.pops.numbers in
    All-head Inside (key n x) c.pop.new.self (All-permutation Inside c.pops.queue _ entry c.pops.invariant.inside)

pub users-requires : goal.users-requires
users-requires c =
    let n = c.in-Some.cost in
    let x = c.in-Some.x in
    let entry : IsPermutation c.pops.queue (key n x ∷ c.pop.new.self) = c.in-Some.ensures.entry in
    let Inside = λ (k : Key). k.1 < vec_len c.pops.numbers in
    let within = All-head Inside (key n x) c.pop.new.self (All-permutation Inside c.pops.queue _ entry c.pops.invariant.inside) in
    let same = c.pops.invariant.len in
    omega arith

pub pops-smaller : goal.pops-smaller
pops-smaller c =
    let n = c.in-Some.cost in
    let x = c.in-Some.x in
    let entry : IsPermutation c.pops.queue (key n x ∷ c.pop.new.self) = c.in-Some.ensures.entry in
    let long = length_permutation c.pops.queue (key n x ∷ c.pop.new.self) entry in
    omega arith

pub pops-smaller-in-Continue-1 : goal.pops-smaller-in-Continue-1
pops-smaller-in-Continue-1 c =
    let n = c.in-Some.cost in
    let x = c.in-Some.x in
    let entry : IsPermutation c.pops.queue (key n x ∷ c.pop.new.self) = c.in-Some.ensures.entry in
    let long = length_permutation c.pops.queue (key n x ∷ c.pop.new.self) entry in
    let lighter = c.in_ok-count_down_all.ensures.fallen.lighter in
    omega arith
