use Rattle.std.proofs.Common.{◌<◌, ◌∷◌, ap, refl, subst, sym, ◌∙◌, arith, vec_len}
use Rattle.std.proofs.lemmas.List.{get_or_default}
use Rattle.std.proofs.lemmas.List.Elements.{All-head, All-tail}
use Rattle.std.proofs.lemmas.List.Sorted.{All-permutation, length_permutation}
use Rattle.std.specs.List.Sorted.{IsPermutation}
use Rattle.mp_estimates.specs.Lowering.{Key, key, number_at, unknown}
use Rattle.mp_relaxed.specs.Search.{IsServed}
use Rattle.mp_relaxed.proofs.AgainLemmas.{again_settled}
use Rattle.mp_relaxed.proofs.SearchLemmas.{served_popped}
use Rattle.mp_relaxed.proofs.search.settle_again.Goals as goal

pub pops-init : goal.pops-init
pops-init c = record {
  len = refl;
  inside = c.requires.inside;
  lower = λ x. omega arith;
  served = λ all. all;
  below = λ values low below. below;
}

pub pops-preserved : goal.pops-preserved
pops-preserved c =
    let numbers = c.pops.numbers.items in
    let n = c.in-Some.cost in
    let x = c.in-Some.x in
    let entry : IsPermutation c.pops.queue (key n x ∷ c.pop.new.self) = c.in-Some.ensures.entry in
    let Inside = λ (k : Key). k.1 < vec_len c.pops.numbers in
    let all = All-permutation Inside c.pops.queue _ entry c.pops.invariant.inside in
    let within = All-head Inside (key n x) c.pop.new.self all in
    let at = c.index.ensures ∙ get_or_default numbers x c.index.result.now unknown (omega arith) in
    record {
      len = c.pops.invariant.len;
      inside = All-tail Inside (key n x) c.pop.new.self all;
      lower = c.pops.invariant.lower;
      served = λ start k lt.
          served_popped c.args.problem.now.operators numbers c.pops.queue c.pop.new.self n x k entry
          (λ i d less e f. c.if-cost-index.false (sym f ∙ ap (number_at numbers) e ∙ sym at))
          (c.pops.invariant.served start k lt);
      below = c.pops.invariant.below;
    }

pub pops-preserved-in-Continue-1 : goal.pops-preserved-in-Continue-1
pops-preserved-in-Continue-1 c =
    let os = c.args.problem.now.operators in
    let n = c.in-Some.cost in
    let x = c.in-Some.x in
    let rest = c.pop.new.self in
    let entry : IsPermutation c.pops.queue (key n x ∷ rest) = c.in-Some.ensures.entry in
    let Inside = λ (k : Key). k.1 < vec_len c.pops.numbers in
    let tail = All-tail Inside (key n x) rest (All-permutation Inside c.pops.queue _ entry c.pops.invariant.inside) in
    let fallen = c.in_ok-relax_users.ensures.fallen in
    record {
      len = c.relax_users.ensures.len ∙ c.pops.invariant.len;
      inside = λ i d lt.
          let there = fallen.inside (λ j e less. let h = tail j e less in omega arith) i d lt in
          let same = c.relax_users.ensures.len in
          omega arith;
      lower = λ y. let one = fallen.lower y in let two = c.pops.invariant.lower y in omega arith;
      served = λ start k lt.
          again_settled os c.pops.numbers.items c.pops.queue rest n x c.users.result.now c.relax_users.new.numbers.items c.relax_users.new.queue entry fallen c.users.ensures.all c.in_ok-relax_users.ensures.served k lt
          (c.pops.invariant.served start k lt);
      below = λ values low below. c.in_ok-relax_users.ensures.below values low (c.pops.invariant.below values low below);
    }

pub returns-clause-served : goal.returns-clause-served
returns-clause-served c = λ start k lt.
    subst (λ queue. IsServed c.args.problem.now.operators c.pops.numbers.items queue k) c.in_default.ensures.none (c.pops.invariant.served start k lt)

pub index-requires : goal.index-requires
index-requires c =
    let n = c.in-Some.cost in
    let x = c.in-Some.x in
    let entry : IsPermutation c.pops.queue (key n x ∷ c.pop.new.self) = c.in-Some.ensures.entry in
    let Inside = λ (k : Key). k.1 < vec_len c.pops.numbers in
    All-head Inside (key n x) c.pop.new.self (All-permutation Inside c.pops.queue _ entry c.pops.invariant.inside)

pub users-requires : goal.users-requires
users-requires c =
    let n = c.in-Some.cost in
    let x = c.in-Some.x in
    let entry : IsPermutation c.pops.queue (key n x ∷ c.pop.new.self) = c.in-Some.ensures.entry in
    let Inside = λ (k : Key). k.1 < vec_len c.pops.numbers in
    let within = All-head Inside (key n x) c.pop.new.self (All-permutation Inside c.pops.queue _ entry c.pops.invariant.inside) in
    let same = c.pops.invariant.len in
    omega arith

pub pops-smaller : goal.pops-smaller
pops-smaller c =
    let n = c.in-Some.cost in
    let x = c.in-Some.x in
    let entry : IsPermutation c.pops.queue (key n x ∷ c.pop.new.self) = c.in-Some.ensures.entry in
    let long = length_permutation c.pops.queue (key n x ∷ c.pop.new.self) entry in
    omega arith

pub pops-smaller-in-Continue-1 : goal.pops-smaller-in-Continue-1
pops-smaller-in-Continue-1 c =
    let n = c.in-Some.cost in
    let x = c.in-Some.x in
    let entry : IsPermutation c.pops.queue (key n x ∷ c.pop.new.self) = c.in-Some.ensures.entry in
    let long = length_permutation c.pops.queue (key n x ∷ c.pop.new.self) entry in
    let lighter = c.in_ok-relax_users.ensures.fallen.lighter in
    omega arith

pub relax_users-requires-clause-inside : goal.relax_users-requires-clause-inside
relax_users-requires-clause-inside c =
    let n = c.in-Some.cost in
    let x = c.in-Some.x in
    let entry : IsPermutation c.pops.queue (key n x ∷ c.pop.new.self) = c.in-Some.ensures.entry in
    let Inside = λ (k : Key). k.1 < vec_len c.pops.numbers in
    let within = All-head Inside (key n x) c.pop.new.self (All-permutation Inside c.pops.queue _ entry c.pops.invariant.inside) in
    let same = c.pops.invariant.len in
    omega arith
