use Rattle.std.proofs.Common.{◌≡◌, ◌<◌, ◌∷◌, sym, subst, ◌∙◌, arith, vec_len}
use Rattle.std.proofs.lemmas.List.{get_or_default}
use Rattle.std.proofs.lemmas.List.Elements.{All-head, All-tail}
use Rattle.std.proofs.lemmas.List.Sorted.{All-permutation, length_permutation}
use Rattle.std.specs.List.Sorted.{IsPermutation}
use Rattle.mp_estimates.specs.Estimates.{AtMost}
use Rattle.mp_estimates.specs.Lowering.{Key, key, known, number_at, unknown}
use Rattle.mp_pdb.specs.Table.{AreLow}
use Rattle.mp_pdb.proofs.TableLemmas.{served_settled, served_stale}
use Rattle.mp_pdb.proofs.table.settle.Goals as goal

pub index-requires : goal.index-requires
index-requires c =
    let entry : IsPermutation c.pops.queue (key c.in-Some.number c.in-Some.mask ∷ c.pop.new.self) = c.in-Some.ensures.entry in
    let Inside = λ (k : Key). k.1 < vec_len c.pops.numbers in
    All-head Inside (key c.in-Some.number c.in-Some.mask) c.pop.new.self (All-permutation Inside c.pops.queue _ entry c.pops.invariant.inside)

pub relax_all-requires-clause-inside : goal.relax_all-requires-clause-inside
relax_all-requires-clause-inside c =
    let entry : IsPermutation c.pops.queue (key c.in-Some.number c.in-Some.mask ∷ c.pop.new.self) = c.in-Some.ensures.entry in
    let Inside = λ (k : Key). k.1 < vec_len c.pops.numbers in
    All-head Inside (key c.in-Some.number c.in-Some.mask) c.pop.new.self (All-permutation Inside c.pops.queue _ entry c.pops.invariant.inside)

pub pops-smaller : goal.pops-smaller
pops-smaller c =
    let entry : IsPermutation c.pops.queue (key c.in-Some.number c.in-Some.mask ∷ c.pop.new.self) = c.in-Some.ensures.entry in
    let long = length_permutation c.pops.queue (key c.in-Some.number c.in-Some.mask ∷ c.pop.new.self) entry in
    omega arith

pub pops-smaller-in-Continue-1 : goal.pops-smaller-in-Continue-1
pops-smaller-in-Continue-1 c =
    let entry : IsPermutation c.pops.queue (key c.in-Some.number c.in-Some.mask ∷ c.pop.new.self) = c.in-Some.ensures.entry in
    let long = length_permutation c.pops.queue (key c.in-Some.number c.in-Some.mask ∷ c.pop.new.self) entry in
    let lighter = c.in_ok-relax_all.ensures.fallen.lighter in
    omega arith

pub pops-preserved : goal.pops-preserved
pops-preserved c =
    let numbers = c.pops.numbers.items in
    let n = c.in-Some.number in
    let x = c.in-Some.mask in
    let entry : IsPermutation c.pops.queue (key n x ∷ c.pop.new.self) = c.in-Some.ensures.entry in
    let Inside = λ (k : Key). k.1 < vec_len c.pops.numbers in
    let all = All-permutation Inside c.pops.queue _ entry c.pops.invariant.inside in
    let within = All-head Inside (key n x) c.pop.new.self all in
    let at = c.index.ensures ∙ get_or_default numbers x c.index.result.now unknown (omega arith) in
    record {
      len = c.pops.invariant.len;
      inside = All-tail Inside (key n x) c.pop.new.self all;
      lower = c.pops.invariant.lower;
      served = λ mask lt k d less.
          served_stale numbers c.pops.queue c.pop.new.self n x _ mask entry (λ e. c.if-number-index.false (sym e ∙ sym at)) (c.pops.invariant.served mask lt k d less);
      below = c.pops.invariant.below;
    }

pub pops-preserved-in-Continue-1 : goal.pops-preserved-in-Continue-1
pops-preserved-in-Continue-1 c =
    let numbers = c.pops.numbers.items in
    let n = c.in-Some.number in
    let x = c.in-Some.mask in
    let rest = c.pop.new.self in
    let new = c.relax_all.new.numbers.items in
    let after = c.relax_all.new.queue in
    let entry : IsPermutation c.pops.queue (key n x ∷ rest) = c.in-Some.ensures.entry in
    let Inside = λ (k : Key). k.1 < vec_len c.pops.numbers in
    let all = All-permutation Inside c.pops.queue _ entry c.pops.invariant.inside in
    let tail = All-tail Inside (key n x) rest all in
    let within = All-head Inside (key n x) rest all in
    let fallen = c.in_ok-relax_all.ensures.fallen in
    let long = c.pops.invariant.len in
    let is : number_at numbers x ≡ n = sym (c.if-number-index.true ∙ c.index.ensures ∙ get_or_default numbers x c.index.result.now unknown (omega arith)) in
    record {
      len = c.relax_all.ensures.len ∙ c.pops.invariant.len;
      inside = λ i d lt.
          let there = fallen.inside (λ j e less. let h = tail j e less in omega arith) i d lt in
          let same = c.relax_all.ensures.len in
          omega arith;
      lower = λ y. let one = fallen.lower y in let two = c.pops.invariant.lower y in omega arith;
      served = λ mask lt k d less.
          served_settled (vec_len c.pops.numbers) numbers c.pops.queue rest n x new after _ mask entry is fallen (c.in_ok-relax_all.ensures.reached k d less) (omega arith) (c.pops.invariant.served mask lt k d less);
      below = λ values low start.
          c.in_ok-relax_all.ensures.below values
          (subst (λ size. AreLow size c.args.moves.now values) (sym long) low)
          (subst (λ m. AtMost (values x) (known m)) is (c.pops.invariant.below values low start x))
          (c.pops.invariant.below values low start);
    }
