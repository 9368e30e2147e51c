use Rattle.std.proofs.Common.{◌≡◌, ◌+◌, ◌∷◌, [], length, get_or, append-nil, sym, ap, refl, ◌∙◌, arith}
use Rattle.std.proofs.lemmas.List.{length-append}
use Rattle.mp_pdb.specs.Masks.{SizedPattern}
use Rattle.mp_pdb.proofs.MaskLemmas.{first_full, first_all, more_facts}
use Rattle.mp_pdb.proofs.pattern.Pattern.push_first.Goals as goal

pub loop-k-init : goal.loop-k-init
loop-k-init c = record {
  size = refl;
  left = (let few = c.len-room.ensures.few in let long = c.len-room.ensures.len in omega arith);
  facts = sym (append-nil c.args.self.now.facts);
}

pub overflow_add-offset : goal.overflow_add-offset
overflow_add-offset c =
    let small = c.len-room.ensures.small in
    let size = c.loop-k.invariant.size in
    let below = c.requires c.loop-k.k-index 0 c.loop-k-test.true in
    omega arith

pub loop-k-preserved : goal.loop-k-preserved
loop-k-preserved c =
    let i = c.loop-k.k-index in
    let xs = c.args.facts.now in
    let new = ap (λ (s : SizedPattern). s.facts) c.in_ok-push.ensures in
    let longer = length-append c.loop-k.self.facts ((c.args.offset + get_or xs i 0) ∷ []) in
    let long = ap length new in
    let left = c.loop-k.invariant.left in
    record {
      size = ap (λ (s : SizedPattern). s.size) c.in_ok-push.ensures ∙ c.loop-k.invariant.size;
      left = omega arith;
      facts = new ∙ more_facts (λ k. c.args.offset + k) c.args.self.now.facts xs c.loop-k.self.facts i c.loop-k-test.true c.loop-k.invariant.facts;
    }

pub returns-then-room-eq0 : goal.returns-then-room-eq0
returns-then-room-eq0 c =
    let left = c.loop-k.invariant.left in
    let none = c.if-room-eq0.true in
    let full : length c.loop-k.self.facts ≡ 12 = omega arith in
    λ j. record {
      size = c.loop-k.invariant.size j;
      facts = (c.loop-k.invariant.facts ∙ first_full (λ k. c.args.offset + k) c.args.self.now.facts c.args.facts.now c.loop-k.k-index (sym (ap length c.loop-k.invariant.facts) ∙ full)) j;
    }

pub returns : goal.returns
returns c =
    let left = c.loop-k.invariant.left in
    let long = ap length c.loop-k.invariant.facts in
    λ j. record {
      size = c.loop-k.invariant.size j;
      facts = (c.loop-k.invariant.facts ∙ first_all (λ k. c.args.offset + k) c.args.self.now.facts c.args.facts.now c.loop-k.k-index (omega arith) (omega arith)) j;
    }
