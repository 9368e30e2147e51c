use Rattle.std.proofs.Common.{◌+◌, eqb, get_or, map, take, ap, sym, subst, arith}
use Rattle.std.proofs.lemmas.List.{get_or_read}
use Rattle.mp_pdb.specs.Masks.{Shows, SizedPattern}
use Rattle.mp_pdb.specs.Pattern.{is_in}
use Rattle.mp_pdb.proofs.MaskLemmas.{shows_or, shows_same, is_in_more}
use Rattle.mp_pdb.proofs.pattern.Pattern.mask.Goals as goal

pub loop-k-preserved : goal.loop-k-preserved
loop-k-preserved c =
    let i = c.loop-k.k-index in
    let xs = c.args.facts.now in
    let z = c.args.offset + get_or xs i 0 in
    let pattern = c.args.self.now.facts in
    let same_size = ap (λ (s : SizedPattern). s.size) c.self.view_is in
    let below = c.requires i 0 c.loop-k-test.true in
    let read = get_or_read c.self.inside.places.items z _ (omega arith) c.index.ensures 0 in
    let one : Shows pattern (λ y. eqb z y) c.index.result.now =
    subst (λ (s : SizedPattern). Shows s.facts (λ y. eqb z y) c.index.result.now) c.self.view_is
    (subst (Shows c.self.inside.facts.items (λ y. eqb z y)) (sym read) (c.self.invariant.shown z (omega arith))) in
    shows_same pattern _ _ _ (λ x. is_in_more (λ k. c.args.offset + k) xs i x c.loop-k-test.true)
    (shows_or pattern (is_in (map (λ k. c.args.offset + k) (take i xs))) (λ y. eqb z y) c.loop-k.mask c.index.result.now c.loop-k.invariant one)
