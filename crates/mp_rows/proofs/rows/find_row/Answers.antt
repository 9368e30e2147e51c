use Rattle.std.proofs.Common.{◌≡◌, ℕ, suc, ◌-◌, ◌<◌, ◌++◌, length, get_or, sym, ap, subst, ◌∙◌, arith}
use Rattle.std.proofs.lemmas.Bool.{both_ways}
use Rattle.mp_rows.specs.Hashes.{bucket, hash_of}
use Rattle.mp_rows.proofs.FindLemmas.{scan_next, scan_start, IsScan}
use Rattle.mp_rows.proofs.RowLemmas.{hashed_at, inside_at}
use Rattle.mp_rows.proofs.rows.find_row.Goals as goal

pub loop-last-init : goal.loop-last-init
loop-last-init c =
    let heads = c.args.heads.now in
    let sought = c.args.front.now ++ c.args.back.now in
    let is : c.bucket_of.result ≡ bucket (length heads) (hash_of sought) = c.bucket_of.ensures.is ∙ ap (bucket (length heads)) c.hash_of-hash.ensures in
    subst (λ (b : ℕ). IsScan c.args.words.now c.args.links.now (length heads) sought (get_or heads b 0)) (sym is)
    (scan_start c.args.words.now c.args.links.now heads sought c.requires (subst (λ (b : ℕ). b < length heads) is c.bucket_of.ensures.within))

pub has_row-requires-clause-within : goal.has_row-requires-clause-within
has_row-requires-clause-within c =
    inside_at c.args.words.now c.args.links.now (c.loop-last.last - 1) c.requires.placed (let w = c.loop-last.invariant.within in omega (arith, w, c.loop-last-test.true))

pub has_row-requires-clause-hashed : goal.has_row-requires-clause-hashed
has_row-requires-clause-hashed c =
    hashed_at c.args.words.now c.args.links.now (c.loop-last.last - 1) c.requires.placed (let w = c.loop-last.invariant.within in omega (arith, w, c.loop-last-test.true))

pub loop-last-preserved : goal.loop-last-preserved
loop-last-preserved c =
    let sought = c.args.front.now ++ c.args.back.now in
    let n : ℕ = c.loop-last.last - 1 in
    let is : c.loop-last.last ≡ suc n = omega (arith, c.loop-last-test.true) in
    let inside : n < length c.args.links.now = (let w = c.loop-last.invariant.within in omega (arith, w, c.loop-last-test.true)) in
    scan_next c.args.words.now c.args.links.now c.args.heads.now sought n c.requires inside
    (λ same. both_ways c.has_row.result c.if-has_row.false (c.has_row.ensures.1 same))
    (subst (IsScan c.args.words.now c.args.links.now (length c.args.heads.now) sought) is c.loop-last.invariant)
