use Rattle.std.proofs.Common.{◌≡◌, ◌<◌, length, get_or, rules, ◌∙◌, arith}
use Rattle.std.proofs.lemmas.List.{get_or_read}
use Rattle.mp_rows.specs.Chains.{link_at, no_link}
use Rattle.mp_rows.specs.Hashes.{bucket}
use Rattle.mp_rows.proofs.ChainLemmas.{chained_step, led_places}
use Rattle.mp_rows.proofs.chains.chain.Goals as goal

pub returns-clause-chained : goal.returns-clause-chained
returns-clause-chained c =
    let heads = c.args.heads.now.items in
    let links = c.args.links.now.items in
    let n = c.args.number in
    let len : c.len.result ≡ length heads = search rules in
    let read : c.index.result.now ≡ link_at links n = get_or_read links n _ c.requires.inside c.index.ensures no_link in
    let b = c.bucket_of-bucket.result in
    let within : b < length heads = omega (arith, len, c.bucket_of-bucket.ensures.within) in
    let is : b ≡ bucket (length heads) (link_at links n).hash = c.bucket_of-bucket.ensures.is ∙ (λ j. bucket (len j) (read j).hash) in
    let at : c.index-2.result.now ≡ get_or heads b 0 = get_or_read heads b _ within c.index-2.ensures 0 in
    let written : c.index_mut.result.now ≡ link_at links n = get_or_read links n _ c.requires.inside c.index_mut.ensures.value no_link in
    chained_step heads links n b c.index-2.result.now c.index_mut.result.now c.requires.chained c.requires.inside within is at written

pub returns-clause-places : goal.returns-clause-places
returns-clause-places c =
    let links = c.args.links.now.items in
    let n = c.args.number in
    led_places links n c.index-2.result.now c.index_mut.result.now (get_or_read links n _ c.requires.inside c.index_mut.ensures.value no_link)
