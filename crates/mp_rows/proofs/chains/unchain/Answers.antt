use Rattle.std.proofs.Common.{◌≡◌, ◌<◌, length, rules, ◌∙◌, arith}
use Rattle.std.proofs.lemmas.List.{get_or_read}
use Rattle.mp_rows.specs.Chains.{link_at, no_link}
use Rattle.mp_rows.specs.Hashes.{bucket}
use Rattle.mp_rows.proofs.ChainLemmas.{unchained_step}
use Rattle.mp_rows.proofs.chains.unchain.Goals as goal

pub returns-clause-chained : goal.returns-clause-chained
returns-clause-chained c =
    let heads = c.args.heads.now.items in
    let links = c.args.links.now.items in
    let n = c.args.number in
    let inside : n < length links = omega (arith, c.requires.last) in
    let len : c.len.result ≡ length heads = search rules in
    let read : c.index-link.result.now ≡ link_at links n = get_or_read links n _ inside c.index-link.ensures no_link in
    let b = c.bucket_of-bucket.result in
    let within : b < length heads = omega (arith, len, c.bucket_of-bucket.ensures.within) in
    let is : b ≡ bucket (length heads) (link_at links n).hash = c.bucket_of-bucket.ensures.is ∙ (λ j. bucket (len j) (read j).hash) in
    unchained_step heads links n b c.index-link.result.now c.requires.chained within is read
