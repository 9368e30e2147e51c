use Rattle.std.proofs.Common.{◌≡◌, ◌∙◌, ◌∷◌, ◌++◌, [], List, ℕ, Some, ap, length, slice_get, sym}
use Rattle.mp_certificates.proofs.TakenLemmas.{all_taken, fewer_left, one_more_taken}
use Rattle.mp_certificates.proofs.from_flat.private_lists.Goals as goal

pub loop-facts-preserved : goal.loop-facts-preserved
loop-facts-preserved c =
    let lists = c.loop-facts.lists in
    let privates = c.args.entry.now.privates in
    let facts = c.in-Some.facts.now in
    let there : slice_get privates (length lists) ≡ Some facts = sym (c.in-Some.ensures.privates ∙ ap (slice_get privates) c.len.ensures) in
    let is : c.push.new.self ≡ lists ++ facts ∷ [] =
    c.in_ok-push.ensures.ok ∙ ap (λ (l : List ℕ). lists ++ l ∷ []) c.in_ok-fact_list.ensures in
    one_more_taken privates lists c.loop-facts.invariant facts c.push.new.self there is

pub loop-facts-smaller : goal.loop-facts-smaller
loop-facts-smaller c =
    let lists = c.loop-facts.lists in
    let privates = c.args.entry.now.privates in
    let facts = c.in-Some.facts.now in
    let there : slice_get privates (length lists) ≡ Some facts = sym (c.in-Some.ensures.privates ∙ ap (slice_get privates) c.len.ensures) in
    let is : c.push.new.self ≡ lists ++ facts ∷ [] =
    c.in_ok-push.ensures.ok ∙ ap (λ (l : List ℕ). lists ++ l ∷ []) c.in_ok-fact_list.ensures in
    fewer_left privates lists c.loop-facts.invariant facts c.push.new.self there is

pub returns : goal.returns
returns c =
    let privates = c.args.entry.now.privates in
    all_taken privates c.loop-facts.lists c.loop-facts.invariant
    (sym (c.in_default.ensures.privates ∙ ap (slice_get privates) c.len.ensures))
