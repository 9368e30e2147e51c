use Rattle.std.proofs.Common.{◌≡◌, ◌<◌, List, ◌∷◌, ◌++◌, [], length, rules, sym, ap, subst, ◌∙◌, arith}
use Rattle.std.proofs.lemmas.List.{length-append}
use Rattle.mp_sets.specs.declared.tag.Tag.{Tag}
use Rattle.mp_store.specs.KeyRows.{tags_at, AreTags, HasGrown}
use Rattle.mp_store.proofs.KeyRowLemmas.{are_added, grown_by, grown_not}
use Rattle.mp_store.proofs.TagLemmas.{last_tags}
use Rattle.mp_store.proofs.keys.add_place.Goals as goal

pub returns-in_err-add_tags-clause-tags : goal.returns-in_err-add_tags-clause-tags
returns-in_err-add_tags-clause-tags c = subst AreTags (sym c.in_err-add_tags.ensures.err) c.requires.tags

pub returns-in_err-add_tags-clause-grown : goal.returns-in_err-add_tags-clause-grown
returns-in_err-add_tags-clause-grown c = subst (HasGrown c.args.tags.now.keys) (sym c.in_err-add_tags.ensures.err) (grown_not c.args.tags.now.keys)

pub returns-clause-place : goal.returns-clause-place
returns-clause-place c =
    let tags = c.args.tags.now.keys in
    let new = c.args.new.now in
    let is : c.len-place.result ≡ length tags = search rules in
    let P : List (List Tag) → Type 0 = λ ts. (c.len-place.result < length ts) × (tags_at ts c.len-place.result ≡ new) in
    subst P (sym c.in_ok-add_tags.ensures.added)
    (omega (arith, is, length-append tags (new ∷ [])), ap (tags_at (tags ++ new ∷ [])) is ∙ last_tags tags new)

pub returns-clause-tags : goal.returns-clause-tags
returns-clause-tags c = subst AreTags (sym c.in_ok-add_tags.ensures.added) (are_added c.args.tags.now.keys c.args.new.now c.requires.tags c.requires.new)

pub returns-clause-grown : goal.returns-clause-grown
returns-clause-grown c = subst (HasGrown c.args.tags.now.keys) (sym c.in_ok-add_tags.ensures.added) (grown_by c.args.tags.now.keys c.args.new.now)
