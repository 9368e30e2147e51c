use Rattle.mp_typing.proofs.Basics.{◌≡◌, ◌∷◌, ◌++◌, [], List, Bor, map, sym, subst, ap, ◌∙◌, map-append, Typed, AreFound}
use Rattle.mp_typing.proofs.Listing.{found_new, found_old}
use Rattle.mp_typing.proofs.declared.Objects.add.Goals as goal

pub returns-in_ok-push : goal.returns-in_ok-push
returns-in_ok-push c = λ before at found.
    let t = c.args.object.now in
    let now = λ (o : Bor Typed). o.now in
    let old = c.args.self.now.listed.items in
    let pushed : map now c.push.new.self.items ≡ map now old ++ t ∷ [] =
    ap (λ (os : List (Bor Typed)). map now os) c.in_ok-push.ensures.items ∙ map-append now old (c.args.object ∷ []) in
    subst (λ (ts : List Typed). AreFound (before ++ t ∷ []) c.add.new.self ts) (sym pushed)
    (found_new before (map now old) t c.args.place c.in_ok-add.field-0 c.args.self.now.places c.add.new.self at found
    c.in_ok-add.ensures.new c.if-branch.true c.in_ok-add.ensures.added)

pub returns-else-branch : goal.returns-else-branch
returns-else-branch c = λ before at found.
    found_old before _ c.args.object.now c.args.place c.in_ok-add.field-0 c.args.self.now.places c.add.new.self at found
    c.in_ok-add.ensures.new c.if-branch.false c.in_ok-add.ensures.added
