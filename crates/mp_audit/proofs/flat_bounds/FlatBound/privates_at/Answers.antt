use Rattle.std.proofs.Common.{◌≡◌, length, slice_get, Some, sym, ap, ◌∙◌, arith, length-drop}
use Rattle.std.proofs.lemmas.Option.{get_or_from_slice_get}
use Rattle.mp_audit.specs.declared.certificate.Bound.{Bound}
use Rattle.mp_audit.proofs.FlatBoundLemmas.{private_there}
use Rattle.mp_audit.proofs.flat_bounds.FlatBound.privates_at.Goals as goal

pub behind-requires : goal.behind-requires
behind-requires c =
    let lists = c.self.inside.lists in
    let same = ap (λ (b : Bound). length b.privates) c.self.view_is in
    omega (arith, length-drop 1 lists, same)

pub returns-clause-privates : goal.returns-clause-privates
returns-clause-privates c =
    let lists = c.self.inside.lists in
    ap (λ (b : Bound). slice_get b.privates c.args.place) (sym c.self.view_is) ∙ private_there lists c.args.place ∙ c.behind.ensures.list

pub returns-clause-is : goal.returns-clause-is
returns-clause-is c =
    let lists = c.self.inside.lists in
    let there : slice_get c.args.self.now.privates c.args.place ≡ Some c.behind.result.now =
    ap (λ (b : Bound). slice_get b.privates c.args.place) (sym c.self.view_is) ∙ private_there lists c.args.place ∙ c.behind.ensures.list in
    sym (get_or_from_slice_get c.args.self.now.privates c.args.place c.behind.result.now c.behind.result.now there)
