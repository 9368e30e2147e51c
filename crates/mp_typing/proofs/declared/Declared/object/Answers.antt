use Rattle.mp_typing.proofs.Basics.{Some, None, List, ◌++◌, ◌∙◌, ap, sym, find, slice_get, bytes_eq, Factor, Typed, objects_of}
use Rattle.mp_forms.specs.FactorParts.{DomainParts, ProblemParts}
use Rattle.mp_typing.proofs.LookupLemmas.{first_at}
use Rattle.mp_typing.proofs.declared.Declared.object.Goals as goal

pub returns-in-Some : goal.returns-in-Some
returns-in-Some c =
    let entries = c.self.inside.objects in
    let at = c.in-Some.at in
    let name = c.args.name.now in
    let constants = c.as_slice.ensures ∙ ap (λ (d : DomainParts). d.constants) c.domain.view_is in
    let objects = c.as_slice-in-Some.ensures ∙ ap (λ (p : ProblemParts). p.objects) c.problem.view_is in
    let number = sym c.in-Some.is ∙ c.find.ensures in
    c.object_at.ensures
    ∙ ap (λ (os : List Typed). slice_get (os ++ c.as_slice-in-Some.result.now) at) constants
    ∙ ap (λ (os : List Typed). slice_get (c.self.inside.domain.now.constants ++ os) at) objects
    ∙ first_at entries _ name (Some at) c.self.invariant.0 number
    ∙ ap (λ (factor : Factor). find (λ (o : Typed). bytes_eq o.word.name name) (objects_of factor)) c.self.view_is

pub returns-in-None : goal.returns-in-None
returns-in-None c =
    let entries = c.self.inside.objects in
    let name = c.args.name.now in
    let number = sym c.in-None.is ∙ c.find.ensures in
    first_at entries _ name None c.self.invariant.0 number
    ∙ ap (λ (factor : Factor). find (λ (o : Typed). bytes_eq o.word.name name) (objects_of factor)) c.self.view_is
