use Rattle.std.proofs.Common.{◌≡◌, List, All, Some, None, sym, ap, subst, ◌∙◌}
use Rattle.std.specs.Option.{option_copied}
use Rattle.std.specs.Prelude.{slice_get}
use Rattle.mp_forms.specs.FactorParts.{DomainParts}
use Rattle.mp_forms.specs.Limits.{SchemaFits}
use Rattle.mp_forms.specs.declared.schema_values.Schema.{Schema}
use Rattle.mp_forms.specs.declared.factor.Factor.{Factor}
use Rattle.mp_sexp.specs.Numbers.{place_in}
use Rattle.mp_checker.specs.AgentView.{AgentView, names_of, factor_of}
use Rattle.mp_checker.specs.Words.{names_of_schema}
use Rattle.mp_checker.proofs.CoversLemmas.{covers_at}
use Rattle.mp_checker.proofs.TakenLemmas.{has_numbers, no_such_action, an_action, stands_there, is_found, fits_there, action_there, action_not_past, schemas_covered}
use Rattle.mp_checker.proofs.found.found_action.Goals as goal

pub returns-in_default : goal.returns-in_default
returns-in_default c =
    let v = c.args.factor.now in
    let n = has_numbers c.factor.inside v c.factor.view_is c.factor.invariant in
    no_such_action (factor_of v) c.factor.inside.action_names c.args.name.now n.action_names
    (ap (place_in c.factor.inside.action_names) (sym c.as_slice.ensures.bytes) ∙ sym c.find.ensures ∙ c.in_default.is)

pub returns-in_default-get : goal.returns-in_default-get
returns-in_default-get c =
    let v = c.args.factor.now in
    let n = has_numbers c.factor.inside v c.factor.view_is c.factor.invariant in
    let found = an_action (factor_of v) c.factor.inside.action_names c.args.name.now c.in-Some.place n.action_names
    (ap (place_in c.factor.inside.action_names) (sym c.as_slice.ensures.bytes) ∙ sym c.find.ensures ∙ c.in-Some.is) in
    let checked : c.factor-2.result.now ≡ factor_of v = c.factor-2.ensures.same ∙ ap (λ (w : AgentView). factor_of w) c.factor.view_is in
    let schemas = ap (λ (d : DomainParts). d.schemas) c.domain.view_is ∙ ap (λ (w : Factor). w.domain.schemas) checked in
    let none : slice_get (factor_of v).domain.schemas c.in-Some.place ≡ None =
    ap (λ (ss : List Schema). slice_get ss c.in-Some.place) (sym schemas) ∙ sym c.get.ensures ∙ ap option_copied c.in_default-get.is in
    let some = stands_there c.args.name.now (factor_of v).domain.schemas c.in-Some.place found in
    absurd (let e = sym none ∙ some in cc)

pub returns-in_default-get-2 : goal.returns-in_default-get-2
returns-in_default-get-2 c =
    let v = c.args.factor.now in
    let n = has_numbers c.factor.inside v c.factor.view_is c.factor.invariant in
    let checked : c.factor-2.result.now ≡ factor_of v = c.factor-2.ensures.same ∙ ap (λ (w : AgentView). factor_of w) c.factor.view_is in
    let schemas = ap (λ (d : DomainParts). d.schemas) c.domain.view_is ∙ ap (λ (w : Factor). w.domain.schemas) checked in
    let at : slice_get (factor_of v).domain.schemas c.in-Some.place ≡ Some c.in-Some-get.schema.now =
    ap (λ (ss : List Schema). slice_get ss c.in-Some.place) (sym schemas) ∙ sym c.get.ensures ∙ ap option_copied c.in-Some-get.is in
    absurd (action_not_past (names_of v) (factor_of v) c.factor.inside.actions c.in-Some.place c.in-Some-get.schema.now n.actions at
    (sym c.get-2.ensures ∙ ap option_copied c.in_default-get-2.is))

pub returns : goal.returns
returns c =
    let v = c.args.factor.now in
    let n = has_numbers c.factor.inside v c.factor.view_is c.factor.invariant in
    let found = an_action (factor_of v) c.factor.inside.action_names c.args.name.now c.in-Some.place n.action_names
    (ap (place_in c.factor.inside.action_names) (sym c.as_slice.ensures.bytes) ∙ sym c.find.ensures ∙ c.in-Some.is) in
    let checked : c.factor-2.result.now ≡ factor_of v = c.factor-2.ensures.same ∙ ap (λ (w : AgentView). factor_of w) c.factor.view_is in
    let schemas = ap (λ (d : DomainParts). d.schemas) c.domain.view_is ∙ ap (λ (w : Factor). w.domain.schemas) checked in
    let at : slice_get (factor_of v).domain.schemas c.in-Some.place ≡ Some c.in-Some-get.schema.now =
    ap (λ (ss : List Schema). slice_get ss c.in-Some.place) (sym schemas) ∙ sym c.get.ensures ∙ ap option_copied c.in-Some-get.is in
    record {
      first = is_found c.args.name.now (factor_of v).domain.schemas c.in-Some.place c.in-Some-get.schema.now found at;
      numbered =
          action_there (names_of v) (factor_of v) c.factor.inside.actions c.in-Some.place c.in-Some-get.schema.now c.in-Some-get-2.action.now n.actions at
          (sym c.get-2.ensures ∙ ap option_copied c.in-Some-get-2.is);
      fits =
          fits_there (factor_of v).domain.schemas c.in-Some.place c.in-Some-get.schema.now
          (subst (λ (w : Factor). All SchemaFits w.domain.schemas) checked c.comes_from_a_file.ensures.limits) at;
      covers = covers_at names_of_schema (names_of v) (factor_of v).domain.schemas c.in-Some.place c.in-Some-get.schema.now (schemas_covered (names_of v) (factor_of v) n.covers) at;
    }
