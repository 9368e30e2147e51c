use Rattle.std.proofs.Common.{List, ◌∷◌, Bool, All, map, reverse, sym, ap, ◌∙◌, subst}
use Rattle.std.specs.Prelude.{nat_lt}
use Rattle.std.proofs.lemmas.Bool.{and_parts, ltb-true}
use Rattle.std.proofs.lemmas.List.Elements.{All-push}
use Rattle.mp_schedule.specs.Machines.{tasks_of}
use Rattle.mp_audit.specs.declared.certificate.Bound.{Bound}
use Rattle.mp_audit.specs.LastCut.{said_by}
use Rattle.mp_certify.specs.Made.{shown_worth, with_first}
use Rattle.mp_certify.specs.Team.{IsOfTeam}
use Rattle.mp_certify.proofs.MadeLemmas.{turned_more}
use Rattle.mp_certify.proofs.bounds.add_if.Goals as goal

pub bound_of-requires-clause-cheap : goal.bound_of-requires-clause-cheap
bound_of-requires-clause-cheap g c =
    let x = c.args.shown.now in
    ltb-true x.g c.args.cost (and_parts (nat_lt x.g c.args.cost) c.args.fresh (sym c.has_bound.ensures ∙ c.if-has_bound.true)).0

pub returns-then-has_bound-clause-said : goal.returns-then-has_bound-clause-said
returns-then-has_bound-clause-said g c =
    let old = c.args.made.now.items in
    let one = shown_worth c.args.machines.now c.args.cost c.args.me c.args.shown.now in
    ap (λ (bs : List Bound). map said_by (reverse bs)) c.in_ok-push.ensures.items
    ∙ turned_more old c.in_ok-bound.bound
    ∙ (λ j. c.in_ok-bound.ensures.said j ∷ map said_by (reverse old))
    ∙ ap (λ (b : Bool). with_first b one (map said_by (reverse old))) (sym (sym c.has_bound.ensures ∙ c.if-has_bound.true))

pub returns-then-has_bound-clause-team : goal.returns-then-has_bound-clause-team
returns-then-has_bound-clause-team g c = λ all.
    let fits = IsOfTeam (tasks_of c.args.machines.now) in
    subst (All fits) (sym c.in_ok-push.ensures.items) (All-push fits c.args.made.now.items c.in_ok-bound.bound all c.in_ok-bound.ensures.team)

pub returns-clause-said : goal.returns-clause-said
returns-clause-said g c =
    let old = c.args.made.now.items in
    let one = shown_worth c.args.machines.now c.args.cost c.args.me c.args.shown.now in
    ap (λ (b : Bool). with_first b one (map said_by (reverse old))) (sym (sym c.has_bound.ensures ∙ c.if-has_bound.false))

pub returns-clause-team : goal.returns-clause-team
returns-clause-team g c = λ all. all
