use Rattle.std.proofs.Common.{◌≡◌, ◌<◌, ◌≤◌, All, AllPairs, subst, sym, ap, ◌∙◌}
use Rattle.std.proofs.lemmas.Result.{IfOk-weaker}
use Rattle.mp_trail.specs.declared.steps.Timed.{Timed}
use Rattle.mp_trail.specs.Share.{fits, share}
use Rattle.mp_trail.proofs.ShareLemmas.{times_rise, times_within}
use Rattle.mp_trail.proofs.trail.Trail.share.Goals as goal

pub returns-clause-rising : goal.returns-clause-rising
returns-clause-rising c =
    let rise : AllPairs (λ (a later : Timed). a.time < later.time) (share c.args.length c.as_slice.result.now) =
    subst (λ ns. AllPairs (λ (a later : Timed). a.time < later.time) (share c.args.length ns)) (sym c.as_slice.ensures.value)
    (times_rise c.args.length c.self.inside.noted.items c.self.invariant (ap (fits c.args.length) c.self.view_is ∙ c.requires)) in
    IfOk-weaker c.timed.result (λ ts. ts ≡ share c.args.length c.as_slice.result.now)
    (λ ts. AllPairs (λ (a later : Timed). a.time < later.time) ts)
    (λ ts is. subst (λ us. AllPairs (λ (a later : Timed). a.time < later.time) us) (sym is) rise) c.timed.ensures

pub returns-clause-within : goal.returns-clause-within
returns-clause-within c =
    let within : All (λ (t : Timed). (1 ≤ t.time) × (t.time ≤ c.args.length)) (share c.args.length c.as_slice.result.now) =
    subst (λ ns. All (λ (t : Timed). (1 ≤ t.time) × (t.time ≤ c.args.length)) (share c.args.length ns)) (sym c.as_slice.ensures.value)
    (times_within c.args.length c.self.inside.noted.items (ap (fits c.args.length) c.self.view_is ∙ c.requires)) in
    IfOk-weaker c.timed.result (λ ts. ts ≡ share c.args.length c.as_slice.result.now)
    (λ ts. All (λ (t : Timed). (1 ≤ t.time) × (t.time ≤ c.args.length)) ts)
    (λ ts is. subst (λ us. All (λ (t : Timed). (1 ≤ t.time) × (t.time ≤ c.args.length)) us) (sym is) within) c.timed.ensures
