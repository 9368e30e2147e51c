use Rattle.std.proofs.Common.{◌≡◌, ◌≤◌, ◌<◌, [], true, All, Contains, get_or, length, ◌∙◌, subst, sym, arith}
use Rattle.std.proofs.lemmas.List.{get_or_default}
use Rattle.std.proofs.lemmas.List.Elements.{Contains-get_or}
use Rattle.mp_estimates.specs.Lowering.{value_at}
use Rattle.mp_relaxed.specs.Relaxed.{HasAdders, operator_at}
use Rattle.mp_relaxed.specs.Users.{times}
use Rattle.mp_lmcut.specs.Cut.{in_cut}
use Rattle.mp_lmcut.proofs.ListedLemmas.{adders_enter}
use Rattle.mp_lmcut.proofs.ZoneLemmas.{at_times, times_any}
use Rattle.mp_lmcut.proofs.costs.note_adders.Goals as goal

pub note_each-requires-clause-operators : goal.note_each-requires-clause-operators
note_each-requires-clause-operators c =
    let inside : c.args.x < length c.args.adders.now = omega (arith, c.requires.adders.sized) in
    subst (All (λ k. k < length c.args.problem.now.operators)) (sym (c.as_slice-row.ensures ∙ c.index-adders-x.is))
    (c.requires.adders.below c.args.x c.index-adders-x.result inside)

pub note_each-requires-clause-enter : goal.note_each-requires-clause-enter
note_each-requires-clause-enter c =
    let v = value_at c.args.numbers.now in
    let os = c.args.problem.now.operators in
    let goals = c.args.problem.now.goals in
    let inside : c.args.x < length c.args.adders.now = omega (arith, c.requires.adders.sized) in
    let row = c.as_slice-row.ensures ∙ c.index-adders-x.is in
    adders_enter v os goals c.args.x c.as_slice-row.result.now
    (subst (HasAdders os c.args.x) (sym (row ∙ get_or_default c.args.adders.now c.args.x c.index-adders-x.result [] inside)) (c.requires.adders.all c.args.x))
    (subst (All (λ k. k < length os)) (sym row) (c.requires.adders.below c.args.x c.index-adders-x.result inside))
    c.requires.inside

pub returns-clause-each : goal.returns-clause-each
returns-clause-each c = λ s h k within adding e.
    let v = value_at c.args.numbers.now in
    let os = c.args.problem.now.operators in
    let goals = c.args.problem.now.goals in
    let row = c.as_slice-row.result.now in
    let inside : c.args.x < length c.args.adders.now = omega (arith, c.requires.adders.sized) in
    let has = subst (HasAdders os c.args.x)
    (sym (c.as_slice-row.ensures ∙ c.index-adders-x.is ∙ get_or_default c.args.adders.now c.args.x c.index-adders-x.result [] inside))
    (c.requires.adders.all c.args.x) in
    let added = times_any c.args.x (operator_at os k).add adding in
    let listed = has k within in
    let often : 1 ≤ times k row = omega arith in
    at_times (λ j. in_cut v os goals s (operator_at os j) ≡ true → Contains c.note_each.new.cut.items j) k row
    (λ j lt. c.in_ok-note_each.ensures.each s h (get_or row j 0) (Contains-get_or row j 0 lt))
    often e
