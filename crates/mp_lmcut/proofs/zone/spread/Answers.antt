use Rattle.std.proofs.Common.{◌≡◌, ◌<◌, [], ◌∷◌, true, All, Contains, ap, sym, ◌∙◌, subst, length, arith}
use Rattle.std.proofs.lemmas.List.{get_or_default}
use Rattle.std.proofs.lemmas.List.Elements.{All-append, All-cons, All-nil, Contains-append_left, Contains-push}
use Rattle.mp_relaxed.specs.Relaxed.{HasAdders}
use Rattle.mp_estimates.specs.Lowering.{value_at}
use Rattle.mp_lmcut.specs.Cut.{in_zone}
use Rattle.mp_lmcut.specs.Marked.{is_marked}
use Rattle.mp_lmcut.specs.Sides.{IsFollowed}
use Rattle.mp_lmcut.proofs.MarkLemmas.{marked_below, popped_marked, reached_all, reaching_step, reaching_wider}
use Rattle.mp_lmcut.proofs.ZoneLemmas.{followed_kept}
use Rattle.mp_lmcut.proofs.zone.spread.Goals as goal

pub bounds-adders-x : goal.bounds-adders-x
bounds-adders-x c =
    let v = value_at c.args.numbers.now in
    let os = c.args.problem.now.operators in
    let goals = c.args.problem.now.goals in
    let inside = marked_below c.facts.marks.flags c.in-Some.x
    (popped_marked (λ y. in_zone v os goals y ≡ true) (IsFollowed v os c.facts.inside.items) (followed_kept v os c.facts.inside.items) c.facts.marks c.next.new.self c.next.new.self c.in-Some.x c.in-Some.ensures.flags c.in-Some.ensures.some c.facts.invariant.reaching) in
    omega (arith, c.facts.invariant.len, c.requires.adders.sized, c.requires.sized, c.requires.flags)

pub turn_all-requires-clause-operators : goal.turn_all-requires-clause-operators
turn_all-requires-clause-operators c =
    let v = value_at c.args.numbers.now in
    let os = c.args.problem.now.operators in
    let goals = c.args.problem.now.goals in
    let marked = marked_below c.facts.marks.flags c.in-Some.x
    (popped_marked (λ y. in_zone v os goals y ≡ true) (IsFollowed v os c.facts.inside.items) (followed_kept v os c.facts.inside.items) c.facts.marks c.next.new.self c.next.new.self c.in-Some.x c.in-Some.ensures.flags c.in-Some.ensures.some c.facts.invariant.reaching) in
    let inside : c.in-Some.x < length c.args.adders.now = omega (arith, c.facts.invariant.len, c.requires.adders.sized, c.requires.sized, c.requires.flags) in
    subst (All (λ k. k < length os)) (sym (c.as_slice.ensures ∙ c.index-adders-x.is))
    (c.requires.adders.below c.in-Some.x c.index-adders-x.result inside)

pub turn_all-requires-clause-adders : goal.turn_all-requires-clause-adders
turn_all-requires-clause-adders c =
    let v = value_at c.args.numbers.now in
    let os = c.args.problem.now.operators in
    let goals = c.args.problem.now.goals in
    let marked = marked_below c.facts.marks.flags c.in-Some.x
    (popped_marked (λ y. in_zone v os goals y ≡ true) (IsFollowed v os c.facts.inside.items) (followed_kept v os c.facts.inside.items) c.facts.marks c.next.new.self c.next.new.self c.in-Some.x c.in-Some.ensures.flags c.in-Some.ensures.some c.facts.invariant.reaching) in
    let inside : c.in-Some.x < length c.args.adders.now = omega (arith, c.facts.invariant.len, c.requires.adders.sized, c.requires.sized, c.requires.flags) in
    subst (HasAdders os c.in-Some.x)
    (sym (c.as_slice.ensures ∙ c.index-adders-x.is ∙ get_or_default c.args.adders.now c.in-Some.x c.index-adders-x.result [] inside))
    (c.requires.adders.all c.in-Some.x)

pub turn_all-requires-clause-zone : goal.turn_all-requires-clause-zone
turn_all-requires-clause-zone c =
    let v = value_at c.args.numbers.now in
    let os = c.args.problem.now.operators in
    let goals = c.args.problem.now.goals in
    c.facts.invariant.reaching.sound c.in-Some.x
    (popped_marked (λ y. in_zone v os goals y ≡ true) (IsFollowed v os c.facts.inside.items) (followed_kept v os c.facts.inside.items) c.facts.marks c.next.new.self c.next.new.self c.in-Some.x c.in-Some.ensures.flags c.in-Some.ensures.some c.facts.invariant.reaching)

pub facts-preserved : goal.facts-preserved
facts-preserved c =
    let v = value_at c.args.numbers.now in
    let os = c.args.problem.now.operators in
    let goals = c.args.problem.now.goals in
    let old = c.facts.inside.items in
    let more = c.put.new.inside.items in
    let x = c.in-Some.x in
    let e = c.in_ok-put.ensures in
    let grown = c.in_ok-turn_all.ensures.grown in
    let here = c.facts.invariant.reaching.sound x
    (popped_marked (λ y. in_zone v os goals y ≡ true) (IsFollowed v os c.facts.inside.items) (followed_kept v os c.facts.inside.items) c.facts.marks c.next.new.self c.next.new.self c.in-Some.x c.in-Some.ensures.flags c.in-Some.ensures.some c.facts.invariant.reaching) in
    let wider = reaching_wider (λ y. in_zone v os goals y ≡ true) (IsFollowed v os old) (IsFollowed v os more)
    (λ y flags done. (done.0, subst (λ l. Contains l y) (sym e) (Contains-append_left old (x ∷ []) y done.1)))
    c.facts.marks c.facts.invariant.reaching in
    record {
      len = grown.sized ∙ ap length c.in-Some.ensures.flags ∙ c.facts.invariant.len;
      kept = λ y h. grown.kept y (subst (λ l. is_marked l y ≡ true) (sym c.in-Some.ensures.flags) (c.facts.invariant.kept y h));
      inside = subst (All (λ y. in_zone v os goals y ≡ true)) (sym e)
          (All-append (λ y. in_zone v os goals y ≡ true) old (x ∷ []) c.facts.invariant.inside
          (All-cons (λ y. in_zone v os goals y ≡ true) x [] here (All-nil (λ y. in_zone v os goals y ≡ true))));
      reaching =
          reaching_step (λ y. in_zone v os goals y ≡ true) (IsFollowed v os more) (followed_kept v os more) c.facts.marks c.next.new.self c.turn_all.new.marks x c.in-Some.ensures.flags c.in-Some.ensures.some wider grown
          (c.in_ok-turn_all.ensures.done, subst (λ l. Contains l x) (sym e) (Contains-push old x));
    }

pub returns-clause-all : goal.returns-clause-all
returns-clause-all c =
    let v = value_at c.args.numbers.now in
    let os = c.args.problem.now.operators in
    let goals = c.args.problem.now.goals in
    subst (λ l. (x : _) → is_marked l x ≡ true → (in_zone v os goals x ≡ true) × IsFollowed v os c.facts.inside.items x l) (sym c.next.ensures.flags)
    (reached_all (λ y. in_zone v os goals y ≡ true) (IsFollowed v os c.facts.inside.items) (followed_kept v os c.facts.inside.items) c.facts.marks c.in_default.ensures.none c.facts.invariant.reaching)
