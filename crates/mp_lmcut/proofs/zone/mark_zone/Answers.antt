use Rattle.std.proofs.Common.{◌≡◌, ◌∙◌, true, get_or, sym, subst, All, arith}
use Rattle.std.proofs.lemmas.List.Elements.{All-nil}
use Rattle.std.specs.List.{list_all}
use Rattle.mp_estimates.specs.Lowering.{value_at}
use Rattle.mp_lmcut.specs.Cut.{in_zone, support}
use Rattle.mp_lmcut.specs.Marked.{HasGrown, is_marked}
use Rattle.mp_lmcut.specs.Sides.{IsFollowed, Supports}
use Rattle.mp_lmcut.proofs.MarkLemmas.{grown_weaker, marked_below, reaching_grown, reaching_none}
use Rattle.mp_lmcut.proofs.ZoneLemmas.{followed_kept, list_all_more, zone_marked, zone_start}
use Rattle.mp_lmcut.proofs.zone.mark_zone.Goals as goal

pub spread-requires-clause-reaching : goal.spread-requires-clause-reaching
spread-requires-clause-reaching c =
    let v = value_at c.args.numbers.now in
    let os = c.args.problem.now.operators in
    let goals = c.args.problem.now.goals in
    let m0 = c.begin.new.self in
    let m1 = c.mark_support.new.marks in
    let F = IsFollowed v os c.empty.new.inside.items in
    let grown : HasGrown (Supports v goals) m0 m1 = subst (λ l. HasGrown (Supports v l) m0 m1) c.goals.ensures.value c.in_ok-mark_support.ensures.grown in
    reaching_grown (λ y. in_zone v os goals y ≡ true) F (followed_kept v os c.empty.new.inside.items) m0 m1
    (grown_weaker (Supports v goals) (λ y. in_zone v os goals y ≡ true) m0 m1 (zone_start v os goals) grown)
    (reaching_none (λ y. in_zone v os goals y ≡ true) F (followed_kept v os c.empty.new.inside.items) m0 c.in_ok-begin.ensures.none c.in_ok-begin.ensures.todo)

pub spread-requires-clause-inside : goal.spread-requires-clause-inside
spread-requires-clause-inside c =
    subst (All (λ y. in_zone (value_at c.args.numbers.now) c.args.problem.now.operators c.args.problem.now.goals y ≡ true)) (sym c.empty.ensures)
    (All-nil (λ y. in_zone (value_at c.args.numbers.now) c.args.problem.now.operators c.args.problem.now.goals y ≡ true))

pub returns-clause-zone : goal.returns-clause-zone
returns-clause-zone c =
    let v = value_at c.args.numbers.now in
    let os = c.args.problem.now.operators in
    let goals = c.args.problem.now.goals in
    let m1 = c.mark_support.new.marks in
    let m2 = c.spread.new.marks in
    let start : list_all (is_marked m1.flags) (support v goals) ≡ true = subst (λ l. list_all (is_marked m1.flags) (support v l) ≡ true) c.goals.ensures.value c.in_ok-mark_support.ensures.all in
    zone_marked v os goals m2.flags (list_all_more (is_marked m1.flags) (is_marked m2.flags) (support v goals) c.in_ok-spread.ensures.kept start)
    (λ x h. let both = c.in_ok-spread.ensures.all x h in (both.0, both.1.0))

pub returns-clause-listed : goal.returns-clause-listed
returns-clause-listed c =
    let v = value_at c.args.numbers.now in
    let os = c.args.problem.now.operators in
    let goals = c.args.problem.now.goals in
    let m1 = c.mark_support.new.marks in
    let m2 = c.spread.new.marks in
    let start : list_all (is_marked m1.flags) (support v goals) ≡ true = subst (λ l. list_all (is_marked m1.flags) (support v l) ≡ true) c.goals.ensures.value c.in_ok-mark_support.ensures.all in
    let is = zone_marked v os goals m2.flags (list_all_more (is_marked m1.flags) (is_marked m2.flags) (support v goals) c.in_ok-spread.ensures.kept start)
    (λ x h. let both = c.in_ok-spread.ensures.all x h in (both.0, both.1.0)) in
    let inside = c.in_ok-spread.ensures.inside in
    record {
      below = λ k d lt.
          let below = marked_below m2.flags (get_or c.spread.new.inside.items k d) (is (get_or c.spread.new.inside.items k d) ∙ inside k d lt) in
          omega (arith, below, c.in_ok-spread.ensures.len, c.in_ok-mark_support.ensures.grown.sized, c.in_ok-begin.ensures.len);
      alone = inside;
      all = λ x h. (c.in_ok-spread.ensures.all x (is x ∙ h)).1.1;
    }
