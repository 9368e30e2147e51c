use Rattle.mp_split.proofs.Basics.{◌≡◌, List, [], ◌∷◌, ◌++◌, ap, refl, ◌∙◌, flat_map, numbers_where, Text, View, is_goal, is_listed, is_true}
use Rattle.std.proofs.Common.{◌||◌}
use Rattle.std.proofs.lemmas.List.Folds.{list_any-append}
use Rattle.std.specs.List.{enumerate_from}
use Rattle.std.specs.Str.{bytes_eq}
use Rattle.mp_split.specs.Common.{parts_in}
use Rattle.mp_split.proofs.common.make_common.Goals as goal

-- what is among the goals of all is a goal of an agent
goal_of_one : (views : List View) (text : Text) → is_listed text (flat_map (λ v. v.goals) views) ≡ is_goal views text
goal_of_one [] text = refl
goal_of_one (v ∷ vs) text =
    list_any-append (λ n. bytes_eq text n) v.goals (flat_map (λ w. w.goals) vs) ∙ ap (λ b. is_listed text v.goals || b) (goal_of_one vs text)

pub returns : goal.returns
returns c =
    let table = c.args.table.now in
    let views = c.args.views.now in
    let start = c.in_ok-start.ensures.start ∙ ap (λ (names : List Text). numbers_where 0 (is_true names) table) c.in_ok-of.ensures in
    let goals = c.in_ok-start.ensures.goals ∙ ap (λ (names : List Text). numbers_where 0 (λ text. is_listed text names) table) c.in_ok-all_goals.ensures
    ∙ (λ i. numbers_where 0 (λ text. goal_of_one views text i) table) in
    let parts = c.in_ok-add_all_parts.ensures ∙ (λ i. c.new-parts.ensures i ++ flat_map (parts_in (c.requires.names i)) (enumerate_from 1 views)) in
    λ i. record { start = start i; goals = goals i; met = c.in_ok-met.ensures i; parts = parts i }
