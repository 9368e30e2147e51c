use Rattle.mp_typing.proofs.Basics.{IfOk-weaker, ◌||◌, ◌==◌, ◌∙◌, ℕ, List, length, sym, ap, is_among, object_name}
use Rattle.mp_typing.proofs.HierarchyLemmas.{are_all, are_listed}
use Rattle.mp_typing.proofs.hierarchy.Hierarchy.members.Goals as goal

pub returns-then-all : goal.returns-then-all
returns-then-all c =
    let h = c.args.self.now in
    let types = c.args.types.now in
    let asked = c.args.asked.now in
    let wanted = sym (c.in_ok-all.ensures ∙ ap (λ (ns : List (List ℕ)). length asked == 0 || is_among ns object_name) c.in_ok-found.ensures) ∙ c.if-all.true in
    IfOk-weaker c.all_below.result _ _ (λ numbers is objects kept. are_all types objects asked numbers h.count kept.counted is wanted) c.all_below.ensures

pub returns : goal.returns
returns c =
    let h = c.args.self.now in
    let types = c.args.types.now in
    let asked = c.args.asked.now in
    let some = sym (c.in_ok-all.ensures ∙ ap (λ (ns : List (List ℕ)). length asked == 0 || is_among ns object_name) c.in_ok-found.ensures) ∙ c.if-all.false in
    IfOk-weaker c.listed_under.result _ _
    (λ numbers made objects kept. are_listed types objects asked h.listed.entries c.in_ok-found.found.keys numbers kept.listed c.in_ok-found.ensures made some)
    c.listed_under.ensures
