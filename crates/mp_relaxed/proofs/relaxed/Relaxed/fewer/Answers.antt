use Rattle.std.proofs.Common.{◌≡◌, ◌<◌, ◌≤◌, ◌++◌, List, length, get_or, map, [], All, ap, subst, sym, ◌∙◌, arith}
use Rattle.std.proofs.lemmas.List.{length-map}
use Rattle.mp_relaxed.specs.Dominated.{AreEquivalent, AreKept}
use Rattle.mp_task.specs.Strips.{Operator}
use Rattle.mp_relaxed.specs.Relaxed.{RelaxedProblem, operator_at, zipped}
use Rattle.mp_relaxed.proofs.KeptLemmas.{equivalent_kept, kept_cheap, zipped_kept}
use Rattle.mp_relaxed.proofs.ZippedLemmas.{length-zipped, rows_all, zipped_adds, zipped_pres}
use Rattle.mp_relaxed.proofs.relaxed.Relaxed.fewer.Goals as goal

pub users_of-requires-clause-few : goal.users_of-requires-clause-few
users_of-requires-clause-few c =
    let ks = c.as_slice-numbers.result.now in
    let os = c.args.self.now.operators in
    let kept = subst (AreKept os (length os)) (sym c.as_slice-numbers.ensures.value) c.in_ok-kept.ensures in
    let long = ap length c.in_ok-pres.ensures ∙ length-map ks (λ k. get_or c.self.inside.pres k []) in
    omega (arith, kept.few, c.operators.ensures.few)

pub users_of-requires-clause-below : goal.users_of-requires-clause-below
users_of-requires-clause-below c =
    let ks = c.as_slice-numbers.result.now in
    let os = c.args.self.now.operators in
    let m = c.self.inside in
    let kept = subst (AreKept os (length os)) (sym c.as_slice-numbers.ensures.value) c.in_ok-kept.ensures in
    let long : length os ≡ length m.pres = sym (ap (λ (p : RelaxedProblem). length p.operators) c.self.view_is) ∙ length-zipped m.pres m.adds m.costs.items c.self.invariant.adds_each c.self.invariant.cost_each in
    subst (All (All (λ x. x < m.facts))) (sym c.in_ok-pres.ensures)
    (rows_all (All (λ x. x < m.facts)) m.pres ks c.self.invariant.pres_below (subst (λ n. All (λ k. k < n) ks) long kept.below))

pub invariant_of-result : goal.invariant_of-result
invariant_of-result c =
    let ks = c.as_slice-numbers.result.now in
    let os = c.args.self.now.operators in
    let m = c.self.inside in
    let kept = subst (AreKept os (length os)) (sym c.as_slice-numbers.ensures.value) c.in_ok-kept.ensures in
    let goals : c.extend_from_slice.new.self.items ≡ m.goals.items = c.in_ok-extend_from_slice.ensures.items ∙ (λ i. c.in_ok-goals.ensures.items i ++ c.as_slice.ensures.value i) in
    let all : length os ≡ length m.pres = sym (ap (λ (p : RelaxedProblem). length p.operators) c.self.view_is) ∙ length-zipped m.pres m.adds m.costs.items c.self.invariant.adds_each c.self.invariant.cost_each in
    let inside = subst (λ n. All (λ k. k < n) ks) all kept.below in
    let long = ap length c.in_ok-pres.ensures ∙ length-map ks (λ k. get_or m.pres k []) in
    record {
      adds_each = ap length c.in_ok-adds.ensures ∙ length-map ks (λ k. get_or m.adds k []) ∙ sym long;
      cost_each = ap length c.in_ok-costs.ensures ∙ length-map ks (λ k. (operator_at os k).cost) ∙ sym long;
      few = omega (arith, kept.few, c.operators.ensures.few);
      cheap = subst (All (λ n. n ≤ 16000000)) (sym c.in_ok-costs.ensures) (kept_cheap 16000000 os ks kept.below c.operators.ensures.cheap);
      pres_below = subst (All (All (λ x. x < m.facts))) (sym c.in_ok-pres.ensures) (rows_all (All (λ x. x < m.facts)) m.pres ks c.self.invariant.pres_below inside);
      adds_below = subst (All (All (λ x. x < m.facts))) (sym c.in_ok-adds.ensures)
          (rows_all (All (λ x. x < m.facts)) m.adds ks c.self.invariant.adds_below (subst (λ n. All (λ k. k < n) ks) (sym c.self.invariant.adds_each) inside));
      goals_below = subst (All (λ x. x < m.facts)) (sym goals) c.self.invariant.goals_below;
      users_right = c.in_ok-users.ensures;
      free_right = c.in_ok-free.ensures;
      counts_right = c.in_ok-counts.ensures;
    }

pub returns : goal.returns
returns c =
    let ks = c.as_slice-numbers.result.now in
    let os = c.args.self.now.operators in
    let m = c.self.inside in
    let kept = subst (AreKept os (length os)) (sym c.as_slice-numbers.ensures.value) c.in_ok-kept.ensures in
    let goals : c.extend_from_slice.new.self.items ≡ m.goals.items = c.in_ok-extend_from_slice.ensures.items ∙ (λ i. c.in_ok-goals.ensures.items i ++ c.as_slice.ensures.value i) in
    let all : length os ≡ length m.pres = sym (ap (λ (p : RelaxedProblem). length p.operators) c.self.view_is) ∙ length-zipped m.pres m.adds m.costs.items c.self.invariant.adds_each c.self.invariant.cost_each in
    let inside = subst (λ n. All (λ k. k < n) ks) all kept.below in
    let pres = c.in_ok-pres.ensures ∙ zipped_pres m.pres m.adds m.costs.items c.self.invariant.adds_each c.self.invariant.cost_each ks inside
    ∙ ap (λ (p : RelaxedProblem). map (λ k. (operator_at p.operators k).pre) ks) c.self.view_is in
    let adds = c.in_ok-adds.ensures ∙ zipped_adds m.pres m.adds m.costs.items c.self.invariant.adds_each c.self.invariant.cost_each ks inside
    ∙ ap (λ (p : RelaxedProblem). map (λ k. (operator_at p.operators k).add) ks) c.self.view_is in
    let operators : List Operator = zipped c.in_ok-pres.pres c.in_ok-adds.adds c.in_ok-costs.costs.items in
    let made = (λ i. zipped (pres i) (adds i) (c.in_ok-costs.ensures i)) ∙ zipped_kept os ks in
    record {
      same = (λ i. record { publics = m.publics; facts = m.facts; operators = operators; goals = goals i })
          ∙ ap (λ (p : RelaxedProblem). record p { operators = operators }) c.self.view_is;
      operators = subst (λ l. AreEquivalent l os) (sym made) (equivalent_kept os ks kept);
    }

pub rows_at-requires : goal.rows_at-requires
rows_at-requires c =
    let ks = c.as_slice-numbers.result.now in
    let os = c.args.self.now.operators in
    let m = c.self.inside in
    let kept = subst (AreKept os (length os)) (sym c.as_slice-numbers.ensures.value) c.in_ok-kept.ensures in
    let all : length os ≡ length m.pres = sym (ap (λ (p : RelaxedProblem). length p.operators) c.self.view_is) ∙ length-zipped m.pres m.adds m.costs.items c.self.invariant.adds_each c.self.invariant.cost_each in
    subst (λ n. All (λ k. k < n) ks) all kept.below

pub rows_at-requires-2 : goal.rows_at-requires-2
rows_at-requires-2 c =
    let ks = c.as_slice-numbers.result.now in
    let os = c.args.self.now.operators in
    let m = c.self.inside in
    let kept = subst (AreKept os (length os)) (sym c.as_slice-numbers.ensures.value) c.in_ok-kept.ensures in
    let all : length os ≡ length m.pres = sym (ap (λ (p : RelaxedProblem). length p.operators) c.self.view_is) ∙ length-zipped m.pres m.adds m.costs.items c.self.invariant.adds_each c.self.invariant.cost_each in
    subst (λ n. All (λ k. k < n) ks) (all ∙ sym c.self.invariant.adds_each) kept.below
