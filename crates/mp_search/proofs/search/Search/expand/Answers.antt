use Rattle.std.proofs.Common.{◌≡◌, ◌+◌, true, false, refl, sym, ap, subst, ◌∙◌}
use Rattle.mp_search.specs.Expansion.{expanded}
use Rattle.mp_search.specs.Search.{AgentSearch, SearchRecord, is_open_below}
use Rattle.mp_search.proofs.ActionSteps.{at_limit, nothing_open, one_expanded}
use Rattle.mp_search.proofs.search.Search.expand.Goals as goal

pub returns-then-spent : goal.returns-then-spent
returns-then-spent g c =
    let old = c.args.self.now in
    let works : old.failed ≡ false = sym (ap (λ (x : AgentSearch). x.failed) c.self.view_is) ∙ c.if-self.false in
    record {
      task = refl;
      limit = refl;
      again = λ failed. absurd (let impossible : ⊥ = cc in impossible);
      failed = works;
      by_definition = λ enough. at_limit old.task (g.H.Heuristic.value old.task) old.limit old.done (sym c.spent.ensures ∙ c.if-spent.true);
    }

pub returns-then-not-is_open_below : goal.returns-then-not-is_open_below
returns-then-not-is_open_below g c =
    let old = c.args.self.now in
    let works : old.failed ≡ false = sym (ap (λ (x : AgentSearch). x.failed) c.self.view_is) ∙ c.if-self.false in
    let none : c.is_open_below.result ≡ false = cc in
    record {
      task = refl;
      limit = refl;
      again = λ failed. absurd (let impossible : ⊥ = cc in impossible);
      failed = works;
      by_definition = λ enough.
          nothing_open old.task (g.H.Heuristic.value old.task) old.limit old.done (sym c.spent.ensures ∙ c.if-spent.false)
          (sym (ap (λ (x : AgentSearch). is_open_below x.done.kept) c.self.view_is) ∙ sym c.is_open_below.ensures ∙ none);
    }

pub returns-in-Ok : goal.returns-in-Ok
returns-in-Ok g c =
    let old = c.args.self.now in
    let works : old.failed ≡ false = sym (ap (λ (x : AgentSearch). x.failed) c.self.view_is) ∙ c.if-self.false in
    let some : c.is_open_below.result ≡ true = cc in
    let new : SearchRecord = record { kept = c.expand_least.new.progress.states.kept; expansions = c.self.inside.expansions + 1 } in
    record {
      task = ap (λ (x : AgentSearch). x.task) c.self.view_is;
      limit = ap (λ (x : AgentSearch). x.limit) c.self.view_is;
      again = λ failed. absurd (let impossible : ⊥ = cc in impossible);
      failed = c.if-self.false;
      by_definition = λ enough.
          one_expanded old.task (g.H.Heuristic.value old.task) old.limit old.done c.in-Ok.sendings new (sym c.spent.ensures ∙ c.if-spent.false)
          (sym (ap (λ (x : AgentSearch). is_open_below x.done.kept) c.self.view_is) ∙ sym c.is_open_below.ensures ∙ some)
          (subst (λ (x : AgentSearch). (c.in-Ok.sendings, new) ≡ expanded x.task (g.H.Heuristic.value x.task) x.done) c.self.view_is (c.in-Ok.ensures.expanded c.self.inside.expansions));
    }
