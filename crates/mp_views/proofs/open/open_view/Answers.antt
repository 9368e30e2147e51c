use Rattle.mp_views.proofs.Basics.{List, map, not, ap, ◌∙◌, filter, is_none, [], NamedFact, Text, is_listed, fact_of, fact_text, changed_predicates, negated_predicates, sorted_once}
use Rattle.mp_views.specs.Opened.{open_view as view_of}
use Rattle.mp_views.proofs.open.open_view.Goals as goal

-- some names without those of others, in order
abbrev without : List Text → List Text → List Text
without privates names = sorted_once (filter (λ (n : Text). not (is_listed n privates)) names)

pub returns : goal.returns
returns c =
    let whole = c.factor-whole.result.now in
    let own = c.in_ok-privates.ensures in
    let shown = c.in_ok-shown.ensures in
    c.in_ok-view.ensures
    ∙ (λ i. record { changed = sorted_once (shown.changed i); negated = sorted_once (shown.negated i); init = sorted_once (shown.init i) })
    ∙ (λ i. record {
      changed = without (own.predicates i) (changed_predicates whole);
      negated = without (own.predicates i) (negated_predicates whole);
      init = sorted_once (map fact_text (filter (λ (f : NamedFact). is_none f.owner)
          (map (fact_of 1 (record { predicates = own.predicates i; objects = own.objects i }) [] []) whole.problem.init)));
    })
    ∙ ap view_of c.factor-whole.ensures.same
