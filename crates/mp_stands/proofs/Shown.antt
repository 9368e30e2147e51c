-- What agents show of their predicates before grounding is what is so of the predicates in the team.
use Rattle.std.proofs.Common.{◌≡◌, Bool, not, ◌&&◌, ◌||◌, List, ◌++◌, map, filter, if◌then◌else◌, refl, ap, ◌∙◌}
use Rattle.std.proofs.lemmas.List.Folds.{list_any-append}
use Rattle.std.specs.List.{list_any, flat_map}
use Rattle.std.specs.Str.{bytes_eq}
use Rattle.mp_forms.specs.declared.atom_values.Atom.{Atom}
use Rattle.mp_forms.specs.declared.schema_values.Schema.{Schema}
use Rattle.mp_forms.specs.declared.factor.Factor.{Factor}
use Rattle.mp_joint.specs.Fact.{Text, is_listed}
use Rattle.mp_joint.specs.Grounding.{negated_atoms}
use Rattle.mp_joint.specs.Static.{is_changed_in, is_under_not_in, is_private_in, is_so_in_team}
use Rattle.mp_lifting.specs.declared.view.OpenView.{OpenView}
use Rattle.mp_lifting.specs.Views.{predicates_of, changed_predicates, negated_predicates, is_changed, has_complements}
use Rattle.mp_views.specs.Opened.{is_public_predicate, public_predicates, open_view}
use Rattle.mp_views.specs.Sorted.{sorted_once}
use Rattle.mp_views.proofs.SortedLaws.{same_texts}
use Rattle.mp_split.specs.Team.{open_views}
use Rattle.mp_stands.proofs.JoinedLists.{any_of_map, any_of_parts, listed_some}

module _ (p : Text) where
  abbrev predicate_of : Atom → Text
  predicate_of a = a.word.name

  changed_here : (factor : Factor) → is_listed p (changed_predicates factor) ≡ is_changed_in p factor
  changed_here factor =
      any_of_parts (bytes_eq p) (λ (s : Schema). predicates_of s.add ++ predicates_of s.del) factor.domain.schemas
      ∙ (λ i. list_any (λ (s : Schema). of_schema s i) factor.domain.schemas)
    where
      of_schema : (s : Schema) → is_listed p (predicates_of s.add ++ predicates_of s.del)
          ≡ (list_any (λ (a : Atom). bytes_eq p a.word.name) s.add || list_any (λ (a : Atom). bytes_eq p a.word.name) s.del)
      of_schema s =
          list_any-append (bytes_eq p) (predicates_of s.add) (predicates_of s.del)
          ∙ (λ i. any_of_map (bytes_eq p) predicate_of s.add i || any_of_map (bytes_eq p) predicate_of s.del i)

  negated_here : (factor : Factor) → is_listed p (negated_predicates factor) ≡ is_under_not_in p factor
  negated_here factor =
      let of_schemas = flat_map (λ (s : Schema). predicates_of (negated_atoms s.pre)) factor.domain.schemas in
      let of_goals = negated_atoms factor.problem.goals in
      let schemas = any_of_parts (bytes_eq p) (λ (s : Schema). predicates_of (negated_atoms s.pre)) factor.domain.schemas
      ∙ (λ i. list_any (λ (s : Schema). any_of_map (bytes_eq p) predicate_of (negated_atoms s.pre) i) factor.domain.schemas) in
      list_any-append (bytes_eq p) of_schemas (predicates_of of_goals)
      ∙ (λ i. schemas i || any_of_map (bytes_eq p) predicate_of of_goals i)

  in_team : (part : OpenView → List Text) (own : Factor → List Text) (is_so_in : Text → Factor → Bool) (team : List Factor)
      → ((other : Factor) → part (open_view other) ≡ public_predicates other (own other))
      → ((other : Factor) → is_listed p (own other) ≡ is_so_in p other)
      → is_listed p (sorted_once (flat_map part (map open_view team))) ≡ list_any (λ other. not (is_private_in p other) && is_so_in p other) team
  in_team part own is_so_in team shows here =
      same_texts (flat_map part (map open_view team)) p
      ∙ any_of_parts (bytes_eq p) part (map open_view team)
      ∙ any_of_map (λ v. is_listed p (part v)) open_view team
      ∙ (λ i. list_any (λ other. each other i) team)
    where
      each : (other : Factor) → is_listed p (part (open_view other)) ≡ (not (is_private_in p other) && is_so_in p other)
      each other =
          ap (is_listed p) (shows other)
          ∙ same_texts (filter (is_public_predicate other) (own other)) p
          ∙ listed_some (is_public_predicate other) p (own other)
          ∙ ap (λ b. is_public_predicate other p && b) (here other)

  -- as far as an agent knows, and in the team
  pub same_changed : (team : List Factor) (factor : Factor) → is_changed factor (open_views team) p ≡ is_so_in_team is_changed_in team factor p
  same_changed team factor =
      let shown = in_team (λ v. v.changed) changed_predicates is_changed_in team (λ other. refl) changed_here in
      λ i. if is_private_in p factor then changed_here factor i else shown i

  pub same_negated : (team : List Factor) (factor : Factor) → has_complements factor (open_views team) p ≡ is_so_in_team is_under_not_in team factor p
  same_negated team factor =
      let shown = in_team (λ v. v.negated) negated_predicates is_under_not_in team (λ other. refl) negated_here in
      λ i. if is_private_in p factor then negated_here factor i else shown i
