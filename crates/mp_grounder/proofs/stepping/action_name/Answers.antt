use Rattle.mp_grounder.proofs.Basics.{ℕ, List, [], map, Option, sym, ap, ◌∙◌, option_map, unwrap_or, slice_get-map, unwrap_or-slice_get}
use Rattle.mp_forms.specs.declared.schema_values.Schema.{Schema}
use Rattle.mp_grounder.proofs.stepping.action_name.Goals as goal

pub returns-in-None : goal.returns-in-None
returns-in-None c =
    let schemas = c.args.schemas.now in
    c.new.ensures
    ∙ ap (λ (o : Option Schema). unwrap_or (option_map (λ (s : Schema). s.word.name) o) []) c.in-None.ensures
    ∙ ap (λ (o : Option (List ℕ)). unwrap_or o []) (sym (slice_get-map (λ (s : Schema). s.word.name) schemas c.args.action))
    ∙ unwrap_or-slice_get (map (λ (s : Schema). s.word.name) schemas) c.args.action []
