use Rattle.mp_grounder.proofs.Basics.{ℕ, List, [], ◌++◌, Option, sym, ap, ◌∙◌, folded, unwrap_or, unwrap_or-slice_get}
use Rattle.std.proofs.lemmas.List.{append-nil}
use Rattle.mp_grounder.proofs.texts.push_numbered.Goals as goal

pub returns-in-None : goal.returns-in-None
returns-in-None c =
    let none = ap (λ (o : Option (List ℕ)). unwrap_or o []) c.in-None.ensures ∙ unwrap_or-slice_get c.args.names.now c.args.number [] in
    let old = folded c.args.text.now.items in
    sym (append-nil old) ∙ ap (λ (name : List ℕ). old ++ name) none
