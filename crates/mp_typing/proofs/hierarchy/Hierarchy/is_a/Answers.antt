use Rattle.mp_typing.proofs.Basics.{IfOk-weaker, ◌≡◌, ◌||◌, ◌∷◌, ◌++◌, ◌∙◌, [], ℕ, Bool, List, sym, ap, subst, Decides, is_among, lower, object_name, IsA}
use Rattle.mp_typing.proofs.Finding.{under_one}
use Rattle.mp_typing.proofs.hierarchy.Hierarchy.is_a.Goals as goal

pub returns : goal.returns
returns c =
    let types = c.args.types.now in
    let sub = c.args.sub.now in
    let sup = c.args.sup.now in
    let asked : c.push.new.self ≡ sup ∷ [] =
    c.in_ok-push.ensures.ok ∙ ap (λ (a : List (List ℕ)). a ++ c.in_ok-copy.field-0 ∷ []) c.new-asked.ensures ∙ ap (λ (n : List ℕ). n ∷ []) c.in_ok-copy.ensures in
    let found = c.in_ok-found.ensures ∙ ap (lower types) asked in
    IfOk-weaker c.has_type.result _ _
    (λ answer is. subst (λ (b : Bool). Decides b (IsA types sub sup))
    (sym (is ∙ ap (λ (ns : List (List ℕ)). is_among ns sub || is_among ns object_name) found)) (under_one types sub sup))
    c.has_type.ensures
