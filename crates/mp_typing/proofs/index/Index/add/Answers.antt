use Rattle.mp_typing.proofs.Basics.{◌≡◌, ◌∷◌, ◌++◌, [], ◌∙◌, sym, ap, subst, cond, not, Some, None, Option, ℕ, List, is_some, bytes_eq, Entry, number_of, SameNumbers}
use Rattle.mp_typing.proofs.IndexLemmas.{entries_of, looked_up, known, added, restored}
use Rattle.mp_typing.proofs.index.Index.add.Goals.{In-None, In_ok-insert-in-Some}
use Rattle.mp_typing.proofs.index.Index.add.Goals as goal

-- a new name has no number
absent : (c : In-None) → number_of c.args.name.now (entries_of c.self.inside.first.entries) ≡ None
absent c =
    let old = c.self.inside.first.entries in
    ap (λ (k : List ℕ). number_of k (entries_of old)) (sym c.in_ok-copy.ensures)
    ∙ sym (looked_up c.in_ok-copy.field-0 old) ∙ sym c.in_ok-insert.ensures.old ∙ c.in-None.is

-- and one that was added has that of its first entry
first : (c : In_ok-insert-in-Some) → number_of c.args.name.now (entries_of c.self.inside.first.entries) ≡ Some c.in-Some.first
first c =
    let old = c.self.inside.first.entries in
    ap (λ (k : List ℕ). number_of k (entries_of old)) (sym c.in_ok-copy.ensures)
    ∙ sym (looked_up c.in_ok-copy.field-0 old) ∙ sym c.in_ok-insert.ensures.old ∙ c.in-Some.is

pub returns-in-None-clause-new : goal.returns-in-None-clause-new
returns-in-None-clause-new c =
    sym (ap (λ (es : List Entry). not (is_some (number_of c.args.name.now es))) (sym c.self.view_is) ∙ ap (λ (o : Option ℕ). not (is_some o)) (absent c))

pub returns-in-None-clause-added : goal.returns-in-None-clause-added
returns-in-None-clause-added c =
    let name = c.args.name.now in
    let old = c.self.inside.first.entries in
    let new = c.insert.new.self.entries in
    let changed = λ (q : List ℕ).
    sym (looked_up q new) ∙ c.in_ok-insert.ensures.updates.0 q
    ∙ ap (λ o. cond (bytes_eq c.in_ok-copy.field-0 q) (Some c.args.number) o) (looked_up q old)
    ∙ ap (λ (k : List ℕ). cond (bytes_eq k q) (Some c.args.number) (number_of q (entries_of old))) c.in_ok-copy.ensures in
    subst (λ (es : List Entry). SameNumbers (entries_of new) (es ++ record { name = name; number = c.args.number } ∷ [])) c.self.view_is
    (added name c.args.number (entries_of old) (entries_of new) (ap is_some (absent c)) changed)

pub returns-in_ok-insert-in-Some-clause-new : goal.returns-in_ok-insert-in-Some-clause-new
returns-in_ok-insert-in-Some-clause-new c =
    sym (ap (λ (es : List Entry). not (is_some (number_of c.args.name.now es))) (sym c.self.view_is) ∙ ap (λ (o : Option ℕ). not (is_some o)) (first c))

pub returns-in_ok-insert-in-Some-clause-added : goal.returns-in_ok-insert-in-Some-clause-added
returns-in_ok-insert-in-Some-clause-added c = λ (q : List ℕ).
    let name = c.args.name.now in
    let old = c.self.inside.first.entries in
    let changed = c.insert.new.self.entries in
    let new = c.insert-in-Some.new.self.entries in
    let in_changed = sym (looked_up q changed) ∙ c.in_ok-insert.ensures.updates.0 q
    ∙ ap (λ o. cond (bytes_eq c.in_ok-copy.field-0 q) (Some c.args.number) o) (looked_up q old)
    ∙ ap (λ (k : List ℕ). cond (bytes_eq k q) (Some c.args.number) (number_of q (entries_of old))) c.in_ok-copy.ensures in
    let in_new = sym (looked_up q new) ∙ c.in_ok-insert-in-Some.ensures.updates.0 q
    ∙ ap (λ o. cond (bytes_eq c.in_ok-copy-in-Some.field-0 q) (Some c.in-Some.first) o) (looked_up q changed ∙ in_changed)
    ∙ ap (λ (k : List ℕ). cond (bytes_eq k q) (Some c.in-Some.first) (cond (bytes_eq name q) (Some c.args.number) (number_of q (entries_of old)))) c.in_ok-copy-in-Some.ensures in
    in_new ∙ restored name q c.args.number c.in-Some.first (entries_of old) (first c)
    ∙ ap (λ (es : List Entry). number_of q es) c.self.view_is
    ∙ known name c.args.number c.args.self.now (ap (λ (es : List Entry). is_some (number_of name es)) (sym c.self.view_is) ∙ ap is_some (first c)) q
