use Rattle.mp_typing.proofs.Basics.{◌||◌, ◌∙◌, sym, ap, not, bytes_eq, list_any, is_among}
use Rattle.mp_typing.proofs.NameSets.{among_keys, cond_or}
use Rattle.mp_sexp.proofs.Places.{swapped}
use Rattle.mp_typing.proofs.names.NameSet.insert.Goals as goal

pub returns-clause-added : goal.returns-clause-added
returns-clause-added c =
    let name = c.as_slice.result.now in
    rw (← c.as_slice.ensures.bytes)
    (c.in_ok-insert.ensures.added ∙ ap not (sym (among_keys c.self.inside.names.keys name))
    ∙ ap (λ names. not (is_among names name)) c.self.view_is)

pub returns-clause-members : goal.returns-clause-members
returns-clause-members c = λ other.
    let name = c.as_slice.result.now in
    let now = c.in_ok-insert.ensures.updates.0 record { ref_ptr = (0, 0); now = other } in
    rw (← c.as_slice.ensures.bytes)
    (among_keys c.insert.new.self.keys other ∙ now
    ∙ cond_or (bytes_eq name other) (list_any (λ k. bytes_eq other k.now) c.self.inside.names.keys)
    ∙ ap (λ b. b || list_any (λ k. bytes_eq other k.now) c.self.inside.names.keys) (swapped name other)
    ∙ ap (λ b. bytes_eq other name || b) (sym (among_keys c.self.inside.names.keys other))
    ∙ ap (λ names. bytes_eq other name || is_among names other) c.self.view_is)
