use Rattle.mp_instances.proofs.Basics.{◌∙◌, ap, sym, cond, Some, lookup, is_some, same_atom, fact_of}
use Rattle.mp_instances.proofs.ValueLemmas.{known, added}
use Rattle.mp_instances.proofs.values.add.Goals as goal

pub returns-in_ok-insert : goal.returns-in_ok-insert
returns-in_ok-insert c = λ before h.
    added c.args.first.now.entries c.insert.new.self.entries before c.args.value.now h
    (ap (λ args. is_some (lookup (λ key. same_atom (record { symbol = c.args.value.now.of.symbol; args = args }) (fact_of key)) c.args.first.now.entries)) (sym c.as_slice.ensures)
    ∙ sym c.contains_key.ensures ∙ c.if-not-contains_key.true)
    (λ a.
    c.in_ok-insert.ensures.updates.0 (a.symbol, record { ref_ptr = (0, 0); now = a.args })
    ∙ ap (λ args. cond (same_atom (record { symbol = c.args.value.now.of.symbol; args = args }) a) (Some c.args.value.now.cost) (lookup (λ key. same_atom a (fact_of key)) c.args.first.now.entries)) c.as_slice.ensures)

pub returns-else-not-contains_key : goal.returns-else-not-contains_key
returns-else-not-contains_key c = λ before h.
    known c.args.first.now.entries before c.args.value.now h
    (ap (λ args. is_some (lookup (λ key. same_atom (record { symbol = c.args.value.now.of.symbol; args = args }) (fact_of key)) c.args.first.now.entries)) (sym c.as_slice.ensures)
    ∙ sym c.contains_key.ensures ∙ c.if-not-contains_key.false)
