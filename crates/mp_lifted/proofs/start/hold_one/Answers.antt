use Rattle.mp_lifted.proofs.Basics.{◌∙◌, ap, ◌||◌, sym, same_atom, is_held}
use Rattle.mp_lifted.proofs.Keeping.{more_held, one_of_kind}
use Rattle.mp_lifted.proofs.start.hold_one.Goals as goal

pub returns-in_ok-insert : goal.returns-in_ok-insert
returns-in_ok-insert c = λ a.
    more_held c.args.held.now.keys c.insert.new.self.keys (c.args.fact.now.symbol, c.as_slice.result) c.in_ok-insert.ensures.updates.0 a
    ∙ ap (λ args. is_held c.args.held.now.keys a || same_atom a (record { symbol = c.args.fact.now.symbol; args = args })) c.as_slice.ensures
    ∙ one_of_kind _ (is_held c.args.held.now.keys a) (same_atom a c.args.fact.now) (sym c.is_of_kind.ensures ∙ c.if-is_of_kind.true)
