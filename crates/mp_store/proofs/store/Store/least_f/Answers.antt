use Rattle.std.proofs.Common.{sym, ap, ◌∙◌}
use Rattle.mp_store.specs.Minima.{least_f}
use Rattle.mp_store.specs.KeyRows.{key_at}
use Rattle.mp_store.proofs.Naming.{least_f-named}
use Rattle.mp_store.proofs.store.Store.least_f.Goals as goal

pub returns : goal.returns
returns c =
    c.least_f.ensures ∙ sym (least_f-named (key_at c.self.inside.keys) c.self.inside.numbers.kept) ∙ ap least_f c.self.view_is
