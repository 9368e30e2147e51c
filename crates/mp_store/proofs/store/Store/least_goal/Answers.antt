use Rattle.std.proofs.Common.{sym, ap, ◌∙◌}
use Rattle.mp_store.specs.Minima.{least_goal}
use Rattle.mp_store.specs.KeyRows.{key_at}
use Rattle.mp_store.proofs.Naming.{least_goal-named}
use Rattle.mp_store.proofs.store.Store.least_goal.Goals as goal

pub returns : goal.returns
returns c =
    c.least_goal.ensures ∙ sym (least_goal-named (key_at c.self.inside.keys) c.self.inside.numbers.kept) ∙ ap least_goal c.self.view_is
