use Rattle.std.proofs.Common.{ap, ◌∙◌}
use Rattle.std.specs.Prelude.{option_map}
use Rattle.mp_store.specs.declared.rank.Rank.{Rank}
use Rattle.mp_store.specs.Minima.{least_f}
use Rattle.mp_store.specs.Numbered.{NumberedRecord}
use Rattle.mp_store.proofs.Indexed.{first_read}
use Rattle.mp_store.proofs.number_store.NumberStore.least_f.Goals as goal

pub returns-in-Some : goal.returns-in-Some
returns-in-Some c =
    ap (option_map (λ (q : Rank). q.f)) c.in-Some.ensures
    ∙ first_read c.self.inside.entries.items c.self.inside.«open» c.self.invariant.ranked (λ (q : Rank). q.f) c.self.invariant.fresh
    ∙ ap (λ (t : NumberedRecord). least_f t.kept) c.self.view_is

pub returns-in-None : goal.returns-in-None
returns-in-None c =
    ap (option_map (λ (q : Rank). q.f)) c.in-None.ensures
    ∙ first_read c.self.inside.entries.items c.self.inside.«open» c.self.invariant.ranked (λ (q : Rank). q.f) c.self.invariant.fresh
    ∙ ap (λ (t : NumberedRecord). least_f t.kept) c.self.view_is
