use Rattle.std.proofs.Common.{length, slice_get, sym, ap, ◌∙◌, subst, ◌<◌}
use Rattle.std.specs.Prelude.{IsSomeAnd}
use Rattle.mp_task.specs.AgentTask.{AgentTask}
use Rattle.mp_search.specs.Search.{SearchRecord}
use Rattle.mp_search.specs.StateKeys.{IsShown}
use Rattle.mp_certify.proofs.team.shown_at.Goals as goal

pub entry-requires : goal.entry-requires
entry-requires g c =
    subst (λ (s : SearchRecord). c.args.number < length s.kept.entries) (sym c.search.ensures.of.done) c.requires.inside

pub returns-clause-entry : goal.returns-clause-entry
returns-clause-entry g c =
    subst (λ (s : SearchRecord). IsSomeAnd (slice_get s.kept.entries c.args.number) (IsShown c.entry.result)) c.search.ensures.of.done c.entry.ensures.entry

pub returns-clause-publics : goal.returns-clause-publics
returns-clause-publics g c =
    c.entry.ensures.publics (c.search.ensures.works c.requires.free) ∙ ap (λ (t : AgentTask). t.publics) c.search.ensures.of.task

pub returns-clause-privates : goal.returns-clause-privates
returns-clause-privates g c =
    c.entry.ensures.privates (c.search.ensures.works c.requires.free) ∙ ap (λ (t : AgentTask). t.privates) c.search.ensures.of.task
