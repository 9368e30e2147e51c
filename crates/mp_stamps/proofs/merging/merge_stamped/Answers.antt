use Rattle.std.proofs.Common.{◌≡◌, ℕ, length}
use Rattle.std.specs.Prelude.{All}
use Rattle.mp_messages.specs.History.{IsHistory, agent_of, part}
use Rattle.mp_stamps.specs.Lists.{IsAgentOf, entries, list_of}
use Rattle.mp_stamps.specs.Merged.{Merged}
use Rattle.mp_stamps.proofs.Histories.{is_legal}
use Rattle.mp_stamps.proofs.OfLogs.{of_log}
use Rattle.mp_stamps.proofs.Parts.{agents_are, all_rise, is_merged, parts_are}
use Rattle.mp_stamps.proofs.merging.merge_stamped.Goals as goal

pub merged-requires : goal.merged-requires
merged-requires c = all_rise c.args.lists.now c.requires.matched

pub returns-clause-merged : goal.returns-clause-merged
returns-clause-merged c = of_log c.args.lists.now (Merged c.args.lists.now) c.merged.result (is_merged c.args.lists.now c.requires.matched) c.merged.ensures

pub returns-clause-legal : goal.returns-clause-legal
returns-clause-legal c = of_log c.args.lists.now IsHistory c.merged.result (is_legal c.args.lists.now c.requires.matched) c.merged.ensures

pub returns-clause-parts : goal.returns-clause-parts
returns-clause-parts c = of_log c.args.lists.now (λ log. (agent : ℕ) → IsAgentOf (length c.args.lists.now) agent → part log agent ≡ entries (list_of c.args.lists.now agent))
    c.merged.result (parts_are c.args.lists.now c.requires.matched) c.merged.ensures

pub returns-clause-agents : goal.returns-clause-agents
returns-clause-agents c = of_log c.args.lists.now (λ log. All (λ e. IsAgentOf (length c.args.lists.now) (agent_of e)) log)
    c.merged.result (agents_are c.args.lists.now c.requires.matched) c.merged.ensures
