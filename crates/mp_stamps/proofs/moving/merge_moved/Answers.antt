use Rattle.std.proofs.Common.{◌≡◌, ℕ, length}
use Rattle.std.specs.Prelude.{All}
use Rattle.mp_messages.specs.History.{IsHistory, agent_of, part}
use Rattle.mp_stamps.specs.Lists.{IsAgentOf, entries, list_of}
use Rattle.mp_stamps.specs.Merged.{Merged}
use Rattle.mp_stamps.proofs.Histories.{is_legal}
use Rattle.mp_stamps.proofs.OfLogs.{of_log}
use Rattle.mp_stamps.proofs.Parts.{agents_are, all_rise, is_merged, parts_are}
use Rattle.mp_stamps.proofs.moving.merge_moved.Goals as goal

pub moved-requires : goal.moved-requires
moved-requires c = all_rise c.args.lists c.requires.matched

pub returns-clause-merged : goal.returns-clause-merged
returns-clause-merged c = of_log c.args.lists (Merged c.args.lists) c.moved.result (is_merged c.args.lists c.requires.matched) c.moved.ensures

pub returns-clause-legal : goal.returns-clause-legal
returns-clause-legal c = of_log c.args.lists IsHistory c.moved.result (is_legal c.args.lists c.requires.matched) c.moved.ensures

pub returns-clause-parts : goal.returns-clause-parts
returns-clause-parts c = of_log c.args.lists (λ log. (agent : ℕ) → IsAgentOf (length c.args.lists) agent → part log agent ≡ entries (list_of c.args.lists agent))
    c.moved.result (parts_are c.args.lists c.requires.matched) c.moved.ensures

pub returns-clause-agents : goal.returns-clause-agents
returns-clause-agents c = of_log c.args.lists (λ log. All (λ e. IsAgentOf (length c.args.lists) (agent_of e)) log)
    c.moved.result (agents_are c.args.lists c.requires.matched) c.moved.ensures
