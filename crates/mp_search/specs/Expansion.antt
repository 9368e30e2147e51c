-- How an entry is expanded (MAD-A*, Nissim and Brafman 2014; A*, Hart, Nilsson and Raphael 1968).
use Rattle.std.specs.Prelude.{ℕ, ◌+◌, List, [], ◌∷◌, ◌++◌, Option, Result, Ok, Err, slice_get, if◌then◌else◌}
use Rattle.std.specs.Option.{option_map_or}
use Rattle.mp_sets.specs.Numbers.{Numbers}
use Rattle.mp_task.specs.declared.act.Act.{Act}
use Rattle.mp_task.specs.AgentTask.{AgentTask}
use Rattle.mp_store.specs.declared.entry.Entry.{Entry}
use Rattle.mp_store.specs.declared.entry.Origin.TheVariants.{Own}
use Rattle.mp_store.specs.Record.{Record}
use Rattle.mp_store.specs.Minima.{closed, least_open}
use Rattle.mp_search.specs.declared.answer.ExpandRefusal.{ExpandRefusal}
use Rattle.mp_search.specs.declared.answer.ExpandRefusal.TheVariants.{AtLimit, Nothing}
use Rattle.mp_search.specs.declared.answer.Sending.{Sending}
use Rattle.mp_search.specs.AgentState.{AgentState, applies, successor}
use Rattle.mp_search.specs.Offering.{offered_at, own_value}
use Rattle.mp_search.specs.Search.{SearchRecord, is_open_below, is_spent}
use Rattle.mp_search.specs.Sending.{sent_if_due}

-- an entry that is expanded
pub record Parent : Type 0 where
  pub number : ℕ
  pub state : AgentState
  pub g : ℕ

-- what goes out first, and then what goes out from there on
abbrev pub and_then
    : List Sending × Record AgentState
    → (Record AgentState → List Sending × Record AgentState)
    → List Sending × Record AgentState
and_then (out, r) next = (out ++ (next r).0, (next r).1)

-- one entry more is expanded, with what goes out
abbrev pub one_more : ℕ → List Sending × Record AgentState → List Sending × SearchRecord
one_more expansions (out, r) = (out, record { kept = r; expansions = expansions + 1 })

-- an entry was expanded
abbrev pub answered : List Sending × SearchRecord → Result (List Sending) ExpandRefusal × SearchRecord
answered (out, r) = (Ok out, r)

module _ (t : AgentTask) (value : Numbers → Numbers → Option ℕ) where
  -- a state that an own action led to is offered, and sent where that is due
  unfoldable pub with_successor : Parent → ℕ → Act → AgentState → Record AgentState → List Sending × Record AgentState
  with_successor parent number act reached r =
      sent_if_due t act parent.state reached
      (offered_at t reached (parent.g + act.cost) (own_value t value reached) (Own number parent.number) r).1

  -- an own action, by its number, is applied where it may be
  unfoldable pub with_action : Parent → ℕ → Act → Record AgentState → List Sending × Record AgentState
  with_action parent number act r =
      if applies act parent.state
      then with_successor parent number act (successor act parent.state) r
      else ([], r)

  -- the same for all own actions from a number on, one after another
  unfoldable pub with_actions : Parent → ℕ → List Act → Record AgentState → List Sending × Record AgentState
  with_actions parent number [] r = ([], r)
  with_actions parent number (act ∷ acts) r =
      and_then (with_action parent number act r) (with_actions parent (number + 1) acts)

  -- The expansion of an entry: it is closed, and each own action that may be applied to it is, in number order.
  unfoldable pub expanded_entry : ℕ → Entry AgentState → SearchRecord → List Sending × SearchRecord
  expanded_entry n e r =
      one_more r.expansions
      (with_actions (record { number = n; state = e.key; g = e.g }) 0 t.acts (closed n r.kept))

  -- the expansion of the least open entry, if there is one
  unfoldable pub expanded : SearchRecord → List Sending × SearchRecord
  expanded r =
      option_map_or (λ n. option_map_or (λ e. expanded_entry n e r) (slice_get r.kept.entries n) ([], r))
      (least_open r.kept) ([], r)

  -- What a search does when it is to expand, with memory enough: nothing where it expanded as many entries as it may, or
  -- where no open entry is worth it.
  unfoldable pub expansion : ℕ → SearchRecord → Result (List Sending) ExpandRefusal × SearchRecord
  expansion limit r =
      if is_spent limit r then (Err AtLimit, r)
      else if is_open_below r.kept then answered (expanded r)
      else (Err Nothing, r)
