-- The cut of a schedule with one event more.
use Rattle.mp_world.proofs.Basics.{◌≡◌, ℕ, Bool, true, false, ◌&&◌, List, [], ◌∷◌, ◌++◌, Some, refl, sym, ap, ◌∙◌, append-nil, append_assoc, if◌then◌else◌, not, option_map_or, and_right, same_Some}
use Rattle.mp_runs.specs.Run.{run as run_of}
use Rattle.mp_runs.proofs.Runs.{run-none, run_parts}
use Rattle.mp_world.specs.AgentWords.{Event, AgentRecord}
use Rattle.mp_world.specs.Events.{after_event, agent_of}
use Rattle.mp_world.specs.Values.{Values}
use Rattle.mp_world.specs.World.{World, agent_at}
use Rattle.mp_team_snapshots.specs.Cut.{cut_from, has_recorded, is_before_cut, kept_event}

module _ (value : Values) (k : ℕ) where
  pub cut_none : (w : World) → cut_from value k w [] ≡ []
  unfolding cut_from
  cut_none w = refl

  pub cut_first : (w next : World) (event : Event) (events : List Event) → after_event value w event ≡ Some next
      → cut_from value k w (event ∷ events) ≡ kept_event k w event next ++ cut_from value k next events
  unfolding cut_from
  cut_first w next event events leads =
      ap (λ o. option_map_or (λ v. kept_event k w event v ++ cut_from value k v events) o []) leads

  pub cut_more : (past : List Event) (w v next : World) (event : Event) → run_of (after_event value) w past ≡ Some v
      → after_event value v event ≡ Some next
      → cut_from value k w (past ++ event ∷ []) ≡ cut_from value k w past ++ kept_event k v event next
  cut_more [] w v next event ran leads =
      let same : w ≡ v = same_Some w v (sym (run-none (after_event value) w) ∙ ran) in
      cut_first w next event [] (ap (λ u. after_event value u event) same ∙ leads)
      ∙ ap (λ es. kept_event k w event next ++ es) (cut_none next)
      ∙ append-nil (kept_event k w event next)
      ∙ ap (λ u. kept_event k u event next) same
      ∙ ap (λ es. es ++ kept_event k v event next) (sym (cut_none w))
  cut_more (e ∷ past) w v next event ran leads =
      let parts = run_parts (after_event value) w v e past ran in
      let u = parts.0 in
      cut_first w u e (past ++ event ∷ []) parts.1
      ∙ ap (λ es. kept_event k w e u ++ es) (cut_more past u v next event parts.2 leads)
      ∙ sym (append_assoc (kept_event k w e u) (cut_from value k u past) (kept_event k v event next))
      ∙ ap (λ es. es ++ kept_event k v event next) (sym (cut_first w u e past parts.1))

-- whether an event comes before the cut, by its agent before and after it
module _ (k : ℕ) (w next : World) (event : Event) (r s : AgentRecord) (before : agent_at w (agent_of event) ≡ Some r)
    (after : agent_at next (agent_of event) ≡ Some s) where
  by_records : is_before_cut k w event next ≡ (not (has_recorded k r) && not (has_recorded k s))
  by_records = λ i.
      option_map_or (λ (x : AgentRecord). not (has_recorded k x)) (before i) false
      && option_map_or (λ (x : AgentRecord). not (has_recorded k x)) (after i) false

  pub not_kept : has_recorded k s ≡ true → kept_event k w event next ≡ []
  not_kept is =
      ap (λ (b : Bool). if b then event ∷ [] else [])
      (by_records ∙ and_right (not (has_recorded k r)) (not (has_recorded k s)) (ap not is))

  pub is_kept : has_recorded k r ≡ false → has_recorded k s ≡ false → kept_event k w event next ≡ event ∷ []
  is_kept not_r not_s =
      ap (λ (b : Bool). if b then event ∷ [] else []) (by_records ∙ (λ i. not (not_r i) && not (not_s i)))
