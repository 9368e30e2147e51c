-- What is so of states at the start.
use Rattle.mp_world.proofs.Basics.{◌≡◌, ℕ, zero, suc, ◌-◌, ◌<◌, ◌≤◌, ◌^◌, ◌⊎◌, Bool, false, List, [], ◌∷◌, length, map, get_or, Option, Some, refl, sym, ap, subst, ◌∙◌, arith, inl, inr, Contains, IfSome, IsSomeAnd, option_map, replicate, slice_get, get_or-map}
use Rattle.mp_world.proofs.Basics.{length-append, length-map, length-set, All-contains, All-map, All-nil, All-set, get_or_from_slice_get, none-some, slice_get-map}
use Rattle.std.specs.FinSet as set
use Rattle.std.proofs.Common.{lit<}
use Rattle.std.proofs.lemmas.List.{get_or_append_left}
use Rattle.mp_list.proofs.Members.{no_member}
use Rattle.mp_task.specs.Met.{met_at_start}
use Rattle.mp_task.proofs.Agreeing.{Contains-slice_get}
use Rattle.mp_store.proofs.Sound.{empty_sound}
use Rattle.mp_search.specs.AgentState.{start_tag}
use Rattle.mp_machine.specs.MemberFields.{EntryFits}
use Rattle.mp_machine.proofs.EntriesFit.{FitsUpTo, up_offered_at}
use Rattle.mp_world.specs.AgentWords.{FitsTeam, AgentTask, IsWithinLimits, is_met, task_of, AgentRecord, new_record}
use Rattle.mp_world.specs.SearchWords.{Tag, Numbers, Entry, Root, Record, empty, AgentState, no_tag, same_state, start_state, own_value, start_record, sent_sets, tokens_given}
use Rattle.mp_world.specs.Team.{IsTeam, Team}
use Rattle.mp_world.specs.World.{World, agent_at, start_world, under_way}
use Rattle.mp_world.specs.Joint.{sets_of, told_by}
use Rattle.mp_team_states.specs.Sound.{AreStatesSound, IsSoundAgent, IsStateOf, IsTold, tag_of}
use Rattle.mp_team_states.proofs.Changes.{changes_all, changes_sound}
use Rattle.mp_team_states.proofs.Expanding.{IsFirst, start_changes}
use Rattle.mp_team_states.proofs.Growth.{all_begin}
use Rattle.mp_team_states.proofs.Received.{list_below, tag_other, tag_same}
use Rattle.mp_team_states.proofs.WorldsGrow.{sets_at}

-- the initial set is the first one with a token
pub first_given : (t : AgentTask) (r : Record AgentState) → (0 < length (tokens_given t r)) × (get_or (tokens_given t r) 0 set.empty ≡ set.from_list t.start_priv)
first_given t r =
    let start : Numbers = set.from_list t.start_priv in
    let begins = all_begin (start ∷ []) (sent_sets r) in
    let longer = ap length begins.is in (
      omega (arith, length-append (start ∷ []) begins.more),
      ap (λ (xs : List Numbers). get_or xs 0 set.empty) begins.is ∙ get_or_append_left (start ∷ []) begins.more set.empty 0 (omega arith),
    )

pub some_item : {X : Type 0} (xs : List X) (k : ℕ) → k < length xs → (x : X) × (slice_get xs k ≡ Some x)
some_item [] k inside = absurd (omega arith)
some_item (x ∷ xs) zero inside = (x, refl)
some_item (x ∷ xs) (suc k) inside = some_item xs k (omega arith)

-- what stands at a place of a list of the same items, or past its end
same_or_past : {X : Type 0} (n k : ℕ) (x d : X) → (get_or (replicate n x) k d ≡ x) ⊎ (get_or (replicate n x) k d ≡ d)
same_or_past zero k x d = inr refl
same_or_past (suc n) zero x d = inl refl
same_or_past (suc n) (suc k) x d = same_or_past n k x d

module _ (team : Team) (is_team : IsTeam team) where
  open team use {tasks, value, limit}

  abbrev pub w : World
  w = start_world team

  pub there : (agent : ℕ) (t : AgentTask) → task_of tasks agent ≡ Some t → agent_at w agent ≡ Some (new_record t (value t) limit)
  there zero t at = absurd (none-some t at)
  there (suc k) t at =
      slice_get-map (λ (t : AgentTask). new_record t (value t) limit) tasks k ∙ ap (option_map (λ (t : AgentTask). new_record t (value t) limit)) at

  -- each agent told of its initial set
  told : (agent : ℕ) → 1 ≤ agent → agent ≤ length tasks → IsTold w agent (start_tag (get_or (met_at_start tasks) (agent - 1) false))
  told zero low high = absurd (omega arith)
  told (suc k) low high =
      let found = some_item tasks k (omega arith) in
      let t = found.0 in
      let r : AgentRecord = new_record t (value t) limit in
      let at : agent_at w (suc k) ≡ Some r = there (suc k) t found.1 in
      let sets : sets_of w (suc k) ≡ tokens_given t r.search.kept = sets_at w (suc k) r at in
      let first = first_given t r.search.kept in
      let place : suc k - 1 ≡ k = omega arith in
      let met : get_or (met_at_start tasks) (suc k - 1) false ≡ is_met t (set.from_list t.start_priv) =
      ap (λ (j : ℕ). get_or (met_at_start tasks) j false) place
      ∙ get_or-map (λ (t : AgentTask). is_met t (set.from_list t.start_priv)) tasks k t false (omega arith)
      ∙ ap (λ (t : AgentTask). is_met t (set.from_list t.start_priv)) (get_or_from_slice_get tasks k t t found.1)
      in
      let tag = start_tag (get_or (met_at_start tasks) (suc k - 1) false) in
      record {
        given = subst (λ (xs : List Numbers). 0 < length xs) (sym sets) first.0;
        byte =
            subst (λ (o : Option AgentRecord). IfSome o (λ r. tag.met ≡ is_met r.task (told_by w (suc k, tag)))) (sym at)
            (met ∙ ap (is_met t) (sym (ap (λ (xs : List Numbers). get_or xs 0 set.empty) sets ∙ first.1)));
      }

  module _ (agent : ℕ) (t : AgentTask) (at : task_of tasks agent ≡ Some t) where
    here : Contains tasks t
    here = by agent at
      where
        by : (a : ℕ) → task_of tasks a ≡ Some t → Contains tasks t
        by zero at = absurd (none-some t at)
        by (suc k) at = Contains-slice_get tasks k t at

    fits_team : FitsTeam tasks t
    fits_team = All-contains (FitsTeam tasks) tasks t is_team.tasks.agree.team here

    fit : IsWithinLimits t
    fit = All-contains IsWithinLimits tasks t is_team.tasks.within here

    pub state : IsStateOf w t (start_state t)
    state =
        let low = fit.from_1 in
        let high = fit.in_team in
        let of_team = fits_team.agents in
        let flags = fit.a_flag_each in
        let tags = map start_tag t.met in
        let many : length tags ≡ length t.met = length-map t.met start_tag in
        record {
          publics = list_below t.publics t.start_pub fit.start_pub;
          mine = list_below t.privates t.start_priv fit.start_priv;
          number = length-set tags (t.me - 1) no_tag ∙ many ∙ fit.a_flag_each;
          own = tag_same tags t.me no_tag fit.from_1 (omega arith);
          others = λ a a_low a_high other.
              let tag : tag_of (start_state t).tags a ≡ start_tag (get_or (met_at_start tasks) (a - 1) false) =
              tag_other tags t.me a no_tag fit.from_1 a_low other
              ∙ get_or-map start_tag t.met (a - 1) false no_tag (omega arith)
              ∙ ap (λ (xs : List Bool). start_tag (get_or xs (a - 1) false)) fits_team.met
              in
              subst (λ (x : Tag). IsTold w a x) (sym tag) (told a a_low (omega arith));
        }

    first_fits : FitsUpTo 0 0 (start_record t (value t)).kept
    first_fits =
        let small : no_tag.token < 2 ^ 60 = lit< tt in
        up_offered_at 0 t 0 (start_state t) 0 (own_value t (value t) (start_state t)) Root empty
        (All-set (λ (x : Tag). x.token < 2 ^ 60) (map start_tag t.met) (t.me - 1) no_tag small
        (All-map (λ (x : Tag). x.token < 2 ^ 60) start_tag t.met (λ k d h. lit< tt))) tt
        (record { entries = All-nil EntryFits; longer = omega arith; sent = omega arith })

    new_sound : IsSoundAgent w t (new_record t (value t) limit)
    new_sound =
        let last = (start_record t (value t)).kept in
        let changes = start_changes t (value t) in
        let none = first_fits.sent in
        record {
          task = refl;
          limit = is_team.most;
          within = omega arith;
          sent = omega arith;
          kept = changes_sound (IsFirst t (value t)) t empty last [] changes (empty_sound same_state);
          fits = first_fits.entries;
          states =
              changes_all (IsFirst t (value t)) t (IsStateOf w t)
              (λ r new is all. subst (λ (s : AgentState). IsStateOf w t s) (sym is.key) state)
              empty last [] changes (All-nil (λ (e : Entry AgentState). IsStateOf w t e.key));
        }

  nothing_under_way : (from to : ℕ) (bytes : List ℕ) → Contains (under_way w from to) bytes → ⊥
  nothing_under_way from to bytes is =
      let n = length tasks in
      let row = get_or (replicate n (replicate n [])) (from - 1) [] in
      no_member bytes (subst (λ (ms : List (List ℕ)). Contains ms bytes) (by row (same_or_past n (from - 1) (replicate n []) [])) is)
    where
      nothing : List (List ℕ)
      nothing = []

      either : (xs : List (List ℕ)) → (xs ≡ nothing) ⊎ (xs ≡ nothing) → xs ≡ nothing
      either xs (inl e) = e
      either xs (inr e) = e

      empty_row : (row : List (List (List ℕ))) → row ≡ replicate (length tasks) nothing → get_or row (to - 1) nothing ≡ nothing
      empty_row row same =
          ap (λ (xs : List (List (List ℕ))). get_or xs (to - 1) nothing) same
          ∙ either (get_or (replicate (length tasks) nothing) (to - 1) nothing) (same_or_past (length tasks) (to - 1) nothing nothing)

      by : (row : List (List (List ℕ))) → (row ≡ replicate (length tasks) []) ⊎ (row ≡ []) → get_or row (to - 1) [] ≡ []
      by row (inl same) = empty_row row same
      by row (inr none) = ap (λ (xs : List (List (List ℕ))). get_or xs (to - 1) []) none

  pub start_states_sound : AreStatesSound tasks (start_world team)
  start_states_sound = record {
    agents = λ agent t at.
        subst (λ (o : Option AgentRecord). IsSomeAnd o (IsSoundAgent w t)) (sym (there agent t at)) (new_sound agent t at);
    mail = λ from to t u bytes at to_at is. absurd (nothing_under_way from to bytes is);
  }
