-- A marker is read as itself, and the states among bytes.
use Rattle.mp_world.proofs.Basics.{◌≡◌, ℕ, ◌<◌, ◌^◌, List, [], ◌∷◌, ◌++◌, map, Option, Some, None, refl, sym, ap, ◌∙◌, filter_map, option_and_then, filter_map-append}
use Rattle.mp_search.proofs.Spelled.{fitting_is_message}
use Rattle.mp_world.specs.AgentWords.{Message, Marker, message_of, spelling, least_of, lesser}
use Rattle.mp_team_snapshots.specs.Messages.{marker_of}
use Rattle.mp_team_snapshots.proofs.Reading.{read_first}
use Rattle.mp_team_snapshots.specs.Found.{least_state, messages_in, state_f}

not_empty : {X : Type 0} (xs ys : List X) (x : X) → xs ++ x ∷ ys ≡ [] → ⊥
not_empty [] ys x is = let impossible : ⊥ = cc in impossible
not_empty (z ∷ zs) ys x is = let impossible : ⊥ = cc in impossible

module _ (agents publics k : ℕ) (facts : publics < 2 ^ 32) (small : k < 2 ^ 60) where
  pub marker_read : message_of agents publics (spelling (Marker k)) ≡ Some (Marker k)
  marker_read =
      fitting_is_message agents publics (Marker k) facts (record { numbers = small; facts = tt; rising = tt; tags = tt })

  -- bytes of which none is a marker do not have the bytes of a marker
  pub no_marker_among : (before later : List (List ℕ))
      → filter_map marker_of (messages_in agents publics (before ++ spelling (Marker k) ∷ later)) ≡ [] → ⊥
  no_marker_among before later none =
      not_empty (filter_map marker_of (messages_in agents publics before))
      (filter_map marker_of (messages_in agents publics later)) k
      (sym (ap (filter_map marker_of)
      (filter_map-append (message_of agents publics) before (spelling (Marker k) ∷ later))
      ∙ filter_map-append marker_of (messages_in agents publics before)
      (messages_in agents publics (spelling (Marker k) ∷ later))
      ∙ ap (λ ms. filter_map marker_of (messages_in agents publics before) ++ filter_map marker_of ms)
      (read_first agents publics (spelling (Marker k)) later (Marker k) marker_read))
      ∙ none)

-- the cost and estimate of the state that bytes spell
abbrev pub bytes_f : ℕ → ℕ → List ℕ → Option ℕ
bytes_f agents publics bytes = option_and_then state_f (message_of agents publics bytes)

pub least_bytes : (agents publics : ℕ) (bytes : List (List ℕ))
    → least_state (messages_in agents publics bytes) ≡ least_of (map (bytes_f agents publics) bytes)
least_bytes agents publics [] = refl
least_bytes agents publics (b ∷ bs) = by (message_of agents publics b) refl (least_bytes agents publics bs)
  where
    by : (o : Option Message) → message_of agents publics b ≡ o
        → least_state (messages_in agents publics bs) ≡ least_of (map (bytes_f agents publics) bs)
        → least_state (messages_in agents publics (b ∷ bs)) ≡ least_of (map (bytes_f agents publics) (b ∷ bs))
    by None none more = rw none more
    by (Some m) some more = rw some (ap (lesser (state_f m)) more)
