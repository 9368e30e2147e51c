-- Each entry after changes was there before, or came in one of them.
use Rattle.mp_world.proofs.Basics.{◌≡◌, ℕ, zero, suc, ◌⊎◌, List, [], ◌∷◌, ◌++◌, length, map, Option, Some, None, refl, sym, ap, ◌∙◌, subst, inl, inr, slice_get, slice_set, option_map_or, length-map, none-some, same_Some}
use Rattle.mp_store.proofs.Marks.{SameButMarks, closing_marks, giving_way_marks, turned}
use Rattle.mp_world.specs.AgentWords.{AgentTask}
use Rattle.mp_world.specs.SearchWords.{Entry, Expanded, closed, Record, gives_way, kept, Sending, AgentState, same_state}
use Rattle.mp_team_states.specs.Growing.{HasGrown, IsAlike}
use Rattle.mp_team_states.proofs.Changes.{Changes, changes_grow, with_number}
use Rattle.mp_team_states.proofs.Changes.Changes.{nothing, closes, keeps, sends}
use Rattle.mp_team_states.proofs.Growth.{alike_then, grown_kept, grown_marks, grown_then}

pub alike_itself : (e : Entry AgentState) → IsAlike e e
alike_itself e = record { key = refl; g = refl; h = refl; origin = refl; goal = refl }

alike_back : (e f : Entry AgentState) → IsAlike e f → IsAlike f e
alike_back e f a = record { key = sym a.key; g = sym a.g; h = sym a.h; origin = sym a.origin; goal = sym a.goal }

-- an entry was there
pub record IsOld (r : Record AgentState) (n : ℕ) (e : Entry AgentState) : Type 0 where
  pub old : Entry AgentState
  pub there : slice_get r.entries n ≡ Some old
  pub alike : IsAlike old e

old_from : (r s : Record AgentState) (n : ℕ) (e : Entry AgentState)
    → ((o : Entry AgentState) → slice_get s.entries n ≡ Some o → IsOld r n o) → IsOld s n e → IsOld r n e
old_from r s n e back is =
    let before = back is.old is.there in
    record { old = before.old; there = before.there; alike = alike_then before.old is.old e before.alike is.alike }

marks_back : (r : Record AgentState) (others : List (Entry AgentState)) → SameButMarks r.entries others → (n : ℕ) (o : Entry AgentState)
    → slice_get others n ≡ Some o → IsOld r n o
marks_back r others alike n o at =
    let before = (grown_marks others r.entries r.sent (turned r.entries others alike)).entries n o at in
    record { old = before.0; there = before.1; alike = alike_back o before.0 before.2 }

closed_back : (k : ℕ) (r : Record AgentState) (n : ℕ) (o : Entry AgentState) → slice_get (closed k r).entries n ≡ Some o → IsOld r n o
closed_back k r n o at = by (slice_get r.entries k) refl at
  where
    by : (x : Option (Entry AgentState)) → slice_get r.entries k ≡ x
        → slice_get (option_map_or (λ (e : Entry AgentState). record r { entries = slice_set r.entries k (record e { mark = Expanded }) }) x r).entries n ≡ Some o → IsOld r n o
    by None is at = record { old = o; there = at; alike = alike_itself o }
    by (Some e) is at = marks_back r (slice_set r.entries k (record e { mark = Expanded })) (closing_marks r.entries k e is) n o at

pushed_back : {X : Type 0} (xs : List X) (x : X) (n : ℕ) (o : X) → slice_get (xs ++ x ∷ []) n ≡ Some o → (slice_get xs n ≡ Some o) ⊎ ((n ≡ length xs) × (x ≡ o))
pushed_back [] x zero o at = inr (refl, same_Some x o at)
pushed_back [] x (suc n) o at = absurd (none-some o at)
pushed_back (y ∷ ys) x zero o at = inl at
pushed_back (y ∷ ys) x (suc n) o at = by (pushed_back ys x n o at)
  where
    by : (slice_get ys n ≡ Some o) ⊎ ((n ≡ length ys) × (x ≡ o)) → (slice_get ys n ≡ Some o) ⊎ ((suc n ≡ suc (length ys)) × (x ≡ o))
    by (inl old) = inl old
    by (inr new) = inr (ap suc new.0, new.1)

kept_back : (new : Entry AgentState) (r : Record AgentState) (n : ℕ) (o : Entry AgentState) → slice_get (kept same_state new r).entries n ≡ Some o
    → IsOld r n o ⊎ ((n ≡ length r.entries) × (new ≡ o))
kept_back new r n o at = by (pushed_back others new n o at)
  where
    others : List (Entry AgentState)
    others = map (gives_way same_state new.key) r.entries

    by : (slice_get others n ≡ Some o) ⊎ ((n ≡ length others) × (new ≡ o)) → IsOld r n o ⊎ ((n ≡ length r.entries) × (new ≡ o))
    by (inl old) = inl (marks_back r others (giving_way_marks same_state new.key r.entries) n o old)
    by (inr is) = inr (is.0 ∙ length-map r.entries (gives_way same_state new.key), is.1)

module _ (Comes : Record AgentState → Entry AgentState → Type 0) (t : AgentTask) where
  -- an entry came
  pub record IsNew (s : Record AgentState) (n : ℕ) (e : Entry AgentState) : Type 0 where
    pub before : Record AgentState
    pub new : Entry AgentState
    pub comes : Comes before new
    pub grown : HasGrown before s
    pub number : n ≡ length before.entries
    pub alike : IsAlike new e

  pub changes_entry : (r s : Record AgentState) (out : List Sending) → Changes Comes t r out s → (n : ℕ) (e : Entry AgentState) → slice_get s.entries n ≡ Some e
      → IsOld r n e ⊎ IsNew s n e
  changes_entry r s out (nothing _) n e at = inl (record { old = e; there = at; alike = alike_itself e })
  changes_entry r s out (closes _ _ _ k rest) n e at = by (changes_entry (closed k r) s out rest n e at)
    where
      by : IsOld (closed k r) n e ⊎ IsNew s n e → IsOld r n e ⊎ IsNew s n e
      by (inl old) = inl (old_from r (closed k r) n e (closed_back k r n) old)
      by (inr new) = inr new
  changes_entry r s out (keeps _ _ _ new fresh comes rest) n e at = by (changes_entry (kept same_state new r) s out rest n e at)
    where
      grown : HasGrown r s
      grown = grown_then r (kept same_state new r) s (grown_kept new r) (changes_grow Comes t (kept same_state new r) s out rest)

      first : (o : Entry AgentState) → IsAlike o e → IsOld r n o ⊎ ((n ≡ length r.entries) × (new ≡ o)) → IsOld r n e ⊎ IsNew s n e
      first o alike (inl old) = inl (record { old = old.old; there = old.there; alike = alike_then old.old o e old.alike alike })
      first o alike (inr is) = inr (record {
        before = r;
        new = new;
        comes = comes;
        grown = grown;
        number = is.0;
        alike = subst (λ (x : Entry AgentState). IsAlike x e) (sym is.1) alike;
      })

      by : IsOld (kept same_state new r) n e ⊎ IsNew s n e → IsOld r n e ⊎ IsNew s n e
      by (inl old) = first old.old old.alike (kept_back new r n old.old old.there)
      by (inr later) = inr later
  changes_entry r s out (sends _ _ others k x to there rest) n e at = by (changes_entry (with_number k r) s others rest n e at)
    where
      by : IsOld (with_number k r) n e ⊎ IsNew s n e → IsOld r n e ⊎ IsNew s n e
      by (inl old) = inl (record { old = old.old; there = old.there; alike = old.alike })
      by (inr new) = inr new
