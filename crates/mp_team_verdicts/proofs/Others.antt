-- The other agents of a team, and origins that are none of the agent itself.
use Rattle.mp_world.proofs.Basics.{◌≡◌, ℕ, zero, suc, ◌+◌, ◌⊎◌, [], length, Option, Some, None, refl, sym, subst, ◌∙◌, inl, inr, Contains, not, slice_get, ◌==◌, option_map_or, none-some}
use Rattle.mp_trail.specs.declared.steps.Walked.TheVariants as ends
use Rattle.mp_world.specs.AgentWords.{AgentTask, State, Walked, origin_of, walk_from, walk_within, others}
use Rattle.mp_world.specs.SearchWords.{Numbers, Entry, Origin, Root, Own, From, Record, empty, AgentState, expanded, start_record, received, SearchRecord}
use Rattle.mp_team_states.proofs.Joint.{IsReceiver, listed_is, not_equal}
use Rattle.mp_team_states.proofs.Entries.{IsNew, IsOld, changes_entry}
use Rattle.mp_team_states.proofs.Expanding.{IsFirst, IsReceived, Led, expanded_changes, received_changes, start_changes}

-- ---- all others

pub another_is : (t : AgentTask) (agent : ℕ) → Contains (others t.me t.agents) agent → IsReceiver t agent
another_is t agent = listed_is t (λ other. not (other == t.me)) agent (not_equal agent t.me)

-- ---- origins

-- an origin in another agent is in one of the team
abbrev pub IsOfOther : AgentTask → Origin → Type 0
IsOfOther t Root = Unit {0}
IsOfOther t (Own action parent) = Unit {0}
IsOfOther t (From agent sent) = IsReceiver t agent

abbrev pub AreOfOthers : AgentTask → Record AgentState → Type 0
AreOfOthers t r = (n : ℕ) (e : Entry AgentState) → slice_get r.entries n ≡ Some e → IsOfOther t e.origin

moved : (t : AgentTask) (o p : Origin) → p ≡ o → IsOfOther t o → IsOfOther t p
moved t o p same is = subst (IsOfOther t) (sym same) is

module _ (t : AgentTask) (value : Numbers → Numbers → Option ℕ) where
  pub expanded_of_others : (r : SearchRecord) → AreOfOthers t r.kept → AreOfOthers t (expanded t value r).1.kept
  expanded_of_others r old n e at =
      by (changes_entry (Led t value r.kept) t r.kept (expanded t value r).1.kept (expanded t value r).0
      (expanded_changes t value r) n e at)
    where
      by : IsOld r.kept n e ⊎ IsNew (Led t value r.kept) t (expanded t value r).1.kept n e → IsOfOther t e.origin
      by (inl is) = moved t is.old.origin e.origin is.alike.origin (old n is.old is.there)
      by (inr is) = moved t (Own is.comes.action is.comes.parent) e.origin (is.alike.origin ∙ is.comes.is.origin) tt

  pub received_of_others : (from : ℕ) (m : State) (r : Record AgentState) → IsReceiver t from → AreOfOthers t r
      → AreOfOthers t (received t value from m r).1
  received_of_others from m r other old n e at =
      by (changes_entry (IsReceived t value from m r) t r (received t value from m r).1 []
      (received_changes t value from m r) n e at)
    where
      by : IsOld r n e ⊎ IsNew (IsReceived t value from m r) t (received t value from m r).1 n e → IsOfOther t e.origin
      by (inl is) = moved t is.old.origin e.origin is.alike.origin (old n is.old is.there)
      by (inr is) = moved t (From from m.sent) e.origin (is.alike.origin ∙ is.comes.origin) other

  pub start_of_others : AreOfOthers t (start_record t value).kept
  start_of_others n e at = by
      (changes_entry (IsFirst t value) t empty (start_record t value).kept [] (start_changes t value) n e at)
    where
      by : IsOld empty n e ⊎ IsNew (IsFirst t value) t (start_record t value).kept n e → IsOfOther t e.origin
      by (inl is) = absurd (none-some is.old is.there)
      by (inr is) = moved t Root e.origin (is.alike.origin ∙ is.comes.origin) tt

-- ---- a walk ends at another agent of the team

abbrev pub EndsAtOther : AgentTask → Walked → Type 0
EndsAtOther t (ends.Root length) = Unit {0}
EndsAtOther t (ends.Hop agent sent back) = IsReceiver t agent

module _ (t : AgentTask) (r : Record AgentState) (all : AreOfOthers t r) where
  origin_of_other : (number : ℕ) → IsOfOther t (origin_of r number)
  origin_of_other number = by (slice_get r.entries number) refl
    where
      by : (o : Option (Entry AgentState)) → slice_get r.entries number ≡ o
          → IsOfOther t (option_map_or (λ e. e.origin) o Root)
      by None is = tt
      by (Some e) is = all number e is

  pub walk_to_other : (fuel number back : ℕ) → EndsAtOther t (walk_within fuel r number back).end
  unfolding walk_within
  walk_to_other zero number back = tt
  walk_to_other (suc fuel) number back = by (origin_of r number) (origin_of_other number)
      (λ parent. walk_to_other fuel parent (back + 1))
    where
      by : (o : Origin) → IsOfOther t o → ((parent : ℕ) → EndsAtOther t (walk_within fuel r parent (back + 1)).end)
          → EndsAtOther t (walk_from (walk_within fuel r) o back).end
      by Root is more = tt
      by (Own action parent) is more = more parent
      by (From agent sent) is more = is
