-- What is read from a store, said of the record that contracts see.
use Rattle.std.proofs.Common.{◌≡◌, ℕ, zero, suc, ◌+◌, ◌<◌, ◌^◌, length, Option, Some, None, All, refl, sym, ap, subst, ◌∙◌}
use Rattle.std.specs.Prelude.{slice_get, option_map}
use Rattle.std.specs.Option.{option_map_or}
use Rattle.std.proofs.lemmas.List.{length-map}
use Rattle.std.proofs.lemmas.Option.{get_or_from_slice_get, slice_get-map, slice_get_within}
use Rattle.mp_store.specs.declared.entry.Entry.{Entry}
use Rattle.mp_store.specs.declared.entry.Origin.{Origin}
use Rattle.mp_store.specs.declared.entry.Origin.TheVariants.{Root, Own, From}
use Rattle.mp_store.specs.declared.key.Key.{Key}
use Rattle.mp_store.specs.Minima.{least_f, least_goal}
use Rattle.mp_store.specs.Named.{named, named_entry}
use Rattle.mp_store.specs.Record.{Record}
use Rattle.mp_store.specs.Sent.{sent_entry}
use Rattle.mp_store.proofs.Naming.{least_f-named, least_goal-named}
use Rattle.mp_search.specs.AgentState.{AgentState}
use Rattle.mp_search.specs.StateKeys.{state_of_key}
use Rattle.mp_search.specs.StoreSeen.{HasEntriesOf}
use Rattle.mp_trail.specs.declared.steps.Walked.{Walked}
use Rattle.mp_trail.specs.declared.steps.Walked.TheVariants.{Root as AtRoot, Hop}
use Rattle.mp_trail.specs.Walk.{noting, origin_of, walk, walk_from, walk_within}
use Rattle.mp_machine.specs.MemberFields.{EntryFits, HasSentBelow}

module _ (store : Record Key) (kept : Record AgentState) (of : HasEntriesOf store kept) where
  pub f_seen : least_f store ≡ least_f kept
  f_seen = sym (least_f-named (state_of_key of.sets) store) ∙ ap least_f of.is

  pub goal_seen : least_goal store ≡ least_goal kept
  goal_seen = sym (least_goal-named (state_of_key of.sets) store) ∙ ap least_goal of.is

  pub length_seen : length store.entries ≡ length kept.entries
  length_seen = sym (length-map store.entries (named_entry (state_of_key of.sets))) ∙ ap (λ (r : Record AgentState). length r.entries) of.is

  pub sent_seen : (number : ℕ) → sent_entry number store ≡ sent_entry number kept
  sent_seen number = ap (λ (r : Record AgentState). sent_entry number r) of.is

-- ---- walks

module _ {A K : Type 0} (name : A → K) (r : Record A) where
  origin_named : (number : ℕ) → origin_of (named name r) number ≡ origin_of r number
  origin_named number =
      ap (λ (o : Option (Entry K)). option_map_or (λ e. e.origin) o Root) (slice_get-map (named_entry name) r.entries number)
      ∙ by (slice_get r.entries number)
    where
      by : (o : Option (Entry A)) → option_map_or (λ e. e.origin) (option_map (named_entry name) o) Root ≡ option_map_or (λ e. e.origin) o Root
      by None = refl
      by (Some e) = refl

  walk_named : (entries number back : ℕ) → walk_within entries (named name r) number back ≡ walk_within entries r number back
  unfolding walk_within
  walk_named zero number back = refl
  walk_named (suc entries) number back =
      ap (λ (o : Origin). walk_from (walk_within entries (named name r)) o back) (origin_named number)
      ∙ by (origin_of r number) (λ n b. walk_named entries n b)
    where
      by : (o : Origin) → ((n b : ℕ) → walk_within entries (named name r) n b ≡ walk_within entries r n b)
          → walk_from (walk_within entries (named name r)) o back ≡ walk_from (walk_within entries r) o back
      by Root onward = refl
      by (Own action parent) onward = ap (noting (record { action = action; back = back })) (onward parent (back + 1))
      by (From agent sent) onward = refl

pub walk_seen : (store : Record Key) (kept : Record AgentState) → HasEntriesOf store kept → (number back : ℕ) → walk store number back ≡ walk kept number back
walk_seen store kept of number back =
    sym (walk_named (state_of_key of.sets) store (number + 1) number back) ∙ ap (λ (r : Record AgentState). walk r number back) of.is

-- where a walk ends, a sent number that another agent gave fits a message
abbrev pub EndFits : Walked → Type 0
EndFits (AtRoot length) = Unit {0}
EndFits (Hop agent sent back) = sent < 2 ^ 60

module _ (r : Record AgentState) (fits : All EntryFits r.entries) where
  origin_fits : (number : ℕ) → HasSentBelow (origin_of r number)
  origin_fits number = by (slice_get r.entries number) refl
    where
      by : (o : Option (Entry AgentState)) → slice_get r.entries number ≡ o → HasSentBelow (option_map_or (λ e. e.origin) o Root)
      by None is = tt
      by (Some e) is =
          let fit : EntryFits e = subst EntryFits (get_or_from_slice_get r.entries number e e is) (fits number e (slice_get_within r.entries number e is)) in
          fit.sent

  end_within : (entries number back : ℕ) → EndFits (walk_within entries r number back).end
  unfolding walk_within
  end_within zero number back = tt
  end_within (suc entries) number back = by (origin_of r number) (origin_fits number) (λ n b. end_within entries n b)
    where
      by : (o : Origin) → HasSentBelow o → ((n b : ℕ) → EndFits (walk_within entries r n b).end) → EndFits (walk_from (walk_within entries r) o back).end
      by Root below onward = tt
      by (Own action parent) below onward = onward parent (back + 1)
      by (From agent sent) below onward = below

  pub end_fits : (number back : ℕ) → EndFits (walk r number back).end
  end_fits number back = end_within (number + 1) number back
