-- A walk follows origins, however many entries it may meet, and counts what it notes.
use Rattle.std.proofs.Common.{◌≡◌, ℕ, zero, suc, ◌+◌, ◌<◌, ◌≤◌, Bool, true, List, ◌∷◌, ◌++◌, length, map, Option, Some, None, refl, sym, ap, subst, ◌∙◌, arith}
use Rattle.std.specs.Prelude.{slice_get}
use Rattle.std.specs.List.{range_with_len}
use Rattle.std.specs.Option.{option_map_or}
use Rattle.std.proofs.lemmas.Option.{get_or_from_slice_get}
use Rattle.mp_store.specs.declared.entry.Entry.{Entry}
use Rattle.mp_store.specs.declared.entry.Origin.{Origin}
use Rattle.mp_store.specs.declared.entry.Origin.TheVariants.{Root, Own, From}
use Rattle.mp_store.specs.Laws.{IsEarlier, IsSound}
use Rattle.mp_store.specs.Record.{Record}
use Rattle.mp_trail.specs.declared.steps.Noted.{Noted}
use Rattle.mp_trail.specs.Share.{IsRising, fits}
use Rattle.mp_trail.proofs.ShareLemmas.{fits_on, rising_on}
use Rattle.mp_trail.specs.Walk.{Walk, noting, walk, walk_from, walk_within, origin_of, back_at}

-- what a walk that meets an origin has, if one from each earlier entry has it
from_earlier : (f g : ℕ → ℕ → Walk) (o : Origin) (number back : ℕ) → IsEarlier number o
    → ((parent later : ℕ) → parent < number → f parent later ≡ g parent later) → walk_from f o back ≡ walk_from g o back
from_earlier f g Root number back earlier same = refl
from_earlier f g (Own action parent) number back earlier same =
    ap (noting (record { action = action; back = back })) (same parent (back + 1) earlier)
from_earlier f g (From agent sent) number back earlier same = refl

-- the walk notes at most so many actions
short_from : (f : ℕ → ℕ → Walk) (o : Origin) (number back : ℕ) → IsEarlier number o
    → ((parent later : ℕ) → parent < number → length (f parent later).noted ≤ parent) → length (walk_from f o back).noted ≤ number
short_from f Root number back earlier short = omega arith
short_from f (Own action parent) number back earlier short = omega (arith, earlier, short parent (back + 1) earlier)
short_from f (From agent sent) number back earlier short = omega arith

-- ---- the backs of what is noted

backs_from : (f : ℕ → ℕ → Walk) (o : Origin) (back : ℕ)
    → ((parent later : ℕ) → map (λ n. n.back) (f parent later).noted ≡ range_with_len later (length (f parent later).noted))
    → map (λ n. n.back) (walk_from f o back).noted ≡ range_with_len back (length (walk_from f o back).noted)
backs_from f Root back backs = refl
backs_from f (Own action parent) back backs = ap (λ bs. back ∷ bs) (backs parent (back + 1))
backs_from f (From agent sent) back backs = refl

end_from : (f : ℕ → ℕ → Walk) (o : Origin) (back : ℕ)
    → ((parent later : ℕ) → back_at (f parent later).end ≡ later + length (f parent later).noted)
    → back_at (walk_from f o back).end ≡ back + length (walk_from f o back).noted
end_from f Root back ends = omega arith
end_from f (Own action parent) back ends = omega (arith, ends parent (back + 1))
end_from f (From agent sent) back ends = omega arith

module _ {K : Type 0} (r : Record K) where
  pub backs_within : (a number back : ℕ) → map (λ n. n.back) (walk_within a r number back).noted
      ≡ range_with_len back (length (walk_within a r number back).noted)
  unfolding walk_within
  backs_within zero number back = refl
  backs_within (suc a) number back = backs_from (walk_within a r) (origin_of r number) back (backs_within a)

  pub end_within : (a number back : ℕ) → back_at (walk_within a r number back).end ≡ back + length (walk_within a r number back).noted
  unfolding walk_within
  end_within zero number back = omega arith
  end_within (suc a) number back = end_from (walk_within a r) (origin_of r number) back (end_within a)

  -- what is noted after a walk
  pub walked_rising : (number back : ℕ) (noted : List Noted) → IsRising noted → fits back noted ≡ true
      → IsRising (noted ++ (walk r number back).noted)
  walked_rising number back noted rising below =
      rising_on back noted (walk r number back).noted rising below (backs_within (number + 1) number back)

  pub walked_fits : (number back : ℕ) (noted : List Noted) → fits back noted ≡ true
      → fits (back_at (walk r number back).end) (noted ++ (walk r number back).noted) ≡ true
  walked_fits number back noted below =
      ap (λ k. fits k (noted ++ (walk r number back).noted)) (end_within (number + 1) number back)
      ∙ fits_on back noted (walk r number back).noted below (backs_within (number + 1) number back)

-- ---- a sound record

module _ {K : Type 0} (same : K → K → Bool) (r : Record K) (sound : IsSound same r) where
  pub is_earlier : (number : ℕ) → number < length r.entries → IsEarlier number (origin_of r number)
  is_earlier number inside = by (slice_get r.entries number) refl
    where
      by : (o : Option (Entry K)) → slice_get r.entries number ≡ o → IsEarlier number (option_map_or (λ e. e.origin) o Root)
      by None is = tt
      by (Some e) is =
          subst (λ (x : Entry K). IsEarlier number x.origin) (get_or_from_slice_get r.entries number e e is) (sound.earlier number e inside)

  -- of enough entries more change nothing
  enough : (a b number back : ℕ) → number < a → number < b → number < length r.entries
      → walk_within a r number back ≡ walk_within b r number back
  unfolding walk_within
  enough zero b number back in_a in_b inside = absurd (omega (arith, in_a))
  enough (suc a) zero number back in_a in_b inside = absurd (omega (arith, in_b))
  enough (suc a) (suc b) number back in_a in_b inside =
      from_earlier (walk_within a r) (walk_within b r) (origin_of r number) number back (is_earlier number inside)
      (λ parent later before. enough a b parent later (omega (arith, in_a, before)) (omega (arith, in_b, before)) (omega (arith, inside, before)))

  pub follows : (number back : ℕ) → number < length r.entries → walk r number back ≡ walk_from (walk r) (origin_of r number) back
  unfolding walk_within
  follows number back inside =
      enough (number + 1) (suc number) number back (omega arith) (omega arith) inside
      ∙ from_earlier (walk_within number r) (walk r) (origin_of r number) number back (is_earlier number inside)
      (λ parent later before. enough number (parent + 1) parent later before (omega arith) (omega (arith, inside, before)))

  -- where an origin is met
  pub met : (o : Origin) (number back : ℕ) → number < length r.entries → o ≡ origin_of r number → walk r number back ≡ walk_from (walk r) o back
  met o number back inside is = follows number back inside ∙ ap (λ x. walk_from (walk r) x back) (sym is)

  pub met_earlier : (o : Origin) (number : ℕ) → number < length r.entries → o ≡ origin_of r number → IsEarlier number o
  met_earlier o number inside is = subst (λ x. IsEarlier number x) (sym is) (is_earlier number inside)

  short_within : (a number back : ℕ) → number < a → number < length r.entries → length (walk_within a r number back).noted ≤ number
  unfolding walk_within
  short_within zero number back in_a inside = absurd (omega (arith, in_a))
  short_within (suc a) number back in_a inside =
      short_from (walk_within a r) (origin_of r number) number back (is_earlier number inside)
      (λ parent later before. short_within a parent later (omega (arith, in_a, before)) (omega (arith, inside, before)))

  pub short : (number back : ℕ) → number < length r.entries → length (walk r number back).noted ≤ number
  short number back inside = short_within (number + 1) number back (omega arith) inside
