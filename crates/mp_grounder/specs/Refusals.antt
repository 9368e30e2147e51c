-- Which refusal is answered where a count of grounding passes its limit.
use Rattle.std.specs.Prelude.{◌≡◌, ◌<◌, ◌≤◌, ℕ}
use Rattle.mp_grounder.specs.declared.refusal.GroundRefusal.{GroundRefusal}
use Rattle.mp_grounder.specs.declared.refusal.GroundRefusal.TheVariants.{TooManyTries, TooManyActions, TooManyFacts, OutOfMemory}

-- An agent's refusal with so many tried bindings, ground actions and facts is the first of these that holds, with the whole
-- count; want of memory may come anywhere.
abbrev pub IsRefusedAt : ℕ → ℕ → ℕ → ℕ → GroundRefusal → Type 0
IsRefusedAt me tries actions facts (TooManyTries agent) = (agent ≡ me) × (50000000 < tries)
IsRefusedAt me tries actions facts (TooManyActions agent n) =
    (agent ≡ me) × (tries ≤ 50000000) × (n ≡ actions) × (200000 < n)
IsRefusedAt me tries actions facts (TooManyFacts agent n) =
    (agent ≡ me) × (tries ≤ 50000000) × (actions ≤ 200000) × (n ≡ facts) × (65535 < n)
IsRefusedAt me tries actions facts OutOfMemory = Unit {0}
