-- What holds of the record that a store keeps, whatever was offered, closed and sent.
use Rattle.std.specs.Prelude.{◌≡◌, ℕ, ◌^◌, ◌<◌, Bool, true, false, length, slice_get, slice_index_or, Some, All, AllPairs}
use Rattle.mp_store.specs.declared.entry.Origin.TheVariants.{Root, Own, From}
use Rattle.mp_store.specs.declared.entry.Mark.TheVariants.{Replaced}
use Rattle.mp_store.specs.declared.entry.Origin.{Origin}
use Rattle.mp_store.specs.declared.entry.Entry.{Entry}
use Rattle.mp_store.specs.Record.{Record, f, is_open}

-- the entry that an own action led from is below a number
abbrev pub IsEarlier : ℕ → Origin → Type 0
IsEarlier number Root = Unit {0}
IsEarlier number (Own action parent) = parent < number
IsEarlier number (From agent sent) = Unit {0}

module _ {K : Type 0} (same : K → K → Bool) where
  -- of two entries of one key the later one costs less
  abbrev pub HasFallingCosts : Record K → Type 0
  HasFallingCosts r = AllPairs (λ e later. same e.key later.key ≡ true → later.g < e.g) r.entries

  -- of two entries of one key the earlier one is not open
  abbrev pub HasLastOpen : Record K → Type 0
  HasLastOpen r =
      AllPairs (λ e later. same e.key later.key ≡ true → is_open e.mark ≡ false) r.entries

  -- an entry that gave way did so to a later one of its key
  abbrev pub GaveWayToLater : Record K → Type 0
  GaveWayToLater r =
      (i : ℕ) (d : Entry K) → i < length r.entries → (slice_index_or r.entries i d).mark ≡ Replaced
      → (j : ℕ) × (i < j) × (j < length r.entries)
      × (same (slice_index_or r.entries i d).key (slice_index_or r.entries j d).key ≡ true)

  pub record IsSound (r : Record K) : Type 0 where
    pub falling : HasFallingCosts r
    pub last_open : HasLastOpen r
    pub gave_way : GaveWayToLater r
    -- cost and estimate of an entry are below 2 ^ 60 together
    pub bounded : All (λ e. f e < 2 ^ 60) r.entries
    -- each sent number is that of an entry
    pub sent : All (λ n. n < length r.entries) r.sent
    -- the entry that an own action led from is an earlier one
    pub earlier : (n : ℕ) (d : Entry K) → n < length r.entries
        → IsEarlier n (slice_index_or r.entries n d).origin

  -- an entry of a key with its number, and no later one has the key
  pub record IsLastEntry (key : K) (r : Record K) (n : ℕ) (e : Entry K) : Type 0 where
    pub at : slice_get r.entries n ≡ Some e
    pub has : same e.key key ≡ true
    pub last : (m : ℕ) (later : Entry K) → n < m → slice_get r.entries m ≡ Some later
        → same later.key key ≡ false
