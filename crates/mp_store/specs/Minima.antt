-- Which entry is expanded next, which goal costs least, and which entry of a state is the best one.
use Rattle.std.specs.Prelude.{ℕ, Bool, List, filter, slice_get, slice_set, Option, None, option_map}
use Rattle.std.specs.List.{enumerate_from}
use Rattle.std.specs.Option.{option_map_or}
use Rattle.std.specs.Ordering.{is_lt, nat_cmp, on, then_cmp}
use Rattle.std.specs.declared.cmp.Ordering.{Ordering}
use Rattle.mp_list.specs.First.{leftmost}
use Rattle.mp_store.specs.declared.entry.Mark.TheVariants.{Expanded}
use Rattle.mp_store.specs.declared.entry.Entry.{Entry}
use Rattle.mp_store.specs.Record.{Record, f, is_open}

-- an entry with its number
abbrev pub Numbered : Type 0 → Type 0
Numbered K = ℕ × Entry K

module _ {K : Type 0} where
  -- the entries that pass a test, with their numbers
  abbrev pub those : (Entry K → Bool) → List (Entry K) → List (Numbered K)
  those passes entries = filter (λ x. passes x.1) (enumerate_from 0 entries)

  -- by f, then by h, then by number
  abbrev pub nearer_cmp : Numbered K → Numbered K → Ordering
  nearer_cmp =
      then_cmp (on (λ x. f x.1) nat_cmp)
      (then_cmp (on (λ x. x.1.h) nat_cmp) (on (λ x. x.0) nat_cmp))

  abbrev pub is_nearer : Numbered K → Numbered K → Bool
  is_nearer x y = is_lt (nearer_cmp x y)

  -- by cost, then by number
  abbrev pub cheaper_cmp : Numbered K → Numbered K → Ordering
  cheaper_cmp = then_cmp (on (λ x. x.1.g) nat_cmp) (on (λ x. x.0) nat_cmp)

  abbrev pub is_cheaper : Numbered K → Numbered K → Bool
  is_cheaper x y = is_lt (cheaper_cmp x y)

  -- the least open entry, if one is open
  abbrev pub first_open : List (Entry K) → Option (Numbered K)
  first_open entries = leftmost is_nearer None (those (λ e. is_open e.mark) entries)

  abbrev pub least_open : Record K → Option ℕ
  least_open r = option_map (λ x. x.0) (first_open r.entries)

  abbrev pub least_f : Record K → Option ℕ
  least_f r = option_map (λ x. f x.1) (first_open r.entries)

  -- the record once the entry of a number is expanded
  abbrev pub closed : ℕ → Record K → Record K
  closed number r =
      option_map_or
      (λ e. record r { entries = slice_set r.entries number (record e { mark = Expanded }) })
      (slice_get r.entries number)
      r

  -- the least open entry, and the record once it is closed
  abbrev pub popped : Record K → Option ℕ × Record K
  popped r = (least_open r, option_map_or (λ number. closed number r) (least_open r) r)

  -- the least cost of a goal entry, and the lowest number of a goal entry of that cost
  abbrev pub least_goal : Record K → Option (ℕ × ℕ)
  least_goal r =
      option_map (λ x. (x.1.g, x.0)) (leftmost is_cheaper None (those (λ e. e.goal) r.entries))

  -- the entry of a key that costs least; no two of one key cost the same
  abbrev pub best : (K → K → Bool) → K → Record K → Option ℕ
  best same key r =
      option_map (λ x. x.0) (leftmost is_cheaper None (those (λ e. same e.key key) r.entries))
