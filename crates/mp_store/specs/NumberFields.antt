-- The plain record that the fields of a store over numbers stand for, and what its indices say.
use Rattle.std.specs.Prelude.{◌≡◌, ℕ, ◌<◌, Bool, true, false, ◌==◌, nat_le, List, length, slice_index_or, All, Contains, Option, Some, None, if◌then◌else◌}
use Rattle.mp_store.specs.declared.entry.Entry.{Entry}
use Rattle.mp_store.specs.declared.entry.Mark.TheVariants.{Replaced}
use Rattle.mp_store.specs.declared.entry.Origin.TheVariants.{Root}
use Rattle.mp_store.specs.declared.number_store.Known.{Known}
use Rattle.mp_store.specs.declared.number_store.NumberStore.TheInside.{Inside}
use Rattle.mp_store.specs.declared.rank.Rank.{Rank}
use Rattle.mp_store.specs.Laws.{IsSound}
use Rattle.mp_store.specs.Minima.{least_goal}
use Rattle.mp_store.specs.Numbered.{NumberedRecord}
use Rattle.mp_store.specs.Ranks.{first_rank, rank_of}
use Rattle.mp_store.specs.Record.{Record, is_open, new_entry}
use Rattle.mp_store.specs.Sent.{was_sent}

-- what stands past the end of a list of entries
abbrev pub nothing : Entry ℕ
nothing = new_entry 0 0 0 Root false

abbrev pub entry_at : List (Entry ℕ) → ℕ → Entry ℕ
entry_at entries n = slice_index_or entries n nothing

-- what is known of a key
abbrev pub known_at : List Known → ℕ → Known
known_at keys k = slice_index_or keys k (record { best = 0; sent = None })

-- the rank of an entry, open or not
pub record IsRankIn (entries : List (Entry ℕ)) (q : Rank) : Type 0 where
  pub inside : q.number < length entries
  pub is : rank_of (q.number, entry_at entries q.number) ≡ q

-- ranks of entries, among which is that of each open one
pub record AreRanks (entries : List (Entry ℕ)) (ranks : List Rank) : Type 0 where
  pub each : All (IsRankIn entries) ranks
  pub whole : (n : ℕ) → n < length entries → is_open (entry_at entries n).mark ≡ true
      → Contains ranks (rank_of (n, entry_at entries n))

-- whether a rank, if there is one, is that of an open entry
abbrev pub is_fresh : List (Entry ℕ) → Option Rank → Bool
is_fresh entries None = true
is_fresh entries (Some q) = is_open (entry_at entries q.number).mark

-- an entry when a cheaper one of its key comes
abbrev pub given_way : Entry ℕ → Entry ℕ
given_way e = if is_open e.mark then record e { mark = Replaced } else e

-- the last entry of a key
pub record IsLastOf (entries : List (Entry ℕ)) (key n : ℕ) : Type 0 where
  pub inside : n < length entries
  pub is : (entry_at entries n).key ≡ key
  pub last : (m : ℕ) → n < m → m < length entries → (entry_at entries m).key ≡ key → ⊥

-- whether there is a cost, and it is at most another
abbrev pub is_at_most : Option ℕ → ℕ → Bool
is_at_most None g = false
is_at_most (Some c) g = nat_le c g

-- the lesser of two costs, each with its number, and the earlier one where they are equal
abbrev pub cheaper : Option (ℕ × ℕ) → ℕ × ℕ → ℕ × ℕ
cheaper None new = new
cheaper (Some known) new = if nat_le known.0 new.0 then known else new

-- the least goal, when an entry of a higher number comes
abbrev pub better_goal : Option (ℕ × ℕ) → Bool → ℕ → ℕ → Option (ℕ × ℕ)
better_goal goal is_goal g number = if is_goal then Some (cheaper goal (g, number)) else goal

abbrev pub record_of : Inside → Record ℕ
record_of t = record { entries = t.entries.items; sent = t.sent.items }

abbrev pub numbered_record : Inside → NumberedRecord
numbered_record t = record { kept = record_of t; keys = length t.keys.items }

-- the indices of a record: what is known of each key, the ranks of the open entries, of which one is
-- the first rank, the least goal
pub record IsIndexed (r : Record ℕ) (keys : List Known) (ranks : List Rank)
    (goal : Option (ℕ × ℕ)) : Type 0 where
  pub sound : IsSound ◌==◌ r
  pub keyed : All (λ e. e.key < length keys) r.entries
  pub bests : (k : ℕ) → k < length keys → IsLastOf r.entries k (known_at keys k).best
  pub sents : (k g : ℕ) → k < length keys
      → was_sent ◌==◌ k g r ≡ is_at_most (known_at keys k).sent g
  pub ranked : AreRanks r.entries ranks
  pub fresh : is_fresh r.entries (first_rank ranks) ≡ true
  pub least : goal ≡ least_goal r

abbrev pub IsNumberStore : Inside → Type 0
IsNumberStore t = IsIndexed (record_of t) t.keys.items t.open t.goal
