-- The order of open entries.
use Rattle.std.specs.Prelude.{Bool, List, Option, None}
use Rattle.std.specs.Ordering.{is_lt}
use Rattle.std.specs.declared.cmp.Ordering.{Ordering}
use Rattle.mp_list.specs.First.{leftmost}
use Rattle.mp_store.specs.declared.rank.Rank.{Rank}
use Rattle.mp_store.specs.contracts.rank.RankOrd.TheImpl as ranks
use Rattle.mp_store.specs.Minima.{Numbered}
use Rattle.mp_store.specs.Record.{f}

-- the rank of an entry
abbrev pub rank_of : {K : Type 0} → Numbered K → Rank
rank_of x = record { f = f x.1; h = x.1.h; number = x.0 }

abbrev pub rank_cmp : Rank → Rank → Ordering
rank_cmp = ranks.ghosts.cmp

abbrev pub is_sooner : Rank → Rank → Bool
is_sooner p q = is_lt (rank_cmp p q)

-- the rank that comes first, if there is one
abbrev pub first_rank : List Rank → Option Rank
first_rank ranks = leftmost is_sooner None ranks
