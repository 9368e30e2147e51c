-- How what is found changes: an entry is kept or closed, messages are sent, and a message is taken.
use Rattle.std.specs.Prelude.{◌≡◌, ◌<◌, [], ◌⊎◌, Contains}
use Rattle.mp_store.specs.declared.entry.Mark.TheVariants.{Open, Expanded, Replaced}
use Rattle.mp_reach.specs.Explored.{IsAt}
use Rattle.mp_reach.specs.Found.{Entry, Message, Found}

module _ {S : Type 0} where
  -- the same entry, but for its mark
  pub record IsAlike (e later : Entry S) : Type 0 where
    pub state : later.state ≡ e.state
    pub cost : later.cost ≡ e.cost
    pub estimate : later.estimate ≡ e.estimate

  -- an entry before and after a new one of a state came: an open one of that state gives way
  abbrev pub GivesWay : S → Entry S → Entry S → Type 0
  GivesWay s e later =
      (later.mark ≡ e.mark)
      ⊎ ((e.mark ≡ Open) × (later.mark ≡ Replaced) × (e.state ≡ s))

module _ {I S : Type 0} where
  -- an entry before and after that of an index was closed
  abbrev pub IsClosedAt : I → I → Entry S → Entry S → Type 0
  IsClosedAt closed i e later = (later.mark ≡ e.mark) ⊎ ((i ≡ closed) × (later.mark ≡ Expanded))

  -- nothing is expanded or sent yet
  pub record Starts (found : Found I S) : Type 0 where
    pub all_open : (i : I) (e : Entry S) → IsAt found i e → e.mark ≡ Open
    pub sent : found.sent ≡ []
    pub under_way : found.under_way ≡ []

  -- no message came or went
  pub record SameMessages (old new : Found I S) : Type 0 where
    pub sent : new.sent ≡ old.sent
    pub under_way : new.under_way ≡ old.under_way

  -- a new open entry is kept, which costs less than each other one of its state
  pub record Keeps (old new : Found I S) (n : Entry S) : Type 0 where
    pub index : I
    pub added : IsAt new index n
    pub is_open : n.mark ≡ Open
    pub stays : (i : I) (e : Entry S) → IsAt old i e
        → (later : Entry S) × IsAt new i later × IsAlike e later × GivesWay n.state e later
    pub only : (i : I) (later : Entry S) → IsAt new i later
        → (later ≡ n)
        ⊎ ((e : Entry S) × IsAt old i e × IsAlike e later × GivesWay n.state e later)
    pub cheaper : (i : I) (e : Entry S) → IsAt old i e → e.state ≡ n.state → n.cost < e.cost
    pub messages : SameMessages old new

  -- the entry of an index is closed
  pub record Closes (old new : Found I S) (closed : I) : Type 0 where
    pub stays : (i : I) (e : Entry S) → IsAt old i e
        → (later : Entry S) × IsAt new i later × IsAlike e later × IsClosedAt closed i e later
    pub only : (i : I) (later : Entry S) → IsAt new i later
        → (e : Entry S) × IsAt old i e × IsAlike e later × IsClosedAt closed i e later
    pub messages : SameMessages old new

  -- messages are sent, and are under way
  pub record Sends (old new : Found I S) : Type 0 where
    pub entries : (i : I) → new.entry i ≡ old.entry i
    pub stay : (m : Message S) → Contains old.under_way m → Contains new.under_way m
    pub sent : (m : Message S) → Contains new.sent m
        → Contains old.sent m ⊎ Contains new.under_way m

  -- a message was taken, and is no longer under way
  pub record Takes (old new : Found I S) (taken : Message S) : Type 0 where
    pub entries : (i : I) → new.entry i ≡ old.entry i
    pub sent : new.sent ≡ old.sent
    pub others : (m : Message S) → Contains old.under_way m
        → (m ≡ taken) ⊎ Contains new.under_way m
    pub only : (m : Message S) → Contains new.under_way m → Contains old.under_way m
