-- What is due: a marker or a report that is under way exactly where a test says so.
use Rattle.mp_world.proofs.Basics.{◌≡◌, ◌≢◌, ℕ, ◌<◌, Bool, true, false, ◌&&◌, List, [], ◌∷◌, refl, sym, ap, ◌∙◌, ◌==◌, not, nat_lt, and_from, and_left, and_parts, and_right, eq-eqb, eqb-true, false_from_ne_true, lt-ltb, ltb-true}
use Rattle.mp_world.specs.AgentWords.{Findings}
use Rattle.mp_team_snapshots.specs.Snapshots.{one_if_due}

-- ---- one item or none

pub due_none : {A : Type 0} (b : Bool) (x : A) → b ≡ false → one_if_due b x ≡ []
due_none true x is = absurd cc
due_none false x is = refl

pub due_one : {A : Type 0} (b : Bool) (x : A) → b ≡ true → one_if_due b x ≡ x ∷ []
due_one true x is = refl
due_one false x is = absurd cc

-- where an item is there, it was due and it stands alone
pub record IsItem {A : Type 0} (b : Bool) (x y : A) (ys : List A) : Type 0 where
  pub due : b ≡ true
  pub same : y ≡ x
  pub alone : ys ≡ []

same_head : {A : Type 0} (x y : A) (xs ys : List A) → x ∷ xs ≡ y ∷ ys → x ≡ y
same_head x y xs ys e = cc

same_tail : {A : Type 0} (x y : A) (xs ys : List A) → x ∷ xs ≡ y ∷ ys → xs ≡ ys
same_tail x y xs ys e = cc

pub due_item : {A : Type 0} (b : Bool) (x y : A) (ys : List A) → y ∷ ys ≡ one_if_due b x → IsItem b x y ys
due_item true x y ys e = record { due = refl; same = same_head y x ys [] e; alone = same_tail y x ys [] e }
due_item false x y ys e = absurd cc

pub not_true : (b : Bool) → not b ≡ true → b ≡ false
not_true true e = sym e
not_true false e = refl

pub apart_bools : (b : Bool) → b ≡ true → b ≡ false → ⊥
apart_bools b yes_it no_it = cc

-- ---- the snapshot that agent 1 began last

-- an agent with one number has begun the snapshot of another one
abbrev pub begun_in : ℕ → ℕ → Bool
begun_in last number = nat_lt 0 last && (number == last)

pub begun_is : (last number : ℕ) → 0 < last → number ≡ last → begun_in last number ≡ true
begun_is last number some same = and_from (nat_lt 0 last) (number == last) (lt-ltb 0 last some) (eq-eqb number last same)

pub begun_number : (last number : ℕ) → begun_in last number ≡ true → number ≡ last
begun_number last number is = eqb-true number last (and_parts (nat_lt 0 last) (number == last) is).1

pub begun_some : (last number : ℕ) → begun_in last number ≡ true → 0 < last
begun_some last number is = ltb-true 0 last (and_parts (nat_lt 0 last) (number == last) is).0

pub not_begun : (last number : ℕ) → number ≢ last → begun_in last number ≡ false
not_begun last number other = false_from_ne_true (begun_in last number) (λ is. other (begun_number last number is))

pub none_begun : (last number : ℕ) → last ≡ 0 → begun_in last number ≡ false
none_begun last number none = ap (λ n. begun_in n number) none

-- ---- markers

-- the markers that are due from an agent to another one: by the numbers of agent 1 and of both, and whether it was taken
abbrev pub due_marker : ℕ → ℕ → ℕ → Bool → List ℕ
due_marker last from to taken = one_if_due (begun_in last from && not (begun_in last to && taken)) last

pub marker_again : (last last' from from' to to' : ℕ) (taken taken' : Bool) → last' ≡ last → from' ≡ from → to' ≡ to → taken' ≡ taken
    → due_marker last from to taken ≡ due_marker last' from' to' taken'
marker_again last last' from from' to to' taken taken' a b c d = sym (λ k. due_marker (a k) (b k) (c k) (d k))

pub no_marker_begun : (last from to : ℕ) (taken : Bool) → begun_in last from ≡ false → due_marker last from to taken ≡ []
no_marker_begun last from to taken none =
    due_none _ last (and_left (begun_in last from) (not (begun_in last to && taken)) none)

pub no_marker_taken : (last from to : ℕ) (taken : Bool) → (begun_in last to && taken) ≡ true → due_marker last from to taken ≡ []
no_marker_taken last from to taken is =
    due_none _ last (and_right (begun_in last from) (not (begun_in last to && taken)) (ap not is))

pub one_marker : (last from to : ℕ) (taken : Bool) → begun_in last from ≡ true → (begun_in last to && taken) ≡ false → due_marker last from to taken ≡ last ∷ []
one_marker last from to taken is none =
    due_one _ last (and_from (begun_in last from) (not (begun_in last to && taken)) is (ap not none))

-- what is known where a marker is under way
pub record IsMarker (last from to front : ℕ) (taken : Bool) (others : List ℕ) : Type 0 where
  pub begun : begun_in last from ≡ true
  pub awaited : (begun_in last to && taken) ≡ false
  pub number : front ≡ last
  pub alone : others ≡ []

pub marker_there : (last from to number : ℕ) (taken : Bool) (others : List ℕ) → number ∷ others ≡ due_marker last from to taken → IsMarker last from to number taken others
marker_there last from to number taken others is =
    let item = due_item (begun_in last from && not (begun_in last to && taken)) last number others is in
    let both = and_parts (begun_in last from) (not (begun_in last to && taken)) item.due in
    record { begun = both.0; awaited = not_true (begun_in last to && taken) both.1; number = item.same; alone = item.alone }

-- ---- reports

-- the reports that are due from an agent to agent 1: by the numbers of both, whether the agent's findings are whole, and
-- whether agent 1 has the report
abbrev pub due_report : ℕ → ℕ → Bool → Bool → Findings → List Findings
due_report last number whole here mine = one_if_due ((begun_in last number && whole) && not (nat_lt 0 last && here)) mine

pub report_again : (last last' number number' : ℕ) (whole whole' here here' : Bool) (mine mine' : Findings)
    → last' ≡ last → number' ≡ number → whole' ≡ whole → here' ≡ here → mine' ≡ mine
    → due_report last number whole here mine ≡ due_report last' number' whole' here' mine'
report_again last last' number number' whole whole' here here' mine mine' a b c d e =
    sym (λ k. due_report (a k) (b k) (c k) (d k) (e k))

pub no_report_done : (last number : ℕ) (whole here : Bool) (mine : Findings) → (begun_in last number && whole) ≡ false → due_report last number whole here mine ≡ []
no_report_done last number whole here mine none = due_none _ mine (and_left (begun_in last number && whole) (not (nat_lt 0 last && here)) none)

pub no_report_here : (last number : ℕ) (whole here : Bool) (mine : Findings) → (nat_lt 0 last && here) ≡ true → due_report last number whole here mine ≡ []
no_report_here last number whole here mine is =
    due_none _ mine (and_right (begun_in last number && whole) (not (nat_lt 0 last && here)) (ap not is))

-- a report of an agent that has begun and that agent 1 has nothing of is due where the findings are whole
pub report_whole : (last number : ℕ) (whole here : Bool) (mine : Findings) → begun_in last number ≡ true → (nat_lt 0 last && here) ≡ false
    → due_report last number whole here mine ≡ one_if_due whole mine
report_whole last number whole here mine begun none =
    (λ k. one_if_due ((begun k && whole) && not (none k)) mine) ∙ by whole
  where
    by : (b : Bool) → one_if_due ((true && b) && not false) mine ≡ one_if_due b mine
    by true = refl
    by false = refl

pub record IsReport (last number : ℕ) (whole here : Bool) (mine front : Findings) (others : List Findings) : Type 0 where
  pub done : (begun_in last number && whole) ≡ true
  pub awaited : (nat_lt 0 last && here) ≡ false
  pub found : front ≡ mine
  pub alone : others ≡ []

pub report_there : (last number : ℕ) (whole here : Bool) (mine found : Findings) (others : List Findings)
    → found ∷ others ≡ due_report last number whole here mine → IsReport last number whole here mine found others
report_there last number whole here mine found others is =
    let item = due_item ((begun_in last number && whole) && not (nat_lt 0 last && here)) mine found others is in
    let both = and_parts (begun_in last number && whole) (not (nat_lt 0 last && here)) item.due in
    record { done = both.0; awaited = not_true (nat_lt 0 last && here) both.1; found = item.same; alone = item.alone }
