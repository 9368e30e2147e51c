-- A schedule and its cut side by side, over the notes of agents and the messages under way alone.
use Rattle.mp_world.proofs.Basics.{◌≡◌, ◌≢◌, ℕ, Bool, true, false, ◌&&◌, eqb, List, [], map, Option, refl, sym, ap, subst, ◌∙◌, nat_le, eqb-false, eqb-true}
use Rattle.mp_world.specs.AgentWords.{least_of, Notes, has, own}
use Rattle.mp_team_snapshots.specs.CutMail.{AreCut}
use Rattle.mp_team_snapshots.proofs.CutMail.{cut_again}
use Rattle.mp_team_snapshots.proofs.Leasts.{least_again}
use Rattle.mp_team_snapshots.proofs.Protocol.{IsOf}

-- the number of a snapshot, its marker, the cost and estimate of a message that is a state, the others of each agent,
-- and
-- how many agents there are
pub record Cutting : Type 0 where
  pub number : ℕ
  pub marker : List ℕ
  pub cost : List ℕ → Option ℕ
  pub others : ℕ → List ℕ
  pub size : ℕ

-- the notes of each agent, the messages between each two after the schedule and after its cut, and those that were
-- counted
pub record Both : Type 0 where
  pub note : ℕ → Notes
  pub first : ℕ → ℕ → List (List ℕ)
  pub second : ℕ → ℕ → List (List ℕ)
  pub counted : ℕ → ℕ → List (List ℕ)

-- an agent has recorded, and it has taken another one's marker since
abbrev pub recorded : ℕ → Notes → Bool
recorded k s = nat_le k s.number

abbrev pub taken_in : ℕ → Notes → ℕ → Bool
taken_in k s from = recorded k s && has s.marked from

abbrev pub IsPair : Cutting → Both → ℕ → ℕ → Type 0
IsPair c v i j =
    AreCut c.marker (recorded c.number (v.note i)) (taken_in c.number (v.note j) i) (v.counted i j) (v.first i j)
    (v.second i j)

-- the least of what was counted of one agent, and of all others
abbrev pub least_in : Cutting → List (List ℕ) → Option ℕ
least_in c messages = least_of (map c.cost messages)

abbrev pub least_counted : Cutting → Both → ℕ → Option ℕ
least_counted c v j = least_of (map (λ i. least_in c (v.counted i j)) (c.others j))

pub record IsCut (c : Cutting) (v : Both) : Type 0 where
  pub mail : (i j : ℕ) → IsOf c.size i → IsOf c.size j → i ≢ j → IsPair c v i j
  pub none : (i j : ℕ) → IsOf c.size j → recorded c.number (v.note j) ≡ false → v.counted i j ≡ []
  pub least : (j : ℕ) → IsOf c.size j → recorded c.number (v.note j) ≡ true
      → (own (v.note j)).under_way ≡ least_counted c v j

module _ (c : Cutting) (v v' : Both) where
  -- a pair of which nothing changes
  pub pair_again : (i j : ℕ)
      → recorded c.number (v'.note i) ≡ recorded c.number (v.note i)
      → taken_in c.number (v'.note j) i ≡ taken_in c.number (v.note j) i
      → v'.counted i j ≡ v.counted i j → v'.first i j ≡ v.first i j → v'.second i j ≡ v.second i j
      → IsPair c v i j → IsPair c v' i j
  pair_again i j =
      cut_again c.marker (recorded c.number (v.note i)) (recorded c.number (v'.note i)) (taken_in c.number (v.note j) i)
      (taken_in c.number (v'.note j) i)
      (v.counted i j) (v'.counted i j) (v.first i j) (v'.first i j) (v.second i j) (v'.second i j)

  -- an event of one agent changes its notes, the messages from it and to it, and what it counted
  pub record ChangesOne (b : ℕ) : Type 0 where
    pub notes : (j : ℕ) → j ≢ b → v'.note j ≡ v.note j
    pub first : (i j : ℕ) → IsOf c.size i → IsOf c.size j → i ≢ j → i ≢ b → j ≢ b → v'.first i j ≡ v.first i j
    pub second : (i j : ℕ) → IsOf c.size i → IsOf c.size j → i ≢ j → i ≢ b → j ≢ b → v'.second i j ≡ v.second i j
    pub counted : (i j : ℕ) → j ≢ b → v'.counted i j ≡ v.counted i j

  module _ (b : ℕ) (changes : ChangesOne b) (before : IsCut c v)
      (from : (j : ℕ) → IsOf c.size j → j ≢ b → IsPair c v' b j)
      (to : (i : ℕ) → IsOf c.size i → i ≢ b → IsPair c v' i b)
      (none_here : recorded c.number (v'.note b) ≡ false → (i : ℕ) → v'.counted i b ≡ [])
      (least_here : recorded c.number (v'.note b) ≡ true → (own (v'.note b)).under_way ≡ least_counted c v' b) where
    mail_kept : (i j : ℕ) → IsOf c.size i → IsOf c.size j → i ≢ j → IsPair c v' i j
    mail_kept i j is_i is_j off = by (eqb i b) refl (eqb j b) refl
      where
        by : (p : Bool) → eqb i b ≡ p → (q : Bool) → eqb j b ≡ q → IsPair c v' i j
        by true is_b q test =
            let same = eqb-true i b is_b in
            subst (λ a. IsPair c v' a j) (sym same) (from j is_j (λ e. off (same ∙ sym e)))
        by false not_b true test =
            subst (λ a. IsPair c v' i a) (sym (eqb-true j b test)) (to i is_i (eqb-false i b not_b))
        by false not_b false test =
            let off_i = eqb-false i b not_b in
            let off_j = eqb-false j b test in
            pair_again i j (ap (recorded c.number) (changes.notes i off_i))
            (ap (λ s. taken_in c.number s i) (changes.notes j off_j))
            (changes.counted i j off_j) (changes.first i j is_i is_j off off_i off_j)
            (changes.second i j is_i is_j off off_i off_j)
            (before.mail i j is_i is_j off)

    none_kept : (i j : ℕ) → IsOf c.size j → recorded c.number (v'.note j) ≡ false → v'.counted i j ≡ []
    none_kept i j is_j test = by (eqb j b) refl
      where
        by : (q : Bool) → eqb j b ≡ q → v'.counted i j ≡ []
        by true is_b =
            let same = eqb-true j b is_b in
            ap (v'.counted i) same ∙ none_here (ap (λ a. recorded c.number (v'.note a)) (sym same) ∙ test) i
        by false not_b =
            let off = eqb-false j b not_b in
            changes.counted i j off ∙ before.none i j is_j (ap (recorded c.number) (sym (changes.notes j off)) ∙ test)

    least_kept : (j : ℕ) → IsOf c.size j → recorded c.number (v'.note j) ≡ true
        → (own (v'.note j)).under_way ≡ least_counted c v' j
    least_kept j is_j test = by (eqb j b) refl
      where
        by : (q : Bool) → eqb j b ≡ q → (own (v'.note j)).under_way ≡ least_counted c v' j
        by true is_b =
            let same = eqb-true j b is_b in
            subst (λ a. (own (v'.note a)).under_way ≡ least_counted c v' a) (sym same)
            (least_here (ap (λ a. recorded c.number (v'.note a)) (sym same) ∙ test))
        by false not_b =
            let off = eqb-false j b not_b in
            ap (λ s. (own s).under_way) (changes.notes j off)
            ∙ before.least j is_j (ap (recorded c.number) (sym (changes.notes j off)) ∙ test)
            ∙ sym (least_again (λ i. least_in c (v.counted i j)) (λ i. least_in c (v'.counted i j))
            (λ i. ap (least_in c) (changes.counted i j off)) (c.others j))

    pub cut_kept : IsCut c v'
    cut_kept = record { mail = mail_kept; none = none_kept; least = least_kept }
