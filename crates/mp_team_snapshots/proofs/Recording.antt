-- The event by which an agent records: it is not in the cut.
use Rattle.mp_world.proofs.Basics.{◌≡◌, ◌≢◌, ℕ, Bool, true, false, ◌&&◌, List, [], ◌∷◌, ◌++◌, None, refl, sym, ap, subst, ◌∙◌, false≢true}
use Rattle.mp_world.specs.AgentWords.{has, own}
use Rattle.mp_team_snapshots.specs.CutMail.{AreCut}
use Rattle.mp_team_snapshots.proofs.Both.{Both, ChangesOne, Cutting, IsCut, IsPair, cut_kept, least_counted, least_in}
use Rattle.mp_team_snapshots.proofs.Both.{recorded, taken_in}
use Rattle.mp_team_snapshots.proofs.CutMail.{cut_again, sender_records, takes_marker}
use Rattle.mp_team_snapshots.proofs.Doing.{none_taken}
use Rattle.mp_team_snapshots.proofs.Leasts.{least_nothing}
use Rattle.mp_team_snapshots.proofs.Protocol.{IsOf, each}

module _ (c : Cutting) (v v' : Both) (b : ℕ) (changes : ChangesOne c v v' b) (before : IsCut c v) (is_b : IsOf c.size b)
    (not_was : recorded c.number (v.note b) ≡ false) (is : recorded c.number (v'.note b) ≡ true)
    (more : ℕ → List (List ℕ))
    (sends : (j : ℕ) → IsOf c.size j → j ≢ b → v'.first b j ≡ v.first b j ++ c.marker ∷ more j)
    (second : (i j : ℕ) → v'.second i j ≡ v.second i j)
    (counts : (i j : ℕ) → v'.counted i j ≡ v.counted i j)
    (untaken : (j : ℕ) → IsOf c.size j → j ≢ b → taken_in c.number (v.note j) b ≡ false)
    (nothing_yet : (own (v'.note b)).under_way ≡ None) where
  from : (j : ℕ) → IsOf c.size j → j ≢ b → IsPair c v' b j
  from j is_j off =
      let old : AreCut c.marker false (taken_in c.number (v.note j) b) (v.counted b j) (v.first b j) (v.second b j) =
      subst (λ r. AreCut c.marker r (taken_in c.number (v.note j) b) (v.counted b j) (v.first b j) (v.second b j))
      not_was
      (before.mail b j is_b is_j (λ e. off (sym e))) in
      cut_again c.marker true (recorded c.number (v'.note b)) false (taken_in c.number (v'.note j) b)
      (v.counted b j) (v'.counted b j) (v.first b j ++ c.marker ∷ more j) (v'.first b j) (v.second b j) (v'.second b j)
      is (ap (λ s. taken_in c.number s b) (changes.notes j off) ∙ untaken j is_j off) (counts b j) (sends j is_j off)
      (second b j)
      (sender_records c.marker (taken_in c.number (v.note j) b) (v.counted b j) (v.first b j) (v.second b j)
      (more j) old)

  old_pair : (i : ℕ) → IsOf c.size i → i ≢ b → (r : Bool) → recorded c.number (v.note i) ≡ r → (first : List (List ℕ))
      → first ≡ v.first i b
      → AreCut c.marker r false (v.counted i b) first (v.second i b)
  old_pair i is_i off r is_r first firsts =
      cut_again c.marker (recorded c.number (v.note i)) r (taken_in c.number (v.note b) i) false (v.counted i b)
      (v.counted i b)
      (v.first i b) first (v.second i b) (v.second i b) (sym is_r) (sym (none_taken c v b i not_was)) refl firsts refl
      (before.mail i b is_i is_b off)

  new_pair : (i : ℕ) → i ≢ b → (r t : Bool) → recorded c.number (v.note i) ≡ r → has (v'.note b).marked i ≡ t
      → AreCut c.marker r t (v.counted i b) (v'.first i b) (v.second i b) → IsPair c v' i b
  new_pair i off r t is_r is_t cut =
      cut_again c.marker r (recorded c.number (v'.note i)) t (taken_in c.number (v'.note b) i) (v.counted i b)
      (v'.counted i b)
      (v'.first i b) (v'.first i b) (v.second i b) (v'.second i b) (ap (recorded c.number) (changes.notes i off) ∙ is_r)
      (λ k. is k && is_t k)
      (counts i b) refl (second i b) cut

  to_same : (i : ℕ) → IsOf c.size i → i ≢ b → has (v'.note b).marked i ≡ false → v'.first i b ≡ v.first i b
      → IsPair c v' i b
  to_same i is_i off awaited firsts =
      new_pair i off (recorded c.number (v.note i)) false refl awaited
      (old_pair i is_i off (recorded c.number (v.note i)) refl (v'.first i b) firsts)

  none_here : recorded c.number (v'.note b) ≡ false → (i : ℕ) → v'.counted i b ≡ []
  none_here not_is i = absurd (false≢true (sym not_is ∙ is))

  least_here : recorded c.number (v'.note b) ≡ true → (own (v'.note b)).under_way ≡ least_counted c v' b
  least_here test =
      nothing_yet
      ∙ sym (least_nothing (λ i. least_in c (v'.counted i b))
      (λ i. ap (least_in c) (counts i b ∙ before.none i b is_b not_was)) (c.others b))

  -- agent 1 starts a snapshot
  pub recorded_alone : ((i : ℕ) → IsOf c.size i → i ≢ b → has (v'.note b).marked i ≡ false)
      → ((i : ℕ) → IsOf c.size i → i ≢ b → v'.first i b ≡ v.first i b)
      → IsCut c v'
  recorded_alone awaited firsts =
      cut_kept c v v' b changes before from
      (λ i is_i off. to_same i is_i off (awaited i is_i off) (firsts i is_i off)) none_here least_here

  -- another agent takes a marker
  pub recorded_taking : (a : ℕ) → IsOf c.size a → a ≢ b → (x : List ℕ) → v.first a b ≡ x ∷ v'.first a b
      → ((front later : List (List ℕ)) → v'.first a b ≢ front ++ c.marker ∷ later)
      → recorded c.number (v.note a) ≡ true → has (v'.note b).marked a ≡ true
      → ((i : ℕ) → IsOf c.size i → i ≢ b → i ≢ a → has (v'.note b).marked i ≡ false)
      → ((i : ℕ) → IsOf c.size i → i ≢ b → i ≢ a → v'.first i b ≡ v.first i b)
      → IsCut c v'
  recorded_taking a is_a off_a x front alone sent comes awaited firsts =
      cut_kept c v v' b changes before from to none_here least_here
    where
      this : IsPair c v' a b
      this =
          new_pair a off_a true true sent comes
          (takes_marker c.marker x (v.counted a b) (v'.first a b) (v.second a b) alone
          (old_pair a is_a off_a true sent (x ∷ v'.first a b) (sym front)))

      to : (i : ℕ) → IsOf c.size i → i ≢ b → IsPair c v' i b
      to i is_i off =
          each c.size a (λ i. i ≢ b → IsPair c v' i b) (λ off. this)
          (λ i is_i apart off. to_same i is_i off (awaited i is_i off apart) (firsts i is_i off apart)) i is_i off
