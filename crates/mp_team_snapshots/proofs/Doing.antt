-- An event of an agent that has not recorded and does not record by it: it is in the cut, too.
use Rattle.mp_world.proofs.Basics.{◌≡◌, ◌≢◌, ℕ, true, false, List, [], ◌∷◌, ◌++◌, refl, sym, ap, subst, ◌∙◌, and_left, false≢true}
use Rattle.mp_world.specs.AgentWords.{has, own}
use Rattle.mp_team_snapshots.specs.CutMail.{AreCut}
use Rattle.mp_team_snapshots.proofs.Both.{Both, ChangesOne, Cutting, IsCut, IsPair, cut_kept, least_counted, recorded}
use Rattle.mp_team_snapshots.proofs.Both.{taken_in}
use Rattle.mp_team_snapshots.proofs.CutMail.{IsTakenInBoth, both_grow, cut_again, same_tail, takes_both}
use Rattle.mp_team_snapshots.proofs.Protocol.{IsOf, each}

-- an agent that has not recorded has taken no marker since
pub none_taken : (c : Cutting) (v : Both) (b i : ℕ) → recorded c.number (v.note b) ≡ false
    → taken_in c.number (v.note b) i ≡ false
none_taken c v b i not_is = and_left (recorded c.number (v.note b)) (has (v.note b).marked i) not_is

-- what an agent that has not recorded takes is the oldest message after the cut, too
pub oldest_in_both : (c : Cutting) (v : Both) → IsCut c v → (a b : ℕ) → IsOf c.size a → IsOf c.size b → a ≢ b
    → recorded c.number (v.note b) ≡ false
    → (x : List ℕ) (left : List (List ℕ)) → v.first a b ≡ x ∷ left
    → (recorded c.number (v.note a) ≡ true → x ≢ c.marker)
    → IsTakenInBoth c.marker (recorded c.number (v.note a)) x left (v.second a b)
oldest_in_both c v before a b is_a is_b off not_is x left front other =
    takes_both c.marker (recorded c.number (v.note a)) x left (v.second a b) other
    (cut_again c.marker (recorded c.number (v.note a)) (recorded c.number (v.note a))
    (taken_in c.number (v.note b) a) false (v.counted a b) []
    (v.first a b) (x ∷ left) (v.second a b) (v.second a b) refl (sym (none_taken c v b a not_is))
    (sym (before.none a b is_b not_is)) (sym front) refl
    (before.mail a b is_a is_b off))

module _ (c : Cutting) (v v' : Both) (b : ℕ) (changes : ChangesOne c v v' b) (before : IsCut c v) (is_b : IsOf c.size b)
    (not_was : recorded c.number (v.note b) ≡ false) (not_is : recorded c.number (v'.note b) ≡ false)
    (more : ℕ → List (List ℕ))
    (sends : (j : ℕ) → IsOf c.size j → j ≢ b → v'.first b j ≡ v.first b j ++ more j)
    (sends_too : (j : ℕ) → IsOf c.size j → j ≢ b → v'.second b j ≡ v.second b j ++ more j)
    (counts : (i j : ℕ) → v'.counted i j ≡ v.counted i j) where
  from : (j : ℕ) → IsOf c.size j → j ≢ b → IsPair c v' b j
  from j is_j off =
      let old : AreCut c.marker false (taken_in c.number (v.note j) b) (v.counted b j) (v.first b j) (v.second b j) =
      subst (λ r. AreCut c.marker r (taken_in c.number (v.note j) b) (v.counted b j) (v.first b j) (v.second b j))
      not_was
      (before.mail b j is_b is_j (λ e. off (sym e))) in
      cut_again c.marker false (recorded c.number (v'.note b)) (taken_in c.number (v.note j) b)
      (taken_in c.number (v'.note j) b)
      (v.counted b j) (v'.counted b j) (v.first b j ++ more j) (v'.first b j) (v.second b j ++ more j) (v'.second b j)
      not_is (ap (λ s. taken_in c.number s b) (changes.notes j off)) (counts b j) (sends j is_j off)
      (sends_too j is_j off)
      (both_grow c.marker (taken_in c.number (v.note j) b) (v.counted b j) (v.first b j) (v.second b j) (more j) old)

  to_same : (i : ℕ) → IsOf c.size i → i ≢ b → v'.first i b ≡ v.first i b → v'.second i b ≡ v.second i b
      → IsPair c v' i b
  to_same i is_i off firsts seconds =
      cut_again c.marker (recorded c.number (v.note i)) (recorded c.number (v'.note i)) (taken_in c.number (v.note b) i)
      (taken_in c.number (v'.note b) i)
      (v.counted i b) (v'.counted i b) (v.first i b) (v'.first i b) (v.second i b) (v'.second i b)
      (ap (recorded c.number) (changes.notes i off)) (none_taken c v' b i not_is ∙ sym (none_taken c v b i not_was))
      (counts i b) firsts seconds
      (before.mail i b is_i is_b off)

  none_here : recorded c.number (v'.note b) ≡ false → (i : ℕ) → v'.counted i b ≡ []
  none_here not_is i = counts i b ∙ before.none i b is_b not_was

  least_here : recorded c.number (v'.note b) ≡ true → (own (v'.note b)).under_way ≡ least_counted c v' b
  least_here is = absurd (false≢true (sym not_is ∙ is))

  -- it takes nothing
  pub done_alone : ((i : ℕ) → IsOf c.size i → i ≢ b → v'.first i b ≡ v.first i b)
      → ((i : ℕ) → IsOf c.size i → i ≢ b → v'.second i b ≡ v.second i b)
      → IsCut c v'
  done_alone firsts seconds =
      cut_kept c v v' b changes before from
      (λ i is_i off. to_same i is_i off (firsts i is_i off) (seconds i is_i off)) none_here least_here

  -- it takes a message
  pub done_taking : (a : ℕ) → IsOf c.size a → a ≢ b → (x : List ℕ)
      → v.first a b ≡ x ∷ v'.first a b → v.second a b ≡ x ∷ v'.second a b
      → (recorded c.number (v.note a) ≡ true → x ≢ c.marker)
      → ((i : ℕ) → IsOf c.size i → i ≢ b → i ≢ a → v'.first i b ≡ v.first i b)
      → ((i : ℕ) → IsOf c.size i → i ≢ b → i ≢ a → v'.second i b ≡ v.second i b)
      → IsCut c v'
  done_taking a is_a off_a x front front_too other firsts seconds =
      cut_kept c v v' b changes before from to none_here least_here
    where
      oldest : IsTakenInBoth c.marker (recorded c.number (v.note a)) x (v'.first a b) (v.second a b)
      oldest = oldest_in_both c v before a b is_a is_b off_a not_was x (v'.first a b) front other

      this : IsPair c v' a b
      this =
          cut_again c.marker (recorded c.number (v.note a)) (recorded c.number (v'.note a)) false
          (taken_in c.number (v'.note b) a)
          [] (v'.counted a b) (v'.first a b) (v'.first a b) oldest.left (v'.second a b)
          (ap (recorded c.number) (changes.notes a off_a)) (none_taken c v' b a not_is)
          (counts a b ∙ before.none a b is_b not_was) refl
          (same_tail x x (v'.second a b) oldest.left (sym front_too ∙ oldest.front))
          oldest.cut

      to : (i : ℕ) → IsOf c.size i → i ≢ b → IsPair c v' i b
      to i is_i off =
          each c.size a (λ i. i ≢ b → IsPair c v' i b) (λ off. this)
          (λ i is_i apart off. to_same i is_i off (firsts i is_i off apart) (seconds i is_i off apart)) i is_i off
