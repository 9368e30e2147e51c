-- An event of an agent that has recorded: it is not in the cut.
use Rattle.mp_world.proofs.Basics.{◌≡◌, ◌≢◌, ℕ, Bool, true, false, ◌&&◌, eqb, List, [], ◌∷◌, ◌++◌, refl, sym, ap, subst, ◌∙◌, ◌==◌, filter, eqb-false, eqb-true, false≢true}
use Rattle.mp_world.specs.AgentWords.{lesser, has, own}
use Rattle.mp_team_snapshots.specs.CutMail.{AreCut}
use Rattle.mp_team_snapshots.proofs.Both.{Both, ChangesOne, Cutting, IsCut, IsPair, cut_kept, least_counted, least_in}
use Rattle.mp_team_snapshots.proofs.Both.{pair_again, recorded, taken_in}
use Rattle.mp_team_snapshots.proofs.CutMail.{cut_again, first_grows, takes_counted, takes_marker}
use Rattle.mp_team_snapshots.proofs.Leasts.{least_again, least_once, least_pushed}
use Rattle.mp_team_snapshots.proofs.Protocol.{IsOf}

module _ (c : Cutting) (v v' : Both) (b : ℕ) (changes : ChangesOne c v v' b) (before : IsCut c v) (is_b : IsOf c.size b)
    (was : recorded c.number (v.note b) ≡ true) (is : recorded c.number (v'.note b) ≡ true)
    (sends : (j : ℕ) → IsOf c.size j → j ≢ b → (more : List (List ℕ)) × (v'.first b j ≡ v.first b j ++ more))
    (second : (i j : ℕ) → v'.second i j ≡ v.second i j) where
  -- what it sends comes behind its marker
  from : (j : ℕ) → IsOf c.size j → j ≢ b → IsPair c v' b j
  from j is_j off =
      let sent = sends j is_j off in
      let more = sent.0 in
      let old : AreCut c.marker true (taken_in c.number (v.note j) b) (v.counted b j) (v.first b j) (v.second b j) =
      subst (λ r. AreCut c.marker r (taken_in c.number (v.note j) b) (v.counted b j) (v.first b j) (v.second b j)) was
      (before.mail b j is_b is_j (λ e. off (sym e))) in
      cut_again c.marker true (recorded c.number (v'.note b)) (taken_in c.number (v.note j) b)
      (taken_in c.number (v'.note j) b)
      (v.counted b j) (v'.counted b j) (v.first b j ++ more) (v'.first b j) (v.second b j) (v'.second b j)
      is (ap (λ s. taken_in c.number s b) (changes.notes j off)) (changes.counted b j off) sent.1 (second b j)
      (first_grows c.marker (taken_in c.number (v.note j) b) (v.counted b j) (v.first b j) (v.second b j) more old)

  taken_again : (i : ℕ) → has (v'.note b).marked i ≡ has (v.note b).marked i
      → taken_in c.number (v'.note b) i ≡ taken_in c.number (v.note b) i
  taken_again i same = λ k. (is ∙ sym was) k && same k

  to_same : (i : ℕ) → IsOf c.size i → i ≢ b → has (v'.note b).marked i ≡ has (v.note b).marked i
      → v'.counted i b ≡ v.counted i b
      → v'.first i b ≡ v.first i b → IsPair c v' i b
  to_same i is_i off marks counts firsts =
      pair_again c v v' i b (ap (recorded c.number) (changes.notes i off)) (taken_again i marks) counts firsts
      (second i b) (before.mail i b is_i is_b off)

  none_here : recorded c.number (v'.note b) ≡ false → (i : ℕ) → v'.counted i b ≡ []
  none_here not_is i = absurd (false≢true (sym not_is ∙ is))

  least_same : ((i : ℕ) → v'.counted i b ≡ v.counted i b) → (own (v'.note b)).under_way ≡ (own (v.note b)).under_way
      → recorded c.number (v'.note b) ≡ true → (own (v'.note b)).under_way ≡ least_counted c v' b
  least_same counts same test =
      same ∙ before.least b is_b was
      ∙ sym (least_again (λ i. least_in c (v.counted i b)) (λ i. least_in c (v'.counted i b))
      (λ i. ap (least_in c) (counts i)) (c.others b))

  -- it takes nothing
  pub skipped_alone : ((i : ℕ) → has (v'.note b).marked i ≡ has (v.note b).marked i)
      → ((i : ℕ) → IsOf c.size i → i ≢ b → v'.first i b ≡ v.first i b)
      → ((i : ℕ) → v'.counted i b ≡ v.counted i b)
      → (own (v'.note b)).under_way ≡ (own (v.note b)).under_way
      → IsCut c v'
  skipped_alone marks firsts counts same =
      cut_kept c v v' b changes before from
      (λ i is_i off. to_same i is_i off (marks i) (counts i) (firsts i is_i off)) none_here (least_same counts same)

  -- it takes a message
  module _ (a : ℕ) (is_a : IsOf c.size a) (off_a : a ≢ b) (x : List ℕ) (front : v.first a b ≡ x ∷ v'.first a b)
      (firsts : (i : ℕ) → IsOf c.size i → i ≢ b → i ≢ a → v'.first i b ≡ v.first i b)
      (marks : (i : ℕ) → IsOf c.size i → i ≢ a → has (v'.note b).marked i ≡ has (v.note b).marked i)
      (counts : (i : ℕ) → i ≢ a → v'.counted i b ≡ v.counted i b) where
    to : IsPair c v' a b → (i : ℕ) → IsOf c.size i → i ≢ b → IsPair c v' i b
    to special i is_i off = by (eqb i a) refl
      where
        by : (p : Bool) → eqb i a ≡ p → IsPair c v' i b
        by true test = subst (λ j. IsPair c v' j b) (sym (eqb-true i a test)) special
        by false test =
            let other = eqb-false i a test in
            to_same i is_i off (marks i is_i other) (counts i other) (firsts i is_i off other)

    counts_all : v'.counted a b ≡ v.counted a b → (i : ℕ) → v'.counted i b ≡ v.counted i b
    counts_all same i = by (eqb i a) refl
      where
        by : (p : Bool) → eqb i a ≡ p → v'.counted i b ≡ v.counted i b
        by true test = subst (λ j. v'.counted j b ≡ v.counted j b) (sym (eqb-true i a test)) same
        by false test = counts i (eqb-false i a test)

    taken_as : (t : Bool) → has (v.note b).marked a ≡ t → taken_in c.number (v.note b) a ≡ t
    taken_as t test = λ k. was k && test k

    taken_now : (t : Bool) → has (v'.note b).marked a ≡ t → taken_in c.number (v'.note b) a ≡ t
    taken_now t test = λ k. is k && test k

    -- the same, as far as the receiver goes
    old_pair : (r t : Bool) → recorded c.number (v.note a) ≡ r → has (v.note b).marked a ≡ t
        → AreCut c.marker r t (v.counted a b) (x ∷ v'.first a b) (v.second a b)
    old_pair r t is_r is_t =
        cut_again c.marker (recorded c.number (v.note a)) r (taken_in c.number (v.note b) a) t (v.counted a b)
        (v.counted a b)
        (v.first a b) (x ∷ v'.first a b) (v.second a b) (v.second a b) (sym is_r) (sym (taken_as t is_t)) refl
        (sym front) refl
        (before.mail a b is_a is_b off_a)

    new_pair : (r t : Bool) (counted : List (List ℕ)) → recorded c.number (v.note a) ≡ r → has (v'.note b).marked a ≡ t
        → v'.counted a b ≡ counted
        → AreCut c.marker r t counted (v'.first a b) (v.second a b) → IsPair c v' a b
    new_pair r t counted is_r is_t is_counted cut =
        cut_again c.marker r (recorded c.number (v'.note a)) t (taken_in c.number (v'.note b) a) counted
        (v'.counted a b)
        (v'.first a b) (v'.first a b) (v.second a b) (v'.second a b)
        (ap (recorded c.number) (changes.notes a off_a) ∙ is_r) (taken_now t is_t)
        is_counted refl (second a b) cut

    -- behind the marker of its sender: it does not count
    pub skipped_late : recorded c.number (v.note a) ≡ true → has (v.note b).marked a ≡ true
        → has (v'.note b).marked a ≡ true
        → v'.counted a b ≡ v.counted a b → (own (v'.note b)).under_way ≡ (own (v.note b)).under_way → IsCut c v'
    skipped_late sent late still same_counted same =
        cut_kept c v v' b changes before from
        (to (new_pair true true (v.counted a b) sent still same_counted (old_pair true true sent late)))
        none_here (least_same (counts_all same_counted) same)

    -- the marker of its sender
    pub skipped_marker : ((front later : List (List ℕ)) → v'.first a b ≢ front ++ c.marker ∷ later)
        → recorded c.number (v.note a) ≡ true → has (v.note b).marked a ≡ false → has (v'.note b).marked a ≡ true
        → v'.counted a b ≡ v.counted a b → (own (v'.note b)).under_way ≡ (own (v.note b)).under_way → IsCut c v'
    skipped_marker alone sent awaited comes same_counted same =
        cut_kept c v v' b changes before from
        (to (new_pair true true (v.counted a b) sent comes same_counted
        (takes_marker c.marker x (v.counted a b) (v'.first a b) (v.second a b) alone
        (old_pair true false sent awaited))))
        none_here (least_same (counts_all same_counted) same)

    -- before the marker of its sender: it counts
    pub skipped_counted : x ≢ c.marker → filter (λ i. i == a) (c.others b) ≡ a ∷ []
        → has (v.note b).marked a ≡ false → has (v'.note b).marked a ≡ false
        → v'.counted a b ≡ v.counted a b ++ x ∷ []
        → (own (v'.note b)).under_way ≡ lesser (own (v.note b)).under_way (c.cost x) → IsCut c v'
    skipped_counted other once awaited still one_more lesser_now =
        cut_kept c v v' b changes before from
        (to (new_pair (recorded c.number (v.note a)) false (v.counted a b ++ x ∷ []) refl still one_more
        (takes_counted c.marker (recorded c.number (v.note a)) x (v.counted a b) (v'.first a b) (v.second a b) other
        (old_pair (recorded c.number (v.note a)) false refl awaited))))
        none_here (λ test. least_now)
      where
        least_now : (own (v'.note b)).under_way ≡ least_counted c v' b
        least_now =
            lesser_now ∙ ap (λ l. lesser l (c.cost x)) (before.least b is_b was)
            ∙ sym (least_once a (λ i. least_in c (v.counted i b)) (λ i. least_in c (v'.counted i b))
            (λ i off. ap (least_in c) (counts i off)) (c.cost x)
            (ap (least_in c) one_more ∙ least_pushed c.cost (v.counted a b) x) (c.others b) once)
