-- Rows of words as the entries of a memo.
use Rattle.std.proofs.Common.{◌≡◌, ℕ, zero, suc, ◌<◌, Bool, true, false, cond, ltb, List, [], ◌∷◌, ◌++◌, length, get_or, take, drop, All, Option, None, refl, sym, ap, subst, ◌∙◌, arith}
use Rattle.std.specs.Prelude.{Contains}
use Rattle.std.proofs.Math.Seq.{drop-append_seam, take-append_seam}
use Rattle.std.proofs.lemmas.List.Elements.{All-nil}
use Rattle.mp_rows.specs.Apart.{IsNew}
use Rattle.mp_sets.specs.Numbers.{Numbers, SizedSet, numbers_below}
use Rattle.mp_sets.specs.Words.{has_bit, words_for}
use Rattle.mp_relaxed.specs.Memo.{HasNone, MemoEntry, with_room}
use Rattle.mp_relaxed.specs.MemoFields.{HasSets, IsStateRow, entries_in, entry_in, privates_in, publics_in, state_row, words_of}

module _ (p q : ℕ) where
  pub entries_long : (rows : List (List ℕ)) (values : List (Option ℕ)) → length values ≡ length rows → length (entries_in p q rows values) ≡ length rows
  entries_long [] values each = refl
  entries_long (row ∷ rows) [] each = absurd (omega arith)
  entries_long (row ∷ rows) (v ∷ values) each = let h = entries_long rows values (omega arith) in omega arith

  pub entry_is : (rows : List (List ℕ)) (values : List (Option ℕ)) (n : ℕ) (e : MemoEntry) (v : Option ℕ) → length values ≡ length rows → n < length rows → get_or (entries_in p q rows values) n e ≡ entry_in p q (get_or rows n []) (get_or values n v)
  entry_is [] values n e v each inside = absurd (omega arith)
  entry_is (row ∷ rows) [] n e v each inside = absurd (omega arith)
  entry_is (row ∷ rows) (w ∷ values) zero e v each inside = refl
  entry_is (row ∷ rows) (w ∷ values) (suc n) e v each inside = entry_is rows values n e v (omega arith) (omega arith)

  pub entries_pushed : (rows : List (List ℕ)) (values : List (Option ℕ)) (row : List ℕ) (v : Option ℕ) → length values ≡ length rows → entries_in p q (rows ++ row ∷ []) (values ++ v ∷ []) ≡ entries_in p q rows values ++ entry_in p q row v ∷ []
  entries_pushed [] [] row v each = refl
  entries_pushed [] (w ∷ values) row v each = absurd (omega arith)
  entries_pushed (r ∷ rows) [] row v each = absurd (omega arith)
  entries_pushed (r ∷ rows) (w ∷ values) row v each = ap (λ es. entry_in p q r w ∷ es) (entries_pushed rows values row v (omega arith))

-- room for one more leaves all items or none
pub room_all : {X : Type 0} (P : X → Type 0) (xs : List X) → All P xs → All P (with_room xs)
room_all {X} P xs all = by (ltb (length xs) 131072)
  where
    by : (b : Bool) → All P (cond b xs [])
    by true = all
    by false = All-nil P

pub none_room : (entries : List MemoEntry) (publics privates : Numbers) → HasNone entries publics privates → HasNone (with_room entries) publics privates
none_room entries publics privates = room_all (λ (e : MemoEntry). e.publics ≡ publics → e.privates ≡ privates → ⊥) entries

pub room_long : {X Y : Type 0} (xs : List X) (ys : List Y) → length ys ≡ length xs → length (with_room ys) ≡ length (with_room xs)
room_long {X} {Y} xs ys each = ap (λ n. length (cond (ltb n 131072) ys [])) each ∙ by (ltb (length xs) 131072)
  where
    by : (b : Bool) → length (cond b ys []) ≡ length (cond b xs [])
    by true = each
    by false = refl

pub entries_room : (p q : ℕ) (rows : List (List ℕ)) (values : List (Option ℕ)) → length values ≡ length rows → entries_in p q (with_room rows) (with_room values) ≡ with_room (entries_in p q rows values)
entries_room p q rows values each =
    ap (λ n. entries_in p q (with_room rows) (cond (ltb n 131072) values [])) each
    ∙ by (ltb (length rows) 131072)
    ∙ ap (λ n. cond (ltb n 131072) (entries_in p q rows values) []) (sym (entries_long p q rows values each))
  where
    by : (b : Bool) → entries_in p q (cond b rows []) (cond b values []) ≡ cond b (entries_in p q rows values) []
    by true = refl
    by false = refl

-- ---- the row of a state

pub has_sets : (p q : ℕ) (publics privates : Numbers) (front back : List ℕ) → front ≡ words_of p publics → back ≡ words_of q privates → length front ≡ words_for p
    → numbers_below p (has_bit front) ≡ publics → numbers_below q (has_bit back) ≡ privates → HasSets p q publics privates
has_sets p q publics privates front back front_is back_is long publics_are privates_are =
    let row : front ++ back ≡ state_row p q publics privates = λ j. front_is j ++ back_is j in
    record {
      public_one = subst (λ l. publics_in p l ≡ publics) row
          (ap (λ l. numbers_below p (has_bit l)) (ap (λ n. take n (front ++ back)) (sym long) ∙ take-append_seam front back) ∙ publics_are);
      private_one = subst (λ l. privates_in p q l ≡ privates) row
          (ap (λ l. numbers_below q (has_bit l)) (ap (λ n. drop n (front ++ back)) (sym long) ∙ drop-append_seam front back) ∙ privates_are);
    }

module _ (p q : ℕ) (publics privates : Numbers) (has : HasSets p q publics privates) where
  pub entry_of_row : (value : Option ℕ) → entry_in p q (state_row p q publics privates) value ≡ record { publics = publics; privates = privates; value = value }
  entry_of_row value = λ j. record { publics = has.public_one j; privates = has.private_one j; value = value }

  pub is_state_row : IsStateRow p q (state_row p q publics privates)
  is_state_row = λ j. state_row p q (sym has.public_one j) (sym has.private_one j)

  module _ (rows : List (List ℕ)) (values : List (Option ℕ)) (each : length values ≡ length rows) where
    pub found_entry : (n : ℕ) (value : Option ℕ) → n < length rows → get_or rows n [] ≡ state_row p q publics privates → get_or values n value ≡ value
        → Contains (entries_in p q rows values) (record { publics = publics; privates = privates; value = value })
    found_entry n value inside row is = (
      n,
      omega (arith, inside, entries_long p q rows values each),
      entry_is p q rows values n (record { publics = publics; privates = privates; value = value }) value each inside
          ∙ (λ j. entry_in p q (row j) (is j)) ∙ entry_of_row value,
    )

    pub no_entry : All (IsStateRow p q) rows → IsNew (state_row p q publics privates) rows → HasNone (entries_in p q rows values) publics privates
    no_entry are new n d n_in one other =
        let inside : n < length rows = omega (arith, n_in, entries_long p q rows values each) in
        let is = entry_is p q rows values n d None each inside in
        new n inside
        (are n [] inside
        ∙ (λ j. state_row p q ((ap (λ (e : MemoEntry). e.publics) (sym is) ∙ one) j) ((ap (λ (e : MemoEntry). e.privates) (sym is) ∙ other) j)))

    pub new_row : HasNone (entries_in p q rows values) publics privates → IsNew (state_row p q publics privates) rows
    new_row none n inside row =
        let is = entry_is p q rows values n (record { publics = publics; privates = privates; value = None }) None each inside in
        none n (record { publics = publics; privates = privates; value = None }) (omega (arith, inside, entries_long p q rows values each))
        (ap (λ (e : MemoEntry). e.publics) is ∙ ap (publics_in p) row ∙ has.public_one)
        (ap (λ (e : MemoEntry). e.privates) is ∙ ap (privates_in p q) row ∙ has.private_one)

-- sizes by which rows are read
pub sets_at_sizes : (p q : ℕ) (publics privates : SizedSet) → publics.size ≡ p → privates.size ≡ q → HasSets publics.size privates.size publics.members privates.members → HasSets p q publics.members privates.members
sets_at_sizes p q publics privates one other has =
    subst (λ n. HasSets p n publics.members privates.members) other (subst (λ n. HasSets n privates.size publics.members privates.members) one has)
