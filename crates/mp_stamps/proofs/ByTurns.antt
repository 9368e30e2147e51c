-- A merge by turns, from the first to the last.
use Rattle.std.proofs.Common.{◌≡◌, ℕ, ◌+◌, ◌<◌, ◌≤◌, ⊎_elim, ne_eqb, false, List, [], ◌∷◌, ◌++◌, length, get_or, refl, sym, ap, subst, ◌∙◌, arith, append_assoc, None}
use Rattle.std.specs.Prelude.{All, slice_index_or, slice_set}
use Rattle.std.specs.List.{AllPairs, filter}
use Rattle.std.specs.List.Sorted.{IsPermutation}
use Rattle.std.proofs.lemmas.Bool.{cases_lt}
use Rattle.std.proofs.lemmas.List.{append-nil, length-append, map-append}
use Rattle.std.proofs.lemmas.List.Concat.{flat_map-append}
use Rattle.std.proofs.lemmas.List.Elements.{All-append, All-cons, All-head, All-nil, All-tail, All-weaker, filter-append}
use Rattle.std.proofs.lemmas.List.Sorted.{IsPermutation-append_comm, IsPermutation-append_left, IsPermutation-append_right, IsPermutation-refl, IsPermutation-trans}
use Rattle.mp_messages.specs.declared.history.Entry.{Entry}
use Rattle.mp_stamps.specs.Lists.{Rises, entries}
use Rattle.mp_stamps.specs.Sorting.{IsInOrderOf, has_stamp}
use Rattle.mp_stamps.specs.Turns.{Begins, BeginsAfter, BeginsFrom, IsTurn, IsTurnOf, left_behind, up_to}
use Rattle.mp_stamps.specs.declared.merging.Turn.{Turn}
use Rattle.mp_stamps.specs.declared.stamped.Stamped.{Stamped}
use Rattle.mp_stamps.proofs.Filters.{all_back, all_front, at_seam, filter_none, pairs_append, pairs_front, pairs_nil, set_seam}
use Rattle.mp_stamps.proofs.Parts.{flat}
use Rattle.mp_stamps.proofs.Sorted.{From, NotLater}
use Rattle.mp_stamps.proofs.Turns.{Later, UpTo, fewer, from_flat, later_flat, left_high, left_rises, split, taken_low}

-- what was taken so far and what is left are the entries of all lists, with those of one stamp in their order, and nothing that is left
-- has a smaller stamp than what was taken
pub record IsMerging (lists rests : List (List Stamped)) (log : List Entry) : Type 0 where
  pub done : List Stamped
  pub floor : ℕ
  pub log_is : log ≡ entries done
  pub same : IsPermutation (flat lists) (done ++ flat rests)
  pub stay : (t : ℕ) → filter (has_stamp t) (done ++ flat rests) ≡ filter (has_stamp t) (flat lists)
  pub ordered : AllPairs NotLater done
  pub below : All (UpTo floor) done
  pub above : All (From floor) (flat rests)
  pub rise : All Rises rests

pub begin : (lists rests : List (List Stamped)) (log : List Entry) → All Rises lists → rests ≡ lists → log ≡ [] → IsMerging lists rests log
begin lists rests log rise e none = subst (λ (l : List (List Stamped)). IsMerging lists l log) (sym e) (record {
  done = [];
  floor = 0;
  log_is = none;
  same = IsPermutation-refl (flat lists);
  stay = λ t. refl;
  ordered = pairs_nil NotLater;
  below = All-nil (UpTo 0);
  above = λ k d within. omega arith;
  rise = rise;
})

-- ---- a turn

beside : (xs ys : List Stamped) → xs ≡ [] → xs ++ ys ≡ ys ++ xs
beside xs ys e = ap (λ (l : List Stamped). l ++ ys) e ∙ (sym (append-nil ys) ∙ ap (λ (l : List Stamped). ys ++ l) (sym e))

-- entries up to a stamp go before later ones without a change in those of one stamp
swapped : (t last : ℕ) (early late : List Stamped) → All (UpTo last) early → All (Later last) late
    → filter (has_stamp t) (early ++ late) ≡ filter (has_stamp t) (late ++ early)
swapped t last early late low high = filter-append (has_stamp t) early late ∙ (⊎_elim
    (λ (behind : last < t). beside (filter (has_stamp t) early) (filter (has_stamp t) late) (filter_none (has_stamp t) early
    (All-weaker (UpTo last) (λ (s : Stamped). has_stamp t s ≡ false) (λ s h. ne_eqb s.stamp t (λ e. omega arith)) early low)))
    (λ (within : t ≤ last). sym (beside (filter (has_stamp t) late) (filter (has_stamp t) early) (filter_none (has_stamp t) late
    (All-weaker (Later last) (λ (s : Stamped). has_stamp t s ≡ false) (λ s h. ne_eqb s.stamp t (λ e. omega arith)) late high))))
    (cases_lt last t) ∙ sym (filter-append (has_stamp t) late early))

module _ (before behind : List (List Stamped)) (own : List Stamped) (turn : Turn) (begins : Begins turn.stamp own) (in_time : turn.stamp ≤ turn.last) where
  abbrev took : List Stamped
  took = up_to turn.last own

  abbrev left : List Stamped
  left = left_behind turn.last own

  abbrev first : List Stamped
  first = flat before

  abbrev rest : List Stamped
  rest = left ++ flat behind

  new_flat : flat (before ++ left ∷ behind) ≡ first ++ rest
  new_flat = flat_map-append (λ (list : List Stamped). list) before (left ∷ behind)

  pub less_left : length (flat (before ++ left ∷ behind)) < length (flat (before ++ own ∷ behind))
  less_left =
      let new : length (flat (before ++ left ∷ behind)) ≡ length first + (length left + length (flat behind)) =
      ap length new_flat ∙ (length-append first rest ∙ ap (λ (k : ℕ). length first + k) (length-append left (flat behind))) in
      let old : length (flat (before ++ own ∷ behind)) ≡ length first + (length own + length (flat behind)) =
      ap length (flat_map-append (λ (list : List Stamped). list) before (own ∷ behind))
      ∙ (length-append first (own ++ flat behind) ∙ ap (λ (k : ℕ). length first + k) (length-append own (flat behind))) in
      let less = fewer turn.last turn.stamp own begins in_time in
      omega arith

  module _ (lists : List (List Stamped)) (log : List Entry) (m : IsMerging lists (before ++ own ∷ behind) log)
      (after : All (BeginsAfter turn.last) before) (from : All (BeginsFrom turn.last) behind) where
    rise_before : All Rises before
    rise_before = all_front Rises before (own ∷ behind) m.rise

    rise_behind : All Rises (own ∷ behind)
    rise_behind = all_back Rises before (own ∷ behind) m.rise

    own_rises : Rises own
    own_rises = All-head Rises own behind rise_behind

    old_flat : flat (before ++ own ∷ behind) ≡ first ++ (took ++ rest)
    old_flat = flat_map-append (λ (list : List Stamped). list) before (own ∷ behind)
        ∙ ap (λ (l : List Stamped). first ++ l) (ap (λ (l : List Stamped). l ++ flat behind) (sym (split turn.last own)) ∙ append_assoc took left (flat behind))

    old_is : m.done ++ flat (before ++ own ∷ behind) ≡ m.done ++ (first ++ took ++ rest)
    old_is = ap (λ (l : List Stamped). m.done ++ l) (old_flat ∙ sym (append_assoc first took rest))

    new_is : (m.done ++ took) ++ flat (before ++ left ∷ behind) ≡ m.done ++ (took ++ first ++ rest)
    new_is = ap (λ (l : List Stamped). (m.done ++ took) ++ l) new_flat
        ∙ (append_assoc m.done took (first ++ rest) ∙ ap (λ (l : List Stamped). m.done ++ l) (sym (append_assoc took first rest)))

    first_late : All (Later turn.last) first
    first_late = later_flat turn.last before after rise_before

    above_all : All (From m.floor) (first ++ (took ++ rest))
    above_all = subst (All (From m.floor)) old_flat m.above

    above_took : All (From m.floor) took
    above_took = all_front (From m.floor) took rest (all_back (From m.floor) first (took ++ rest) above_all)

    below_last : m.floor ≤ turn.last
    below_last = of_first own (split turn.last own) begins
      where
        of_first : (xs : List Stamped) → took ++ left ≡ xs → Begins turn.stamp xs → m.floor ≤ turn.last
        of_first [] e b = absurd b
        of_first (s ∷ ss) e b =
            let same : s.stamp ≡ turn.stamp = b in
            let whole : All (From m.floor) (took ++ left) = all_front (From m.floor) (took ++ left) (flat behind)
            (subst (All (From m.floor)) (sym (append_assoc took left (flat behind))) (all_back (From m.floor) first (took ++ rest) above_all)) in
            let low : m.floor ≤ s.stamp = All-head (From m.floor) s ss (subst (All (From m.floor)) e whole) in
            omega arith

    stay_filtered : (t : ℕ) (xs : List Stamped) → filter (has_stamp t) (m.done ++ (xs ++ rest)) ≡ filter (has_stamp t) m.done ++ (filter (has_stamp t) xs ++ filter (has_stamp t) rest)
    stay_filtered t xs = filter-append (has_stamp t) m.done (xs ++ rest) ∙ ap (λ (l : List Stamped). filter (has_stamp t) m.done ++ l) (filter-append (has_stamp t) xs rest)

    stays : (t : ℕ) → filter (has_stamp t) ((m.done ++ took) ++ flat (before ++ left ∷ behind)) ≡ filter (has_stamp t) (flat lists)
    stays t = ap (filter (has_stamp t)) new_is ∙ (stay_filtered t (took ++ first)
        ∙ (ap (λ (l : List Stamped). filter (has_stamp t) m.done ++ (l ++ filter (has_stamp t) rest)) (swapped t turn.last took first (taken_low turn.last own) first_late)
        ∙ (sym (stay_filtered t (first ++ took)) ∙ (sym (ap (filter (has_stamp t)) old_is) ∙ m.stay t))))

    same_entries : IsPermutation (flat lists) ((m.done ++ took) ++ flat (before ++ left ∷ behind))
    same_entries = subst (IsPermutation (flat lists)) (sym new_is)
        (IsPermutation-trans (flat lists) (m.done ++ (first ++ took ++ rest)) (m.done ++ (took ++ first ++ rest))
        (subst (IsPermutation (flat lists)) old_is m.same)
        (IsPermutation-append_right m.done (first ++ took ++ rest) (took ++ first ++ rest)
        (IsPermutation-append_left rest (first ++ took) (took ++ first) (IsPermutation-append_comm first took))))

    took_ordered : AllPairs NotLater took
    took_ordered = pairs_front NotLater took left (subst (AllPairs NotLater) (sym (split turn.last own))
        (λ i j d low within. let r = own_rises i j d low within in omega arith))

    pub after_turn : IsMerging lists (before ++ left ∷ behind) (log ++ entries took)
    after_turn = record {
      done = m.done ++ took;
      floor = turn.last;
      log_is = ap (λ (l : List Entry). l ++ entries took) m.log_is ∙ sym (map-append (λ (s : Stamped). s.entry) m.done took);
      same = same_entries;
      stay = stays;
      ordered = pairs_append NotLater m.done took m.ordered took_ordered
          (All-weaker (UpTo m.floor) (λ (s : Stamped). All (NotLater s) took)
          (λ s low. All-weaker (From m.floor) (NotLater s) (λ (t : Stamped) high. omega arith) took above_took) m.done m.below);
      below = All-append (UpTo turn.last) m.done took
          (All-weaker (UpTo m.floor) (UpTo turn.last) (λ (s : Stamped) low. omega (arith, below_last)) m.done m.below) (taken_low turn.last own);
      above = subst (All (From turn.last)) (sym new_flat) (All-append (From turn.last) first rest
          (All-weaker (Later turn.last) (From turn.last) (λ (s : Stamped) h. omega arith) first first_late)
          (All-append (From turn.last) left (flat behind)
          (All-weaker (Later turn.last) (From turn.last) (λ (s : Stamped) h. omega arith) left (left_high turn.last own own_rises))
          (from_flat turn.last behind from (All-tail Rises own behind rise_behind))));
      rise = All-append Rises before (left ∷ behind) rise_before
          (All-cons Rises left behind (left_rises turn.last own own_rises) (All-tail Rises own behind rise_behind));
    }

module _ (rests : List (List Stamped)) (turn : Turn) (is : IsTurnOf rests turn) where
  own_is : slice_index_or rests turn.at [] ≡ is.own
  own_is = ap (λ (l : List (List Stamped)). get_or l turn.at []) is.is ∙ at_seam is.before is.own is.behind turn.at [] is.place

  abbrev behind_turn : List (List Stamped)
  behind_turn = slice_set rests turn.at (left_behind turn.last (slice_index_or rests turn.at []))

  rests_are : behind_turn ≡ is.before ++ left_behind turn.last is.own ∷ is.behind
  rests_are = ap (λ (l : List Stamped). slice_set rests turn.at (left_behind turn.last l)) own_is
      ∙ (ap (λ (l : List (List Stamped)). slice_set l turn.at (left_behind turn.last is.own)) is.is
      ∙ set_seam is.before is.own is.behind turn.at (left_behind turn.last is.own) is.place)

  pub next : (lists rests' : List (List Stamped)) (log log' : List Entry) → IsMerging lists rests log
      → log' ≡ log ++ entries (up_to turn.last (slice_index_or rests turn.at [])) → rests' ≡ behind_turn → IsMerging lists rests' log'
  next lists rests' log log' m log_is rests_is = subst (λ (l : List (List Stamped) × List Entry). IsMerging lists l.0 l.1)
      (λ i. (sym (rests_is ∙ rests_are) i, sym (log_is ∙ ap (λ (l : List Stamped). log ++ entries (up_to turn.last l)) own_is) i))
      (after_turn is.before is.behind is.own turn is.begins is.in_time lists log
      (subst (λ (l : List (List Stamped)). IsMerging lists l log) is.is m) is.after is.from)

  pub within : turn.at < length rests
  within = let long : length rests ≡ length is.before + length (is.own ∷ is.behind) = ap length is.is ∙ length-append is.before (is.own ∷ is.behind) in
      let place = is.place in omega arith

  pub smaller : (rests' : List (List Stamped)) → rests' ≡ behind_turn → length (flat rests') < length (flat rests)
  smaller rests' rests_is = subst (λ (l : List (List Stamped) × List (List Stamped)). length (flat l.0) < length (flat l.1))
      (λ i. (sym (rests_is ∙ rests_are) i, sym is.is i))
      (less_left is.before is.behind is.own turn is.begins is.in_time)

-- ---- the end

no_entries : (rests : List (List Stamped)) → All (λ (l : List Stamped). l ≡ []) rests → flat rests ≡ []
no_entries [] none = refl
no_entries (list ∷ lists) none = ap (λ (l : List Stamped). l ++ flat lists) (All-head (λ (l : List Stamped). l ≡ []) list lists none)
    ∙ no_entries lists (All-tail (λ (l : List Stamped). l ≡ []) list lists none)

pub all_merged : (lists rests : List (List Stamped)) (log : List Entry) → IsMerging lists rests log → IsTurn rests None → IsInOrderOf lists log
all_merged lists rests log m none =
    let whole : m.done ++ flat rests ≡ m.done = ap (λ (l : List Stamped). m.done ++ l) (no_entries rests none) ∙ append-nil m.done in
    record {
      order = m.done;
      sorted = record {
        same = subst (IsPermutation (flat lists)) whole m.same;
        rise = m.ordered;
        stay = λ t. sym (ap (filter (has_stamp t)) whole) ∙ m.stay t;
      };
      log_is = m.log_is;
    }
