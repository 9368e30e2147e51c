-- Numbers of operators in the lists of their preconditions.
use Rattle.std.proofs.Common.{◌≡◌, ◌≢◌, ℕ, ◌+◌, ◌<◌, ◌≤◌, true, false, eqb, List, [], ◌∷◌, ◌++◌, length, get_or, take, All, Contains, refl, sym, ap, ◌∙◌, subst, ⊎_elim, get_or-set_same, get_or-set_other, arith}
use Rattle.std.proofs.Math.ListN.{set as set_at}
use Rattle.std.proofs.lemmas.Bool.{cases_eq, eqb-true, eqb-false}
use Rattle.std.proofs.lemmas.List.{take_more, length-set, get_or_default}
use Rattle.std.proofs.lemmas.List.Elements.{All-nil, All-set, All-push, All-get_or, Contains-append_left, Contains-append_right}
use Rattle.mp_relaxed.specs.Users.{AreFree, AreUsers, Takes, times}
use Rattle.mp_relaxed.proofs.TimesLemmas.{times-append, times_same, times_other}

module _ (old new : List (List ℕ)) (places : List ℕ) (n i x : ℕ) (so_far : Takes old (take i places) n new) (within : i < length places) (is : x ≡ get_or places i 0) (inside : x < length new) where
  grown : List ℕ
  grown = get_or new x [] ++ n ∷ []

  now : List (List ℕ)
  now = set_at new x grown

  changed : get_or now x [] ≡ grown
  unfolding now grown
  changed = get_or-set_same new x (get_or new x [] ++ n ∷ []) [] inside

  unchanged : (y : ℕ) → y ≢ x → get_or now y [] ≡ get_or new y []
  unfolding now grown
  unchanged y ne = get_or-set_other new x y (get_or new x [] ++ n ∷ []) [] ne

  more_at : (k : ℕ) → times k (get_or now x []) ≡ times k (get_or new x []) + times k (n ∷ [])
  unfolding now grown
  more_at k = ap (times k) changed ∙ times-append k (get_or new x []) (n ∷ [])

  still : (y k : ℕ) → k ≢ n → times k (get_or now y []) ≡ times k (get_or new y [])
  unfolding now grown
  still y k other = ⊎_elim
      (λ e. subst (λ z. times k (get_or now z []) ≡ times k (get_or new z [])) (sym e) (let more = more_at k in let never = times_other k n other in omega arith))
      (λ ne. ap (times k) (unchanged y ne))
      (cases_eq y x)

  place : (y : ℕ) → times y (take (i + 1) places) ≡ times y (take i places) + times y (x ∷ [])
  place y =
      ap (times y) (take_more places i 0 within ∙ (λ j. take i places ++ sym is j ∷ []))
      ∙ times-append y (take i places) (x ∷ [])

  taken_at : (y : ℕ) → times n (get_or now y []) ≡ times n (get_or old y []) + times y (take (i + 1) places)
  taken_at y = ⊎_elim
      (λ e.
      let before = so_far.taken y in
      let here = place y in
      let once : times y (x ∷ []) ≡ 1 = subst (λ z. times z (x ∷ []) ≡ 1) (sym e) (times_same x) in
      let new_one = times_same n in
      let grows : times n (get_or now y []) ≡ times n (get_or new y []) + times n (n ∷ []) = subst (λ z. times n (get_or now z []) ≡ times n (get_or new z []) + times n (n ∷ [])) (sym e) (more_at n) in
      omega arith)
      (λ ne.
      let before = so_far.taken y in
      let here = place y in
      let never = times_other y x ne in
      let same = ap (times n) (unchanged y ne) in
      omega arith)
      (cases_eq y x)

  pub takes_more : Takes old (take (i + 1) places) n (set_at new x (get_or new x [] ++ n ∷ []))
  unfolding now grown
  takes_more = record {
    as_many = length-set new x (get_or new x [] ++ n ∷ []) ∙ so_far.as_many;
    kept = λ y k ne. still y k ne ∙ so_far.kept y k ne;
    taken = taken_at;
    bounded = λ m lt all. All-set (All (λ k. k < m)) new x (get_or new x [] ++ n ∷ [])
        (All-push (λ k. k < m) (get_or new x []) n (All-get_or (All (λ k. k < m)) new x [] inside (so_far.bounded m lt all)) lt)
        (so_far.bounded m lt all);
  }

  -- the same for the list that was found there and what it has become
  pub takes_step : (list more : List ℕ) → list ≡ get_or new x list → more ≡ list ++ n ∷ [] → Takes old (take (i + 1) places) n (set_at new x more)
  takes_step list more at e =
      let found : get_or new x [] ≡ list = get_or_default new x [] list inside ∙ sym at in
      subst (λ l. Takes old (take (i + 1) places) n (set_at new x l)) ((λ j. found j ++ n ∷ []) ∙ sym e) takes_more

-- lists that have the first n rows by their numbers
pub record Noted (size : ℕ) (rows : List (List ℕ)) (n : ℕ) (lists : List (List ℕ)) : Type 0 where
  pub sized : length lists ≡ size
  pub rows_alone : All (All (λ k. k < length rows)) lists
  pub all : (k x : ℕ) → k < n → times x (get_or rows k []) ≡ times k (get_or lists x [])
  pub later : (k x : ℕ) → n ≤ k → times k (get_or lists x []) ≡ 0

pub noted_more : (size : ℕ) (rows lists new : List (List ℕ)) (n : ℕ) → Noted size rows n lists → n < length rows → Takes lists (get_or rows n []) n new → Noted size rows (n + 1) new
noted_more size rows lists new n noted within takes = record {
  sized = takes.as_many ∙ noted.sized;
  rows_alone = takes.bounded (length rows) within noted.rows_alone;
  all = λ k x lt. ⊎_elim
      (λ e. subst (λ j. times x (get_or rows j []) ≡ times j (get_or new x [])) (sym e) (let here = takes.taken x in let none = noted.later n x (omega arith) in omega arith))
      (λ ne. noted.all k x (omega arith) ∙ sym (takes.kept x k ne))
      (cases_eq k n);
  later = λ k x le. takes.kept x k (λ e. absurd (omega arith)) ∙ noted.later k x (omega arith);
}

pub noted_all : (size : ℕ) (rows lists : List (List ℕ)) (n : ℕ) → n ≡ length rows → Noted size rows n lists → AreUsers size rows lists
noted_all size rows lists n e noted = record {
  sized = noted.sized;
  rows_alone = noted.rows_alone;
  all = λ k x lt. noted.all k x (omega arith);
}

-- the numbers of the empty ones of the first n rows
pub record FreeSoFar (rows : List (List ℕ)) (n : ℕ) (free : List ℕ) : Type 0 where
  pub rows_alone : All (λ k. k < length rows) free
  pub empty_alone : All (λ k. get_or rows k [] ≡ []) free
  pub all : (k : ℕ) → k < n → get_or rows k [] ≡ [] → Contains free k

pub free_none : (rows : List (List ℕ)) (free : List ℕ) → free ≡ [] → FreeSoFar rows 0 free
free_none rows free e = record {
  rows_alone = subst (All (λ k. k < length rows)) (sym e) (All-nil (λ k. k < length rows));
  empty_alone = subst (All (λ k. get_or rows k [] ≡ [])) (sym e) (All-nil (λ k. get_or rows k [] ≡ []));
  all = λ k lt is. absurd (omega arith);
}

nil_of : (xs : List ℕ) → length xs ≡ 0 → xs ≡ []
nil_of [] e = refl
nil_of (x ∷ xs) e = absurd (omega arith)

pub free_more : (rows : List (List ℕ)) (n : ℕ) (row free new : List ℕ) → n < length rows → row ≡ get_or rows n [] → eqb (length row) 0 ≡ true → new ≡ free ++ n ∷ [] → FreeSoFar rows n free → FreeSoFar rows (n + 1) new
free_more rows n row free new within at none e so_far = record {
  rows_alone = subst (All (λ k. k < length rows)) (sym e) (All-push (λ k. k < length rows) free n so_far.rows_alone within);
  empty_alone = subst (All (λ k. get_or rows k [] ≡ [])) (sym e) (All-push (λ k. get_or rows k [] ≡ []) free n so_far.empty_alone (sym at ∙ nil_of row (eqb-true (length row) 0 none)));
  all = λ k lt is. subst (λ l. Contains l k) (sym e) (⊎_elim
      (λ same. Contains-append_right free (n ∷ []) k (0, (let h : 0 < 1 = omega arith in h), sym same))
      (λ ne. Contains-append_left free (n ∷ []) k (so_far.all k (omega arith) is))
      (cases_eq k n));
}

pub free_same : (rows : List (List ℕ)) (n : ℕ) (row free new : List ℕ) → row ≡ get_or rows n [] → eqb (length row) 0 ≡ false → new ≡ free → FreeSoFar rows n free → FreeSoFar rows (n + 1) new
free_same rows n row free new at some e so_far = record {
  rows_alone = subst (All (λ k. k < length rows)) (sym e) so_far.rows_alone;
  empty_alone = subst (All (λ k. get_or rows k [] ≡ [])) (sym e) so_far.empty_alone;
  all = λ k lt is. subst (λ l. Contains l k) (sym e) (⊎_elim
      (λ same. absurd (eqb-false (length row) 0 some (ap length (at ∙ sym (ap (λ j. get_or rows j []) same) ∙ is))))
      (λ ne. so_far.all k (omega arith) is)
      (cases_eq k n));
}

pub free_all : (rows : List (List ℕ)) (n : ℕ) (free : List ℕ) → length rows ≤ n → FreeSoFar rows n free → AreFree rows free
free_all rows n free le so_far = record {
  rows_alone = so_far.rows_alone;
  empty_alone = so_far.empty_alone;
  all = λ k lt is. so_far.all k (omega arith) is;
}
