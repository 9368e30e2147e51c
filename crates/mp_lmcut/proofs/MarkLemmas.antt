-- Marks that grow, and a search by marks.
use Rattle.std.proofs.Common.{◌≡◌, ◌⊎◌, inl, inr, ℕ, zero, suc, ◌<◌, Bool, true, false, cond, List, [], ◌∷◌, ◌++◌, length, All, Contains, refl, sym, ap, ◌∙◌, subst, ⊎_elim, get_or-set_same, get_or-set_other, arith}
use Rattle.std.proofs.Math.ListN.{set as set_at}
use Rattle.std.proofs.lemmas.Bool.{cases_Bool, cases_eq, cases_lt, false≢true, true≢false}
use Rattle.std.proofs.lemmas.List.{length-append, length-set, get_or_past}
use Rattle.std.proofs.lemmas.List.Elements.{Contains-append_left, Contains-push, Contains-push_cases}
use Rattle.mp_lmcut.specs.Marks.{MarkLists}
use Rattle.mp_lmcut.specs.Marked.{HasGrown, IsReaching, is_marked, unmarked, weight}

pub marked_below : (flags : List Bool) (x : ℕ) → is_marked flags x ≡ true → x < length flags
marked_below flags x h = ⊎_elim
    (λ lt. lt)
    (λ le. absurd (false≢true (sym (get_or_past flags x false le) ∙ h)))
    (cases_lt x (length flags))

pub none_marked : (flags : List Bool) → All (λ b. b ≡ false) flags → (x : ℕ) → is_marked flags x ≡ false
none_marked flags none x = ⊎_elim
    (λ lt. none x false lt)
    (λ le. get_or_past flags x false le)
    (cases_lt x (length flags))

one_less : (m : Bool) (a b : ℕ) → suc a ≡ b → suc (cond m a (suc a)) ≡ cond m b (suc b)
one_less true a b e = e
one_less false a b e = ap suc e

unmarked_set : (flags : List Bool) (n : ℕ) → n < length flags → is_marked flags n ≡ false → suc (unmarked (set_at flags n true)) ≡ unmarked flags
unfolding unmarked
unmarked_set [] n lt h = absurd (omega (arith, lt))
unmarked_set (true ∷ ms) zero lt h = absurd (true≢false h)
unmarked_set (false ∷ ms) zero lt h = refl
unmarked_set (m ∷ ms) (suc n) lt h = one_less m (unmarked (set_at ms n true)) (unmarked ms) (unmarked_set ms n (omega (arith, lt)) h)

-- marks that grow

pub grown_refl : (Such : ℕ → Type 0) (m : MarkLists) → HasGrown Such m m
grown_refl Such m = record {
  sized = refl;
  kept = λ x h. h;
  still = λ x h. h;
  only = λ x h. inl h;
  known = λ all. all;
  lighter = omega arith;
}

pub grown_trans : (Such : ℕ → Type 0) (a b c : MarkLists) → HasGrown Such a b → HasGrown Such b c → HasGrown Such a c
grown_trans Such a b c one two = record {
  sized = two.sized ∙ one.sized;
  kept = λ x h. two.kept x (one.kept x h);
  still = λ x h. two.still x (one.still x h);
  only = λ x h. ⊎_elim
      (λ before. ⊎_elim
      (λ first. inl first)
      (λ new. inr (new.0, two.still x new.1))
      (one.only x before))
      (λ new. inr new)
      (two.only x h);
  known = λ all. two.known (one.known all);
  lighter = let first = one.lighter in let second = two.lighter in omega arith;
}

pub grown_weaker : (Such Other : ℕ → Type 0) (a b : MarkLists) → ((x : ℕ) → Such x → Other x) → HasGrown Such a b → HasGrown Other a b
grown_weaker Such Other a b f grown = record {
  sized = grown.sized;
  kept = grown.kept;
  still = grown.still;
  only = λ x h. ⊎_elim (λ before. inl before) (λ new. inr (f x new.0, new.1)) (grown.only x h);
  known = grown.known;
  lighter = grown.lighter;
}

module _ (m : MarkLists) (n : ℕ) (within : n < length m.flags) where
  abbrev new : MarkLists
  new = record { flags = set_at m.flags n true; todo = m.todo ++ n ∷ [] }

  new_kept : (x : ℕ) → is_marked m.flags x ≡ true → is_marked (set_at m.flags n true) x ≡ true
  new_kept x h = ⊎_elim
      (λ e. subst (λ y. is_marked (set_at m.flags n true) y ≡ true) (sym e) (get_or-set_same m.flags n true false within))
      (λ ne. get_or-set_other m.flags n x true false ne ∙ h)
      (cases_eq x n)

  new_only : (x : ℕ) → is_marked (set_at m.flags n true) x ≡ true → (is_marked m.flags x ≡ true) ⊎ ((x ≡ n) × Contains (m.todo ++ n ∷ []) x)
  new_only x h = ⊎_elim
      (λ e. inr (e, subst (Contains (m.todo ++ n ∷ [])) (sym e) (Contains-push m.todo n)))
      (λ ne. inl (sym (get_or-set_other m.flags n x true false ne) ∙ h))
      (cases_eq x n)

  new_grown : is_marked m.flags n ≡ false → HasGrown (λ x. x ≡ n) m new
  new_grown free = record {
    sized = length-set m.flags n true;
    kept = new_kept;
    still = λ x h. Contains-append_left m.todo (n ∷ []) x h;
    only = new_only;
    known = λ all x h. ⊎_elim
        (λ before. new_kept x (all x before))
        (λ e. subst (λ y. is_marked (set_at m.flags n true) y ≡ true) e (get_or-set_same m.flags n true false within))
        (Contains-push_cases m.todo n x h);
    lighter =
        let fewer = unmarked_set m.flags n within free in
        let longer = length-append m.todo (n ∷ []) in
        omega arith;
  }

  module _ (after : MarkLists) (known : is_marked m.flags n ≡ true → after ≡ m) (unknown : is_marked m.flags n ≡ false → after ≡ new) where
    pub mark_grows : HasGrown (λ x. x ≡ n) m after
    mark_grows = ⊎_elim
        (λ e. subst (HasGrown (λ x. x ≡ n) m) (sym (known e)) (grown_refl (λ x. x ≡ n) m))
        (λ e. subst (HasGrown (λ x. x ≡ n) m) (sym (unknown e)) (new_grown e))
        (cases_Bool (is_marked m.flags n))

    pub mark_here : is_marked after.flags n ≡ true
    mark_here = ⊎_elim
        (λ e. ap (λ (l : MarkLists). is_marked l.flags n) (known e) ∙ e)
        (λ e. ap (λ (l : MarkLists). is_marked l.flags n) (unknown e) ∙ get_or-set_same m.flags n true false within)
        (cases_Bool (is_marked m.flags n))

-- a search

pub reaching_wider : (Such : ℕ → Type 0) (Follows Other : ℕ → List Bool → Type 0) → ((x : ℕ) (flags : List Bool) → Follows x flags → Other x flags) → (m : MarkLists) → IsReaching Such Follows m → IsReaching Such Other m
reaching_wider Such Follows Other f m s = record {
  sound = s.sound;
  known = s.known;
  followed = λ x h. ⊎_elim (λ done. inl (f x m.flags done)) (λ waits. inr waits) (s.followed x h);
}

module _ (Such : ℕ → Type 0) (Follows : ℕ → List Bool → Type 0) (more : (x : ℕ) (a b : List Bool) → ((y : ℕ) → is_marked a y ≡ true → is_marked b y ≡ true) → Follows x a → Follows x b) where
  -- it begins without marks
  pub reaching_none : (m : MarkLists) → All (λ b. b ≡ false) m.flags → m.todo ≡ [] → IsReaching Such Follows m
  reaching_none m none empty = record {
    sound = λ x h. absurd (false≢true (sym (none_marked m.flags none x) ∙ h));
    known = λ x h. absurd (let e = ap length empty in omega (arith, h.1));
    followed = λ x h. absurd (false≢true (sym (none_marked m.flags none x) ∙ h));
  }

  pub reaching_grown : (before after : MarkLists) → HasGrown Such before after → IsReaching Such Follows before → IsReaching Such Follows after
  reaching_grown before after grown s = record {
    sound = λ x h. ⊎_elim (λ old. s.sound x old) (λ new. new.0) (grown.only x h);
    known = grown.known s.known;
    followed = λ x h. ⊎_elim
        (λ old. ⊎_elim
        (λ done. inl (more x before.flags after.flags grown.kept done))
        (λ waits. inr (grown.still x waits))
        (s.followed x old))
        (λ new. inr new.1)
        (grown.only x h);
  }

  -- a fact that was to do is done
  module _ (before rest after : MarkLists) (x : ℕ) (same : rest.flags ≡ before.flags) (popped : before.todo ≡ rest.todo ++ x ∷ []) (s : IsReaching Such Follows before) where
    pub popped_marked : is_marked before.flags x ≡ true
    popped_marked = s.known x (subst (λ l. Contains l x) (sym popped) (Contains-push rest.todo x))

    rest_known : (y : ℕ) → Contains rest.todo y → is_marked rest.flags y ≡ true
    rest_known y h =
        subst (λ l. is_marked l y ≡ true) (sym same) (s.known y (subst (λ l. Contains l y) (sym popped) (Contains-append_left rest.todo (x ∷ []) y h)))

    pub reaching_step : HasGrown Such rest after → Follows x after.flags → IsReaching Such Follows after
    reaching_step grown done = record {
      sound = λ y h. ⊎_elim (λ old. s.sound y (subst (λ l. is_marked l y ≡ true) same old)) (λ new. new.0) (grown.only y h);
      known = grown.known rest_known;
      followed = λ y h. ⊎_elim
          (λ old. ⊎_elim
          (λ was. inl (more y before.flags after.flags (λ z k. grown.kept z (subst (λ l. is_marked l z ≡ true) (sym same) k)) was))
          (λ waits. ⊎_elim
          (λ later. inr (grown.still y later))
          (λ e. inl (subst (λ z. Follows z after.flags) e done))
          (Contains-push_cases rest.todo x y (subst (λ l. Contains l y) popped waits)))
          (s.followed y (subst (λ l. is_marked l y ≡ true) same old)))
          (λ new. inr new.1)
          (grown.only y h);
    }

    pub weight_falls : HasGrown Such rest after → weight after < weight before
    weight_falls grown =
        let le = grown.lighter in
        let longer : length before.todo ≡ length (rest.todo ++ x ∷ []) = ap length popped in
        let sum = length-append rest.todo (x ∷ []) in
        let unset = ap unmarked same in
        omega arith

  -- where nothing is to do, what is marked leads to what is marked
  pub reached_all : (m : MarkLists) → m.todo ≡ [] → IsReaching Such Follows m → (x : ℕ) → is_marked m.flags x ≡ true → Such x × Follows x m.flags
  reached_all m empty s x h = (
    s.sound x h,
    ⊎_elim
        (λ done. done)
        (λ waits. absurd (let e = ap length empty in omega (arith, waits.1)))
        (s.followed x h),
  )
