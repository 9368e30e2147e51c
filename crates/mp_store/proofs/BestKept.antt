-- The best entry of a key once a cheaper one of it is kept.
use Rattle.std.proofs.Common.{◌≡◌, ℕ, ◌<◌, Bool, true, false, ◌&&◌, List, [], ◌∷◌, ◌++◌, length, map, get_or, Some, refl, sym, ap, subst, ◌∙◌, inl, inr, arith}
use Rattle.std.specs.Prelude.{◌⊎◌, Contains, nat_le, option_map}
use Rattle.std.proofs.lemmas.Bool.{and_from, cases_Bool, cases_order, false≢true, leb-false}
use Rattle.std.proofs.lemmas.List.{get_or_append_left, get_or_push, length-map, length_push}
use Rattle.std.proofs.lemmas.List.Folds.{list_any_at}
use Rattle.mp_list.specs.First.{IsFirst}
use Rattle.mp_store.specs.declared.entry.Entry.{Entry}
use Rattle.mp_store.specs.Minima.{Numbered, best, is_cheaper, those}
use Rattle.mp_store.specs.Record.{Record, gives_way, is_known, kept}
use Rattle.mp_store.proofs.Growing.{known_through}
use Rattle.mp_store.proofs.Marks.{giving_way_marks}
use Rattle.mp_store.proofs.RankLemmas.{IsThat, cheaper_less, cheaper_strict, first_of, those_have, those_hold}

module _ {K : Type 0} (same : K → K → Bool) (new : Entry K) (r : Record K) (itself : same new.key new.key ≡ true)
    (unknown : is_known same new.key new.g r.entries ≡ false) where
  abbrev has_key : Entry K → Bool
  has_key e = same e.key new.key

  -- the entries before it
  abbrev given : List (Entry K)
  given = map (gives_way same new.key) r.entries

  abbrev all : List (Entry K)
  all = given ++ new ∷ []

  abbrev last : ℕ
  last = length r.entries

  long : length given ≡ length r.entries
  long = length-map r.entries (gives_way same new.key)

  at_last : (d : Entry K) (n : ℕ) → n ≡ last → get_or all n d ≡ new
  at_last d n is = get_or_push given new d n (long ∙ sym is)

  none_as_cheap : is_known same new.key new.g given ≡ false
  none_as_cheap =
      sym (known_through same new.key new.g r.entries given (giving_way_marks same new.key r.entries)) ∙ unknown

  -- an entry of the key before it costs more
  costs_more : (x : Entry K) (n : ℕ) → n < length given → get_or given n x ≡ x → has_key x ≡ true → new.g < x.g
  costs_more x n inside is has =
      elim (cases_Bool (nat_le x.g new.g)) [
        | inl within ↦
            absurd (false≢true (sym none_as_cheap
            ∙ list_any_at (λ e. same e.key new.key && nat_le e.g new.g) given n x inside
            (ap (λ (e : Entry K). same e.key new.key && nat_le e.g new.g) is ∙ and_from (has_key x) (nat_le x.g new.g) has within)))
        | inr more ↦ leb-false x.g new.g more
      ]

  -- an entry of the key is the new one, or it costs more
  new_or_more : (x : Numbered K) → IsThat has_key all x → (◌≡◌ {A = Numbered K} x (last, new)) ⊎ (new.g < x.1.g)
  new_or_more x that =
      elim (cases_order x.0 last) [
        | inl is ↦ inl (λ j. (is j, (sym that.is ∙ at_last x.1 x.0 is) j))
        | inr (inl before) ↦
            let inside : x.0 < length given = let l = long in omega arith in
            inr (costs_more x.1 x.0 inside (sym (get_or_append_left given (new ∷ []) x.1 x.0 inside) ∙ that.is) that.passes)
        | inr (inr behind) ↦ absurd (let l = long in let p = length_push given new in let h = that.inside in omega arith)
      ]

  new_first : IsFirst is_cheaper (those has_key all) (last, new)
  new_first = record {
    among =
        let inside : last < length all = let l = long in let p = length_push given new in omega arith in
        subst (λ (e : Entry K). Contains (those has_key all) (last, e)) (at_last new last refl)
        (those_hold has_key all last new inside (ap has_key (at_last new last refl) ∙ itself));
    least = λ x found.
        elim (new_or_more x (those_have has_key all x found)) [
          | inl is ↦ ap (λ y. is_cheaper y (last, new)) is ∙ cheaper_strict.itself (last, new)
          | inr more ↦ cheaper_strict.turns (last, new) x (cheaper_less (last, new) x more)
        ];
  }

  pub best_kept : best same new.key (kept same new r) ≡ Some (length r.entries)
  best_kept =
      ap (option_map (λ x. x.0))
      (first_of is_cheaper cheaper_strict (those has_key all) (last, new) new_first
      (λ x found h j.
      elim (new_or_more x (those_have has_key all x found)) [
        | inl is ↦ is
        | inr more ↦ absurd (false≢true (sym j ∙ cheaper_less (last, new) x more))
      ]))
