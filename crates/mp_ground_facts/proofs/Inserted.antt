-- The items of a list to which items are added unless they are there.
use Rattle.mp_ground_facts.proofs.Basics.{◌≡◌, Bool, true, false, cond, ◌||◌, List, [], ◌∷◌, ◌++◌, refl, sym, ap, ◌∙◌, Decides, list_any, false≢true, insert_all}
use Rattle.std.proofs.lemmas.List.Folds.{list_any-append}
use Rattle.indexmap.specs.IndexSet.{insert_key}
use Rattle.mp_list.proofs.Bools.{or_all, or_false}

known : (a b : Bool) → (b ≡ true → a ≡ true) → a ≡ (a || b)
known true b h = refl
known false true h = absurd (false≢true (h refl))
known false false h = refl

module _ {X : Type 0} (E : X → X → Bool) (decides : (a b : X) → Decides (E a b) (a ≡ b)) where
  any_insert_key : (ks : List X) (k q : X) → list_any (E q) (insert_key E ks k) ≡ (list_any (E q) ks || E q k)
  any_insert_key ks k q = by (list_any (E k) ks) refl
    where
      by : (b : Bool) → list_any (E k) ks ≡ b → list_any (E q) (cond b ks (ks ++ k ∷ [])) ≡ (list_any (E q) ks || E q k)
      by true there = known (list_any (E q) ks) (E q k) (λ e. ap (λ (x : X). list_any (E x) ks) ((decides q k).0 e) ∙ there)
      by false new = list_any-append (E q) ks (k ∷ []) ∙ ap (λ b. list_any (E q) ks || b) (or_false (E q k))

  -- an item is there after all of some are added where it was there or is one of them
  pub any_insert_all : (ks xs : List X) (q : X) → list_any (E q) (insert_all E ks xs) ≡ (list_any (E q) ks || list_any (E q) xs)
  any_insert_all ks [] q = sym (or_false (list_any (E q) ks))
  any_insert_all ks (x ∷ xs) q =
      any_insert_all (insert_key E ks x) xs q
      ∙ ap (λ b. b || list_any (E q) xs) (any_insert_key ks x q)
      ∙ or_all (list_any (E q) ks) (E q x) (list_any (E q) xs)
