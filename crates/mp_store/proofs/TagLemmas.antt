-- Lists of tags at their places.
use Rattle.std.proofs.Common.{◌≡◌, ℕ, suc, ◌<◌, Bool, true, false, ◌&&◌, ◌||◌, cond, eqb, List, [], ◌∷◌, ◌++◌, length, get_or, position, Option, Some, None, refl, sym, ap, ◌∙◌, arith}
use Rattle.std.specs.Prelude.{IfNone, IfSome, is_some, slice_get}
use Rattle.std.proofs.lemmas.Option.{get_or_from_slice_get, slice_get_within}
use Rattle.std.specs.Bool.{Decides}
use Rattle.std.specs.List.{list_any}
use Rattle.std.specs.Cmp.Lexicographic.{pointwise}
use Rattle.std.proofs.Math.Bool.{beq}
use Rattle.std.proofs.Math.Seq.{get_or-append_seam}
use Rattle.std.proofs.lemmas.Bool.{false≢true, false_from_ne_true}
use Rattle.std.proofs.lemmas.List.Quantifiers.{position-Some}
use Rattle.indexmap.specs.IndexSet.{insert_key}
use Rattle.mp_sets.specs.declared.tag.Tag.{Tag}
use Rattle.mp_store.specs.KeyLaws.{Decides-list, Decides-tag}
use Rattle.mp_store.specs.KeyRows.{tags_at}
use Rattle.mp_store.proofs.Sound.{none_at}

-- as `==` answers
abbrev pub same_tags : List Tag → List Tag → Bool
same_tags = pointwise (λ s t. eqb s.token t.token && beq s.met t.met)

Decides-tags : (a b : List Tag) → Decides (same_tags a b) (a ≡ b)
Decides-tags a b = Decides-list Decides-tag a b

pub found_tags : (tags : List (List Tag)) (sought : List Tag) (r : Option ℕ) → r ≡ position (same_tags sought) tags → IfSome r (λ n. (n < length tags) × (tags_at tags n ≡ sought))
found_tags tags sought None is = tt
found_tags tags sought (Some n) is =
    let at = position-Some (same_tags sought) tags n [] (sym is) in
    (at.0, sym ((Decides-tags sought (tags_at tags n)).0 at.1))

-- tags that are the same as those at a place
pub tags_there : (tags : List (List Tag)) (sought there : List Tag) (n : ℕ) → slice_get tags n ≡ Some there → sought ≡ there
    → (n < length tags) × (tags_at tags n ≡ sought)
tags_there tags sought there n at same =
    (slice_get_within tags n there at, get_or_from_slice_get tags n there [] at ∙ sym same)

pub none_tags : (tags : List (List Tag)) (sought : List Tag) (r : Option ℕ) → is_some r ≡ list_any (same_tags sought) tags → IfNone r ((n : ℕ) → n < length tags → tags_at tags n ≡ sought → ⊥)
none_tags tags sought None is = λ n inside same.
    let missing : same_tags sought (tags_at tags n) ≡ false = none_at (same_tags sought) tags n [] (sym is) inside in
    let there : same_tags sought (tags_at tags n) ≡ true = (Decides-tags sought (tags_at tags n)).1 (sym same) in
    absurd (false≢true (sym missing ∙ there))
none_tags tags sought (Some n) is = tt

none_any : {X : Type 0} (p : X → Bool) (xs : List X) (d : X) → ((n : ℕ) → n < length xs → p (get_or xs n d) ≡ false) → list_any p xs ≡ false
none_any p [] d none = refl
none_any p (x ∷ xs) d none = λ j. none 0 (omega arith) j || none_any p xs d (λ n h. none (suc n) (omega arith)) j

-- tags that are not there come to the end
pub added_tags : (tags : List (List Tag)) (new : List Tag) → ((n : ℕ) → n < length tags → tags_at tags n ≡ new → ⊥) → insert_key same_tags tags new ≡ tags ++ new ∷ []
added_tags tags new none =
    ap (λ (b : Bool). cond b tags (tags ++ new ∷ []))
    (none_any (same_tags new) tags [] (λ n inside. false_from_ne_true (same_tags new (tags_at tags n)) (λ e. none n inside (sym ((Decides-tags new (tags_at tags n)).0 e)))))

pub last_tags : (tags : List (List Tag)) (new : List Tag) → tags_at (tags ++ new ∷ []) (length tags) ≡ new
last_tags tags new = get_or-append_seam tags new [] []
