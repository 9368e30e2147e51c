-- The public parts of actions, by the texts of their facts and by the numbers of these.
use Rattle.std.proofs.Common.{arith, ne_eqb, ◌≡◌, ◌≤◌, ◌<◌, ◌^◌, ℕ, ◌+◌, ◌==◌, Bool, true, false, not, ◌&&◌, List, [], ◌∷◌, filter, length, get_or, All, slice_get, refl, sym, ap, ◌∙◌, subst}
use Rattle.std.proofs.lemmas.Cmp.{nat_list_cmp_total}
use Rattle.std.proofs.lemmas.List.Elements.{Contains-get_or}
use Rattle.std.proofs.lemmas.List.Kept.{IsStrictlySortedBy-filter}
use Rattle.std.proofs.lemmas.Option.{same_Some}
use Rattle.std.specs.Cmp.Lexicographic.{slice_cmp}
use Rattle.std.specs.List.{list_any}
use Rattle.std.specs.List.Sorted.{IsStrictlySortedBy}
use Rattle.std.specs.Ordering.{nat_cmp}
use Rattle.std.specs.Prelude.{Contains}
use Rattle.mp_list.proofs.Members.{contains_head, no_member}
use Rattle.mp_typing.proofs.Passing.{taken_passes}
use Rattle.mp_task.proofs.Agreeing.{Contains-slice_get}
use Rattle.std.proofs.lemmas.Bool.{and_from, and_parts}
use Rattle.mp_task.specs.declared.act.Act.{Act}
use Rattle.mp_task.specs.declared.act.Far.{Far}
use Rattle.mp_task.specs.Public as task
use Rattle.mp_joint.specs.Fact.{Text, is_listed}
use Rattle.mp_views.specs.declared.view.Part.{Part}
use Rattle.mp_views.specs.Lines.{part_line}
use Rattle.mp_stands.proofs.MemberLists.{has_place}
use Rattle.mp_grounder.specs.Places.{text_places_in}
use Rattle.mp_split.specs.Closed.{texts_at, is_number_in, part_of}
use Rattle.mp_split.specs.TaskOf.{Shown, table, numbers, numbered_act, far_part}
use Rattle.mp_stands.proofs.Lines.{IsWhole, line_tells}
use Rattle.mp_stands.proofs.JoinedLists.{listed_some, member_listed, listed_member}
use Rattle.mp_stands.proofs.Ordered.{same_rising}
use Rattle.mp_stands.proofs.Places.{from_places, to_places, items_at_places, place_listed, kept_places}

-- the public numbers of an action are the places of these texts in its agent's own list
pub record IsNamedAct (own : List Text) (a : Act) : Type 0 where
  pub pre : List Text
  pub add : List Text
  pub del : List Text
  pub pre_is : a.pre_pub ≡ text_places_in own pre
  pub add_is : a.add_pub ≡ text_places_in own add
  pub del_is : a.del_pub ≡ text_places_in own del

abbrev is_only_in : List Text → List Text → Text → Bool
is_only_in del add text = is_listed text del && not (is_listed text add)

texts_again : (own texts : List Text) → texts_at own (text_places_in own texts) ≡ filter (λ t. is_listed t texts) own
texts_again own texts = items_at_places (λ t. is_listed t texts) own []

abbrev other_places : List Text → List Text → List Text → List ℕ
other_places own add del = filter (λ n. not (is_number_in (text_places_in own add) n)) (text_places_in own del)

other_texts : (own add del : List Text) → texts_at own (other_places own add del) ≡ filter (is_only_in del add) own
other_texts own add del =
    ap (texts_at own)
    (kept_places 0 (λ t. is_listed t del) (is_only_in del add) (λ n. not (is_number_in (text_places_in own add) n)) own
    (λ i x at. ap (λ b. is_listed x del && not b) (sym (place_listed (λ t. is_listed t add) own i x at))))
    ∙ items_at_places (is_only_in del add) own []

-- ---- the part of an action, in the agent's own list

module _ (own : List Text) (a : Act) (named : IsNamedAct own a) where
  pre_texts : texts_at own a.pre_pub ≡ filter (λ t. is_listed t named.pre) own
  pre_texts = ap (texts_at own) named.pre_is ∙ texts_again own named.pre

  add_texts : texts_at own a.add_pub ≡ filter (λ t. is_listed t named.add) own
  add_texts = ap (texts_at own) named.add_is ∙ texts_again own named.add

  del_texts : texts_at own a.del_pub ≡ filter (λ t. is_listed t named.del) own
  del_texts = ap (texts_at own) named.del_is ∙ texts_again own named.del

  left_texts : texts_at own (filter (λ n. not (is_number_in a.add_pub n)) a.del_pub) ≡ filter (is_only_in named.del named.add) own
  left_texts =
      (λ i. texts_at own (filter (λ n. not (is_number_in (named.add_is i) n)) (named.del_is i))) ∙ other_texts own named.add named.del

  -- ---- by the team's numbers

  by_tests : (d s o : Bool) → ((d && not s) && o) ≡ ((d && o) && not (s && o))
  by_tests true true true = refl
  by_tests true true false = refl
  by_tests true false true = refl
  by_tests true false false = refl
  by_tests false s o = refl

  left_numbers : (shown : Shown)
      → filter (λ n. not (list_any (λ m. m == n) (numbers shown (texts_at own a.add_pub)))) (numbers shown (texts_at own a.del_pub))
      ≡ numbers shown (part_of own a).del
  left_numbers shown =
      kept_places 0 (λ t. is_listed t (texts_at own a.del_pub)) (λ t. is_listed t (part_of own a).del)
      (λ n. not (list_any (λ m. m == n) (numbers shown (texts_at own a.add_pub)))) (table shown)
      (λ i x at.
      ap (is_listed x) left_texts
      ∙ listed_some (is_only_in named.del named.add) x own
      ∙ by_tests (is_listed x named.del) (is_listed x named.add) (is_listed x own)
      ∙ sym (λ j. (ap (is_listed x) del_texts ∙ listed_some (λ t. is_listed t named.del) x own) j
      && not ((place_listed (λ t. is_listed t (texts_at own a.add_pub)) (table shown) i x at
      ∙ ap (is_listed x) add_texts ∙ listed_some (λ t. is_listed t named.add) x own) j)))

  pub same_far : (shown : Shown) (agent : ℕ) → far_part shown agent (part_of own a) ≡ task.part_of agent (numbered_act shown own a)
  same_far shown agent = λ i. record {
    by = agent;
    pre = numbers shown (texts_at own a.pre_pub);
    add = numbers shown (texts_at own a.add_pub);
    del = sym (left_numbers shown) i;
    cost = a.cost;
  }

-- ---- an action is public by the one numbers where it is by the others

same_empty : (xs ys : List ℕ) → ((n : ℕ) → Contains xs n → (m : ℕ) × Contains ys m) → ((m : ℕ) → Contains ys m → (n : ℕ) × Contains xs n)
    → (length xs == 0) ≡ (length ys == 0)
same_empty [] [] there back = refl
same_empty [] (y ∷ ys) there back = absurd (let found = back y (contains_head y ys) in no_member found.0 found.1)
same_empty (x ∷ xs) [] there back = absurd (let found = there x (contains_head x xs) in no_member found.0 found.1)
same_empty (x ∷ xs) (y ∷ ys) there back =
    ne_eqb (length (x ∷ xs)) 0 (λ e. omega (arith, e)) ∙ sym (ne_eqb (length (y ∷ ys)) 0 (λ e. omega (arith, e)))

abbrev AreIn : List Text → List Text → Type 0
AreIn own all = (t : Text) → Contains own t → Contains all t

module _ (shown : Shown) (own : List Text) (within : AreIn own (table shown)) where
  abbrev team_places : List Text → List ℕ
  team_places texts = numbers shown (texts_at own (text_places_in own texts))

  listed_both : (texts : List Text) (t : Text) → is_listed t (texts_at own (text_places_in own texts)) ≡ (is_listed t texts && is_listed t own)
  listed_both texts t = ap (is_listed t) (texts_again own texts) ∙ listed_some (λ s. is_listed s texts) t own

  to_team : (texts : List Text) (n : ℕ) → Contains (text_places_in own texts) n → (m : ℕ) × Contains (team_places texts) m
  to_team texts n found =
      let p = from_places 0 (λ t. is_listed t texts) own n found in
      let mine = Contains-slice_get own p.index p.item p.at in
      let place = has_place (table shown) p.item (within p.item mine) in (
        0 + place.0,
        to_places 0 (λ t. is_listed t (texts_at own (text_places_in own texts))) (table shown) place.0 p.item place.1
            (listed_both texts p.item ∙ and_from (is_listed p.item texts) (is_listed p.item own) p.passes (member_listed p.item own mine)),
      )

  from_team : (texts : List Text) (m : ℕ) → Contains (team_places texts) m → (n : ℕ) × Contains (text_places_in own texts) n
  from_team texts m found =
      let p = from_places 0 (λ t. is_listed t (texts_at own (text_places_in own texts))) (table shown) m found in
      let parts = and_parts (is_listed p.item texts) (is_listed p.item own) (sym (listed_both texts p.item) ∙ p.passes) in
      let place = has_place own p.item (listed_member p.item own parts.1) in
      (0 + place.0, to_places 0 (λ t. is_listed t texts) own place.0 p.item place.1 parts.0)

  empty_alike : (texts : List Text) (places : List ℕ) → places ≡ text_places_in own texts → (length (numbers shown (texts_at own places)) == 0) ≡ (length places == 0)
  empty_alike texts places is =
      ap (λ ns. length (numbers shown (texts_at own ns)) == 0) is
      ∙ same_empty (team_places texts) (text_places_in own texts) (from_team texts) (to_team texts)
      ∙ ap (λ (ns : List ℕ). length ns == 0) (sym is)

  pub same_public : (a : Act) → IsNamedAct own a → task.is_public (numbered_act shown own a) ≡ task.is_public a
  same_public a named = λ i.
      not (empty_alike named.pre a.pre_pub named.pre_is i
      && (empty_alike named.add a.add_pub named.add_is i && empty_alike named.del a.del_pub named.del_is i))

-- ---- what parts tell

abbrev Rises : List Text → Type 0
Rises texts = IsStrictlySortedBy (slice_cmp nat_cmp) texts

-- texts that rise, of an agent's own list
pub record AreOwnTexts (own texts : List Text) : Type 0 where
  pub rise : Rises texts
  pub own_are : AreIn texts own

pub record IsShownPart (own : List Text) (p : Part) : Type 0 where
  pub pre : AreOwnTexts own p.pre
  pub add : AreOwnTexts own p.add
  pub del : AreOwnTexts own p.del
  pub small : p.cost ≤ 16000000

some_texts : (own texts : List Text) (test : Text → Bool) → Rises own → texts ≡ filter test own → AreOwnTexts own texts
some_texts own texts test rise is = record {
  rise = subst Rises (sym is) (IsStrictlySortedBy-filter (slice_cmp nat_cmp) test own rise);
  own_are = λ t found. (taken_passes test own t (subst (λ ts. Contains ts t) is found)).0;
}

pub part_is_shown : (own : List Text) (a : Act) → IsNamedAct own a → Rises own → a.cost ≤ 16000000 → IsShownPart own (part_of own a)
part_is_shown own a named rise small = record {
  pre = some_texts own (part_of own a).pre (λ t. is_listed t named.pre) rise (pre_texts own a named);
  add = some_texts own (part_of own a).add (λ t. is_listed t named.add) rise (add_texts own a named);
  del = some_texts own (part_of own a).del (is_only_in named.del named.add) rise (left_texts own a named);
  small = small;
}

module _ (shown : Shown) (own : List Text) (within : AreIn own (table shown)) where
  one_way : (p q : List Text) → AreIn p own → numbers shown p ≡ numbers shown q → AreIn p q
  one_way p q mine same t found =
      let place = has_place (table shown) t (within t (mine t found)) in
      let there : Contains (numbers shown q) (0 + place.0) =
      subst (λ ns. Contains ns (0 + place.0)) same (to_places 0 (λ s. is_listed s p) (table shown) place.0 t place.1 (member_listed t p found)) in
      let other = from_places 0 (λ s. is_listed s q) (table shown) (0 + place.0) there in
      let at : other.index ≡ place.0 = omega (arith, other.is) in
      let item : other.item ≡ t = same_Some other.item t (sym other.at ∙ ap (slice_get (table shown)) at ∙ place.1) in
      listed_member t q (subst (λ s. is_listed s q ≡ true) item other.passes)

  numbers_tell : (p q : List Text) → AreOwnTexts own p → AreOwnTexts own q → numbers shown p ≡ numbers shown q → p ≡ q
  numbers_tell p q h k same =
      same_rising nat_list_cmp_total p q h.rise k.rise (one_way p q h.own_are same) (one_way q p k.own_are (sym same))

  pub far_tells : (agent : ℕ) (p q : Part) → IsShownPart own p → IsShownPart own q → far_part shown agent p ≡ far_part shown agent q → p ≡ q
  far_tells agent p q h k same =
      let pres = numbers_tell p.pre q.pre h.pre k.pre (ap (λ (f : Far). f.pre) same) in
      let adds = numbers_tell p.add q.add h.add k.add (ap (λ (f : Far). f.add) same) in
      let dels = numbers_tell p.del q.del h.del k.del (ap (λ (f : Far). f.del) same) in
      let costs : p.cost ≡ q.cost = ap (λ (f : Far). f.cost) same in
      λ i. record { cost = costs i; pre = pres i; add = adds i; del = dels i }

whole_texts : (own texts : List Text) → ((t : Text) → Contains own t → IsWhole t) → AreIn texts own → All IsWhole texts
whole_texts own texts whole mine k d less = whole (get_or texts k d) (mine (get_or texts k d) (Contains-get_or texts k d less))

-- parts with the same line are the same
pub part_line_tells : (own : List Text) (p q : Part) → ((t : Text) → Contains own t → IsWhole t) → IsShownPart own p → IsShownPart own q → part_line p ≡ part_line q → p ≡ q
part_line_tells own p q whole h k same =
    let few : 16000000 < 2 ^ 64 = omega arith in
    let one = line_tells p.cost q.cost p.pre q.pre p.add q.add p.del q.del (omega (arith, h.small, few)) (omega (arith, k.small, few))
    (whole_texts own p.pre whole h.pre.own_are) (whole_texts own q.pre whole k.pre.own_are)
    (whole_texts own p.add whole h.add.own_are) (whole_texts own q.add whole k.add.own_are)
    (whole_texts own p.del whole h.del.own_are) (whole_texts own q.del whole k.del.own_are) same in
    λ i. record { cost = one.costs i; pre = one.pres i; add = one.adds i; del = one.dels i }
