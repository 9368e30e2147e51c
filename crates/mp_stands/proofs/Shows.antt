-- What an agent of a team shows of its actions, and what the others make of it.
use Rattle.std.proofs.Common.{◌≡◌, ℕ, ◌+◌, Bool, true, false, List, [], ◌∷◌, map, filter, length, All, Some, slice_get, refl, sym, ◌∙◌, subst}
use Rattle.std.proofs.lemmas.Cmp.{nat_list_cmp_total, on_total, tied_itself}
use Rattle.std.proofs.lemmas.List.Elements.{All-contains}
use Rattle.std.proofs.lemmas.Slice.Eq.{bytes_eq-Decides}
use Rattle.std.specs.Cmp.{IsTotalOrder}
use Rattle.std.specs.Cmp.Lexicographic.{slice_cmp, texts_ties}
use Rattle.std.specs.List.Sorted.{IsStrictlySortedBy}
use Rattle.std.specs.Ordering.{nat_cmp, eq_by_cmp}
use Rattle.std.specs.Prelude.{Contains}
use Rattle.mp_list.proofs.Members.{any_from, some_member, contains_head, contains_tail, to_map, from_map}
use Rattle.mp_forms.specs.declared.factor.Factor.{Factor}
use Rattle.mp_typing.proofs.Passing.{taken_passes, taken_from_passes}
use Rattle.mp_task.specs.declared.act.Act.{Act}
use Rattle.mp_task.specs.Limits.{ActFits}
use Rattle.mp_task.specs.Public.{is_public as is_public_act}
use Rattle.mp_joint.specs.declared.fact.SignedFact.{SignedFact}
use Rattle.mp_joint.specs.Fact.{Text}
use Rattle.mp_lifting.specs.Texts.{signed_text}
use Rattle.mp_views.specs.declared.view.Part.{Part}
use Rattle.mp_views.specs.Lines.{part_line}
use Rattle.mp_views.specs.Parts.{part_cmp, sorted_parts}
use Rattle.mp_views.specs.Public.{is_public}
use Rattle.mp_views.proofs.SortedLaws.{rises, same_members, texts_rise}
use Rattle.mp_ground_laws.specs.Checked.{IsChecked}
use Rattle.mp_grounder.specs.declared.grounded.Ground.{Ground}
use Rattle.mp_grounder.specs.Grounded.{IsGrounded, act_of, counted, instances_by_name}
use Rattle.mp_grounder.specs.Limits.{KeepsLimits}
use Rattle.mp_split.specs.Closed.{closed_view, part_of}
use Rattle.mp_split.specs.TaskOf.{Shown, table, far_part}
use Rattle.mp_split.specs.Team.{AreGrounded, known_at, shown_by}
use Rattle.mp_stands.specs.Knowing.{known_setting}
use Rattle.mp_stands.proofs.Facts.{IsTold}
use Rattle.mp_stands.proofs.Lines.{IsWhole, plain_whole, complement_whole}
use Rattle.mp_stands.proofs.JoinedLists.{member_listed, listed_member}
use Rattle.mp_stands.proofs.Made.{itself, rising_once}
use Rattle.mp_stands.proofs.Once.{AreOnce, once_map}
use Rattle.mp_stands.proofs.Ordered.{from_sorted}
use Rattle.mp_stands.proofs.PublicParts.{IsNamedAct, IsShownPart, part_is_shown, far_tells, part_line_tells}
use Rattle.mp_stands.proofs.Tables.{counts_at, in_texts, one_told, publics_of}

part_total : IsTotalOrder part_cmp
part_total = on_total part_line nat_list_cmp_total

signed_whole : (x : SignedFact) → IsTold x → IsWhole (signed_text x)
signed_whole x told = by x.positive
  where
    by : (a : Bool) → IsWhole (signed_text (record { positive = a; fact = x.fact }))
    by true = plain_whole x.fact.predicate x.fact.args told
    by false = complement_whole x.fact.predicate x.fact.args told

-- where items that become the same are the same
once_since : {X Y : Type 0} (f : X → Y) (xs : List X) → ((x y : X) → Contains xs x → Contains xs y → f x ≡ f y → x ≡ y) → AreOnce itself xs → AreOnce f xs
once_since f [] each once = tt
once_since f (x ∷ xs) each once = (
  λ y found same. once.0 y found (each x y (contains_head x xs) (contains_tail x xs y found) same),
  once_since f xs (λ a b first second same. each a b (contains_tail x xs a first) (contains_tail x xs b second) same) once.1,
)

module _ (team : List Factor) (grounds : List Ground) (all : All IsChecked team) (are : AreGrounded team grounds)
    (place : ℕ) (factor : Factor) (g : Ground) (at : slice_get team place ≡ Some factor) (ground_at : slice_get grounds place ≡ Some g) where
  abbrev grounded : IsGrounded (known_at team place factor) g
  grounded = (are.each place factor g at ground_at).0

  abbrev limits : KeepsLimits g
  limits = (are.each place factor g at ground_at).1

  abbrev shown : Shown
  shown = shown_by team grounds

  own_rise : IsStrictlySortedBy (slice_cmp nat_cmp) g.publics
  own_rise = subst (IsStrictlySortedBy (slice_cmp nat_cmp)) (sym grounded.publics) (texts_rise (map signed_text (filter is_public (counted (known_at team place factor)))))

  pub own_within : (t : Text) → Contains g.publics t → Contains (table shown) t
  own_within t found =
      listed_member t (table shown) (in_texts team grounds all are place g t ground_at (member_listed t g.publics found))

  own_whole : (t : Text) → Contains g.publics t → IsWhole t
  own_whole t found =
      let ones = filter is_public (counted (known_at team place factor)) in
      let listed = sym (publics_of team grounds all are place factor g at ground_at t) ∙ member_listed t g.publics found in
      let from = from_map signed_text ones t (listed_member t (map signed_text ones) listed) in
      let is = taken_passes is_public (counted (known_at team place factor)) from.0 from.1 in
      subst IsWhole from.2
      (signed_whole from.0 (one_told team grounds all are from.0 (counts_at team grounds all are place factor from.0 at is.0)))

  pub named_act : (a : Act) → Contains g.acts a → IsNamedAct g.publics a
  named_act a found =
      let from = from_map (act_of grounded.private_facts g.publics) (instances_by_name (place + 1) factor (known_setting team (place + 1) factor)) a
      (subst (λ as'. Contains as' a) grounded.acts found) in
      let i = from.0 in
      subst (IsNamedAct g.publics) from.2 (record {
        pre = map signed_text (filter is_public i.pre);
        add = map signed_text (filter is_public i.add);
        del = map signed_text (filter is_public i.del);
        pre_is = refl;
        add_is = refl;
        del_is = refl;
      })

  act_shown : (a : Act) → Contains g.acts a → IsShownPart g.publics (part_of g.publics a)
  act_shown a found =
      part_is_shown g.publics a (named_act a found) own_rise
      (All-contains (ActFits (length g.publics) g.privates) g.acts a limits.acts found).cost

  -- ---- the parts that the agent shows

  abbrev parts : List Part
  parts = map (part_of g.publics) (filter is_public_act g.acts)

  pub record IsPartOfAct (p : Part) : Type 0 where
    pub act : Act
    pub listed : Contains g.acts act
    pub public : is_public_act act ≡ true
    pub is : part_of g.publics act ≡ p

  pub from_parts : (p : Part) → Contains parts p → IsPartOfAct p
  from_parts p found =
      let from = from_map (part_of g.publics) (filter is_public_act g.acts) p found in
      let is = taken_passes is_public_act g.acts from.0 from.1 in
      record { act = from.0; listed = is.0; public = is.1; is = from.2 }

  shown_part : (p : Part) → Contains parts p → IsShownPart g.publics p
  shown_part p found = let from = from_parts p found in subst (IsShownPart g.publics) from.is (act_shown from.act from.listed)

  pub from_acts : (p : Part) → Contains (closed_view g).acts p → IsPartOfAct p
  from_acts p found = from_parts p (from_sorted part_total parts p found)

  pub to_acts : (a : Act) → Contains g.acts a → is_public_act a ≡ true → Contains (closed_view g).acts (part_of g.publics a)
  to_acts a found public =
      let p = part_of g.publics a in
      let there : Contains parts p = to_map (part_of g.publics) (filter is_public_act g.acts) a (taken_from_passes is_public_act g.acts a found public) in
      let itself_tied : eq_by_cmp part_cmp p p ≡ true =
      sym (texts_ties (part_line p) (part_line p)) ∙ (bytes_eq-Decides (part_line p) (part_line p)).1 refl in
      let tied = some_member (eq_by_cmp part_cmp p) (sorted_parts parts)
      (same_members part_total parts p ∙ any_from (eq_by_cmp part_cmp p) parts p there itself_tied) in
      let lines : part_line p ≡ part_line tied.0 =
      (bytes_eq-Decides (part_line p) (part_line tied.0)).0 (texts_ties (part_line p) (part_line tied.0) ∙ tied.2) in
      let same = part_line_tells g.publics p tied.0 own_whole (shown_part p there)
      (shown_part tied.0 (from_sorted part_total parts tied.0 tied.1)) lines in
      subst (Contains (sorted_parts parts)) (sym same) tied.1

  pub far_once : (agent : ℕ) → AreOnce itself (map (far_part shown agent) (closed_view g).acts)
  far_once agent =
      let acts = (closed_view g).acts in
      once_map itself (far_part shown agent) acts
      (once_since (far_part shown agent) acts
      (λ p q first second same.
      far_tells shown g.publics own_within agent p q (shown_part p (from_sorted part_total parts p first)) (shown_part q (from_sorted part_total parts q second)) same)
      (rising_once part_cmp acts (tied_itself part_total) (rises part_cmp parts)))
