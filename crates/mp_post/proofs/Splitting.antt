-- A party that goes to a desk of its own.
use Rattle.std.proofs.Common.{◌≡◌, ◌≢◌, ℕ, ◌-◌, List, [], ◌∷◌, length, map, get_or, get_or-set_same, set, refl, sym, ap, ◌∙◌, arith, false, true, Some, None}
use Rattle.std.specs.Prelude.{Bool, Option, replicate}
use Rattle.std.specs.Option.{is_some}
use lib.ListN.{length-map}
use Rattle.mp_stamps.specs.declared.stamped.Stamped.{Stamped}
use Rattle.mp_post_rule.specs.Views.{list_in, no_party, party_at}
use Rattle.mp_post_rule.specs.declared.view.Party.{Party}
use Rattle.mp_post_rule.specs.declared.view.View.{View}
use Rattle.mp_post.specs.Desks.{HasLists, HoldsParty}
use Rattle.mp_post.specs.Parts.{HasSplit}
use Rattle.mp_post.proofs.Lists.{from_place, map_set, own_is, positive, set_other, within}

no_lists : (ps : List (Option Party)) → map list_in (map no_party ps) ≡ replicate (length ps) []
no_lists [] = refl
no_lists (p ∷ ps) = ap (λ l. [] ∷ l) (no_lists ps)

no_marks : (ps : List (Option Party)) → map is_some (map no_party ps) ≡ replicate (length ps) false
no_marks [] = refl
no_marks (p ∷ ps) = ap (λ l. false ∷ l) (no_marks ps)

module _ (lists : List (List Stamped)) (held : List Bool) (v : View) (has : HasLists lists held v) (a : ℕ) (holds : HoldsParty a v) where
  pub left_lists : (w : View) (new : List (List Stamped)) (marks : List Bool) → w.parties ≡ set v.parties (a - 1) None
      → new ≡ set lists (a - 1) [] → marks ≡ set held (a - 1) false → HasLists new marks w
  left_lists w new marks e is are = (
    is ∙ (ap (λ l. set l (a - 1) []) has.0 ∙ (sym (map_set list_in v.parties (a - 1) None) ∙ ap (map list_in) (sym e))),
    are ∙ (ap (λ l. set l (a - 1) false) has.1 ∙ (sym (map_set is_some v.parties (a - 1) None) ∙ ap (map is_some) (sym e))),
  )

  pub right_lists : (u : View) (n : ℕ) (new : List (List Stamped)) (marks : List Bool)
      → u.parties ≡ set (map no_party v.parties) (a - 1) (party_at v a) → n ≡ length lists
      → new ≡ set (replicate n []) (a - 1) (get_or lists (a - 1) []) → marks ≡ set (replicate n false) (a - 1) true → HasLists new marks u
  right_lists u n new marks e many is are =
      let p = holds.0 in
      let own = own_is lists held v has a holds (get_or lists (a - 1) []) refl in
      let count : n ≡ length v.parties = many ∙ (ap length has.0 ∙ length-map v.parties list_in) in
      let there : set (map no_party v.parties) (a - 1) (Some p) ≡ u.parties = ap (set (map no_party v.parties) (a - 1)) (sym holds.1) ∙ sym e in (
        is ∙ ((λ i. set (replicate (count i) []) (a - 1) (get_or lists (a - 1) []))
            ∙ (ap (λ l. set l (a - 1) (get_or lists (a - 1) [])) (sym (no_lists v.parties))
            ∙ (ap (set (map list_in (map no_party v.parties)) (a - 1)) own
            ∙ (sym (map_set list_in (map no_party v.parties) (a - 1) (Some p)) ∙ ap (map list_in) there)))),
        are ∙ ((λ i. set (replicate (count i) false) (a - 1) true)
            ∙ (ap (λ l. set l (a - 1) true) (sym (no_marks v.parties))
            ∙ (sym (map_set is_some (map no_party v.parties) (a - 1) (Some p)) ∙ ap (map is_some) there))),
      )

-- who holds a party then
pub right_holds : (a : ℕ) (v left right : View) → HoldsParty a v → HasSplit a v left right → HoldsParty a right
right_holds a v left right holds s =
    let p = holds.0 in
    let e : right.parties ≡ set (map no_party v.parties) (a - 1) (Some p) =
    ap (λ x. x.parties) s.right_is ∙ ap (set (map no_party v.parties) (a - 1)) holds.1 in
    let many = length-map v.parties no_party in
    let low = within v.parties a p holds.1 in (
      p,
      from_place right.parties a p (positive v.parties a p holds.1)
          (ap (λ ps. get_or ps (a - 1) None) e ∙ get_or-set_same (map no_party v.parties) (a - 1) (Some p) None (omega arith)),
    )

pub left_holds : (a : ℕ) (v left right : View) → HoldsParty a v → HasSplit a v left right
    → (agent : ℕ) → agent ≢ a → HoldsParty agent v → HoldsParty agent left
left_holds a v left right holds s agent other held = (
  held.0,
  ap (λ x. party_at x agent) s.left_is ∙ (set_other v.parties a None (positive v.parties a holds.0 holds.1) agent other ∙ held.1),
)
