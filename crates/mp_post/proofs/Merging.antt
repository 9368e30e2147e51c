-- Parties of two desks in one.
use Rattle.std.proofs.Common.{◌≡◌, ℕ, zero, suc, ◌+◌, ◌<◌, List, [], ◌∷◌, length, map, get_or, set, refl, sym, ap, ◌∙◌, arith, false, Some, None}
use Rattle.std.specs.Prelude.{Bool, Option}
use Rattle.std.specs.Option.{is_some}
use lib.ListN.{length-map}
use Rattle.mp_stamps.specs.declared.stamped.Stamped.{Stamped}
use Rattle.mp_post_rule.specs.Views.{either_each, either_party, list_in, party_at, together}
use Rattle.mp_post_rule.specs.declared.view.Party.{Party}
use Rattle.mp_post_rule.specs.declared.view.View.{View}
use Rattle.mp_post.specs.Desks.{HasLists, HoldsParty}
use Rattle.mp_post.specs.Moves.{chosen, either_mark}
use Rattle.mp_post.specs.Parts.{HasMerged}
use Rattle.mp_post_rule.proofs.Parties.{first_at, second_at}
use Rattle.mp_post.proofs.Lists.{get_map, map_set, mark_at}

-- the parties of both for the first so many agents, and those of the first for the others
abbrev pub either_first : ℕ → List (Option Party) → List (Option Party) → List (Option Party)
either_first zero ps qs = ps
either_first (suc n) [] qs = []
either_first (suc n) (p ∷ ps) [] = p ∷ ps
either_first (suc n) (p ∷ ps) (q ∷ qs) = either_party p q ∷ either_first n ps qs

pub one_more : (n : ℕ) (ps qs : List (Option Party)) → n < length ps → n < length qs
    → either_first (suc n) ps qs ≡ set (either_first n ps qs) n (either_party (get_or ps n None) (get_or qs n None))
one_more n [] qs low high = absurd (omega arith)
one_more n (p ∷ ps) [] low high = absurd (omega arith)
one_more zero (p ∷ ps) (q ∷ qs) low high = refl
one_more (suc n) (p ∷ ps) (q ∷ qs) low high = ap (λ l. either_party p q ∷ l) (one_more n ps qs (omega arith) (omega arith))

pub not_yet : (n : ℕ) (ps qs : List (Option Party)) → get_or (either_first n ps qs) n None ≡ get_or ps n None
not_yet zero ps qs = refl
not_yet (suc n) [] qs = refl
not_yet (suc n) (p ∷ ps) [] = refl
not_yet (suc n) (p ∷ ps) (q ∷ qs) = not_yet n ps qs

pub at_end : (ps qs : List (Option Party)) → length qs ≡ length ps → either_first (length ps) ps qs ≡ either_each ps qs
at_end [] [] same = refl
at_end [] (q ∷ qs) same = absurd (omega arith)
at_end (p ∷ ps) [] same = absurd (omega arith)
at_end (p ∷ ps) (q ∷ qs) same = ap (λ l. either_party p q ∷ l) (at_end ps qs (omega arith))

pub keeps_length : (n : ℕ) (ps qs : List (Option Party)) → length (either_first n ps qs) ≡ length ps
keeps_length zero ps qs = refl
keeps_length (suc n) [] qs = refl
keeps_length (suc n) (p ∷ ps) [] = refl
keeps_length (suc n) (p ∷ ps) (q ∷ qs) = ap suc (keeps_length n ps qs)

-- the list and the mark of one party
chosen_list : (p q : Option Party) → list_in (either_party p q) ≡ chosen (is_some p) (is_some q) (list_in p) (list_in q)
chosen_list (Some p) q = refl
chosen_list None (Some q) = refl
chosen_list None None = refl

either_is : (p q : Option Party) → is_some (either_party p q) ≡ either_mark (is_some p) (is_some q)
either_is (Some p) q = refl
either_is None q = refl

module _ (n : ℕ) (ps qs : List (Option Party)) (low : n < length ps) (high : n < length qs) where
  abbrev now : List (Option Party)
  now = either_first n ps qs

  pub lists_step : (lists : List (List Stamped)) (mark : Bool) (list other : List Stamped) (other_mark : Bool)
      → lists ≡ map list_in now → mark ≡ get_or (map is_some now) n false → other_mark ≡ get_or (map is_some qs) n false
      → list ≡ get_or lists n [] → other ≡ get_or (map list_in qs) n []
      → set lists n (chosen mark other_mark list other) ≡ map list_in (either_first (suc n) ps qs)
  lists_step lists mark list other other_mark are is other_is list_is other_list =
      let p = get_or ps n None in
      let q = get_or qs n None in
      let a : mark ≡ is_some p = is ∙ (mark_at now n ∙ ap is_some (not_yet n ps qs)) in
      let b : other_mark ≡ is_some q = other_is ∙ mark_at qs n in
      let c : list ≡ list_in p = list_is ∙ (ap (λ l. get_or l n []) are ∙ (get_map now n ∙ ap list_in (not_yet n ps qs))) in
      let d : other ≡ list_in q = other_list ∙ get_map qs n in
      (λ i. set (are i) n (chosen (a i) (b i) (c i) (d i)))
      ∙ (ap (set (map list_in now) n) (sym (chosen_list p q))
      ∙ (sym (map_set list_in now n (either_party p q)) ∙ ap (map list_in) (sym (one_more n ps qs low high))))

  pub marks_step : (marks : List Bool) (mark other_mark : Bool) → marks ≡ map is_some now → mark ≡ get_or marks n false
      → other_mark ≡ get_or (map is_some qs) n false
      → set marks n (either_mark mark other_mark) ≡ map is_some (either_first (suc n) ps qs)
  marks_step marks mark other_mark are is other_is =
      let p = get_or ps n None in
      let q = get_or qs n None in
      let a : mark ≡ is_some p = is ∙ (ap (λ l. get_or l n false) are ∙ (mark_at now n ∙ ap is_some (not_yet n ps qs))) in
      let b : other_mark ≡ is_some q = other_is ∙ mark_at qs n in
      (λ i. set (are i) n (either_mark (a i) (b i)))
      ∙ (ap (set (map is_some now) n) (sym (either_is p q))
      ∙ (sym (map_set is_some now n (either_party p q)) ∙ ap (map is_some) (sym (one_more n ps qs low high))))

-- one place more of two desks
pub both_step : (n : ℕ) (v w : View) (lists : List (List Stamped)) (held : List Bool) (others : List (List Stamped)) (others_held : List Bool)
    → HasLists lists held v → HasLists others others_held w
    → (now_lists : List (List Stamped)) (now_held : List Bool) (now_others : List (List Stamped)) (next_lists : List (List Stamped)) (next_held : List Bool) (mark : Bool)
    → length others_held ≡ length lists → n < length others_held → get_or now_others n [] ≡ get_or others n [] → mark ≡ get_or others_held n false
    → next_lists ≡ set now_lists n (chosen (get_or now_held n false) mark (get_or now_lists n []) (get_or now_others n []))
    → next_held ≡ set now_held n (either_mark (get_or now_held n false) mark)
    → (now_lists ≡ map list_in (either_first n v.parties w.parties)) × (now_held ≡ map is_some (either_first n v.parties w.parties))
    → (next_lists ≡ map list_in (either_first (n + 1) v.parties w.parties)) × (next_held ≡ map is_some (either_first (n + 1) v.parties w.parties))
both_step n v w lists held others others_held mine theirs now_lists now_held now_others next_lists next_held mark many low left is made marked moved =
    let ps = v.parties in
    let qs = w.parties in
    let a : length lists ≡ length ps = ap length mine.0 ∙ length-map ps list_in in
    let b : length others_held ≡ length qs = ap length theirs.1 ∙ length-map qs is_some in
    let low_ps : n < length ps = omega arith in
    let low_qs : n < length qs = omega arith in
    let up : suc n ≡ n + 1 = omega arith in
    let their_mark : mark ≡ get_or (map is_some qs) n false = is ∙ ap (λ l. get_or l n false) theirs.1 in
    let their_list : get_or now_others n [] ≡ get_or (map list_in qs) n [] = left ∙ ap (λ l. get_or l n []) theirs.0 in
    let my_mark : get_or now_held n false ≡ get_or (map is_some (either_first n ps qs)) n false = ap (λ l. get_or l n false) moved.1 in (
      made ∙ (lists_step n ps qs low_ps low_qs now_lists (get_or now_held n false) (get_or now_lists n []) (get_or now_others n []) mark
          moved.0 my_mark their_mark refl their_list ∙ ap (λ (k : ℕ). map list_in (either_first k ps qs)) up),
      marked ∙ (marks_step n ps qs low_ps low_qs now_held (get_or now_held n false) mark moved.1 refl their_mark
          ∙ ap (λ (k : ℕ). map is_some (either_first k ps qs)) up),
    )

-- all places
pub ends_with : (n : ℕ) (v w : View) (lists : List (List Stamped)) (held : List Bool) → length w.parties ≡ length v.parties → n ≡ length v.parties
    → (lists ≡ map list_in (either_first n v.parties w.parties)) × (held ≡ map is_some (either_first n v.parties w.parties))
    → HasLists lists held (together v w)
ends_with n v w lists held same all moved =
    let e : either_first n v.parties w.parties ≡ either_each v.parties w.parties =
    ap (λ (k : ℕ). either_first k v.parties w.parties) all ∙ at_end v.parties w.parties same in
    (moved.0 ∙ ap (map list_in) e, moved.1 ∙ ap (map is_some) e)

-- there are as many parties as before
pub merged_length : (agents : ℕ) (v other w : View) → HasMerged v other w → length v.parties ≡ agents → length other.parties ≡ agents
    → length w.parties ≡ agents
merged_length agents v other w merged mine theirs =
    ap (λ x. length x.parties) merged.view
    ∙ (ap length (sym (at_end v.parties other.parties (theirs ∙ sym mine)))
    ∙ (keeps_length (length v.parties) v.parties other.parties ∙ mine))

-- who is held then
pub merged_first : (v other w : View) → HasMerged v other w → (agent : ℕ) → HoldsParty agent v → HoldsParty agent w
merged_first v other w merged agent holds =
    (holds.0, ap (λ x. party_at x agent) merged.view ∙ first_at v.parties other.parties agent holds.0 holds.1)

pub merged_second : (v other w : View) → HasMerged v other w → (agent : ℕ) → HoldsParty agent other → HoldsParty agent w
merged_second v other w merged agent holds = either (party_at v agent) refl
  where
    either : (q : Option Party) → party_at v agent ≡ q → HoldsParty agent w
    either (Some p) e = merged_first v other w merged agent (p, e)
    either None e = (holds.0, ap (λ x. party_at x agent) merged.view ∙ second_at v.parties other.parties agent holds.0 e holds.1)
