-- Parts with their lines, in the order of their lines.
use Rattle.mp_views.proofs.Basics.{◌≡◌, List, [], ◌∷◌, ◌++◌, map, reverse, refl, sym, ap, ◌∙◌, Ordering, Less, Equal, Greater, IsTotalOrder, slice_cmp, nat_list_cmp_total, texts_ties, match_ordering, nat_cmp, insert_key, IsSorted}
use Rattle.mp_views.proofs.Basics.{IsStable, bytes_eq, reverse-append, dedup_is, Part, part_line, sorted_by}
use Rattle.std.specs.Cmp.{on_total}
use Rattle.std.specs.Ordering.{on}
use Rattle.std.specs.List.Retain.{IsFiltered, DiffersFromLast}
use Rattle.std.proofs.lemmas.List.{map-append}
use Rattle.mp_views.specs.declared.parts.LinedPart.{LinedPart}
use Rattle.mp_views.specs.Parts.{part_cmp, sorted_parts}
use Rattle.mp_views.proofs.SortedLemmas.{sorted_none, sorted_one_more}
use Rattle.mp_views.proofs.TiedLemmas.{each_once, first_tied, tied_stable}

-- a part with its line
abbrev pub lined : Part → LinedPart
lined part = record { line = part_line part; part = part }

abbrev pub part_of : LinedPart → Part
part_of p = p.part

abbrev pub lined_cmp : LinedPart → LinedPart → Ordering
lined_cmp = on (λ p. p.line) (slice_cmp nat_cmp)

part_total : IsTotalOrder part_cmp
part_total = on_total part_line nat_list_cmp_total

lined_key : (ks : List Part) (k : Part) → insert_key lined_cmp (map lined ks) (lined k) ≡ map lined (insert_key part_cmp ks k)
lined_key [] k = refl
lined_key (x ∷ ks) k =
    elim (part_cmp k x) as (λ o. match_ordering o (lined k ∷ lined x ∷ map lined ks) (lined x ∷ map lined ks) (lined x ∷ insert_key lined_cmp (map lined ks) (lined k)) ≡ map lined (match_ordering o (k ∷ x ∷ ks) (x ∷ ks) (x ∷ insert_key part_cmp ks k))) [
      | Less ↦ refl
      | Equal ↦ refl
      | Greater ↦ ap (λ (zs : List LinedPart). lined x ∷ zs) (lined_key ks k)
    ]

lined_total : IsTotalOrder lined_cmp
lined_total = on_total (λ (p : LinedPart). p.line) nat_list_cmp_total

lined_sorted : (parts : List Part) → sorted_by lined_cmp (map lined parts) ≡ map lined (sorted_parts parts)
lined_sorted [] = sorted_none lined_cmp ∙ ap (map lined) (sym (sorted_none part_cmp))
lined_sorted (p ∷ parts) =
    sorted_one_more lined_total (lined p) (map lined parts) ∙ ap (λ (zs : List LinedPart). insert_key lined_cmp zs (lined p)) (lined_sorted parts)
    ∙ lined_key (sorted_parts parts) p ∙ ap (map lined) (sym (sorted_one_more part_total p parts))

back : (parts : List Part) → map part_of (map lined parts) ≡ parts
back [] = refl
back (p ∷ parts) = ap (λ (zs : List Part). p ∷ zs) (back parts)

lined_back : (parts : List Part) → map lined (reverse parts) ≡ reverse (map lined parts)
lined_back [] = refl
lined_back (p ∷ parts) =
    ap (map lined) (reverse-append (p ∷ []) parts) ∙ map-append lined (reverse parts) (p ∷ [])
    ∙ ap (λ (zs : List LinedPart). zs ++ lined p ∷ []) (lined_back parts) ∙ sym (reverse-append (lined p ∷ []) (map lined parts))

-- parts with their lines, the last one first, that are sorted and of which repetitions are left out
pub parts_are : (parts : List Part) (made sorted kept : List LinedPart) → made ≡ map lined (reverse parts) → IsStable lined_cmp made sorted → IsSorted lined_cmp sorted
    → IsFiltered (DiffersFromLast (λ x y. bytes_eq x.line y.line)) [] sorted kept → map part_of kept ≡ sorted_parts parts
parts_are parts made sorted kept are stable up left =
    ap (map part_of)
    (dedup_is _ _ _ left
    ∙ each_once lined_total (λ x y. texts_ties x.line y.line) (map lined parts) sorted up (λ q. tied_stable lined_total made sorted stable q ∙ ap (first_tied lined_cmp q) (are ∙ lined_back parts))
    ∙ lined_sorted parts)
    ∙ back (sorted_parts parts)
