-- The parts of actions of which an action that shows what the one before it showed is left out.
use Rattle.mp_split.proofs.Basics.{◌≡◌, true, List, [], ◌∷◌, ◌++◌, map, refl, inl, inr, sym, ap, ◌∙◌, append_assoc, Option, None, Some, IsTotalOrder, on_total, nat_list_cmp_total, cases_Bool, filter, Act, is_public, Text}
use Rattle.mp_split.proofs.Basics.{Part, part_line, part_cmp, sorted_parts, part_of}
use Rattle.std.proofs.Common.{IfSome, IsSomeAnd}
use Rattle.mp_views.proofs.SortedLemmas.{sorted_twice}

-- the public parts of the public ones of some actions
abbrev pub shown : List Text → List Act → List Part
shown table acts = map (part_of table) (filter is_public acts)

-- The parts so far and those of the actions that are left stand for the whole, and the last one that was shown adds nothing
-- to the parts so far.
pub record AreShown (table : List Text) (whole parts : List Part) (left : List Act) (last : Option Act) : Type 0 where
  pub same : sorted_parts (parts ++ shown table left) ≡ whole
  pub known : IfSome last (λ act. (more : List Part) → sorted_parts (parts ++ part_of table act ∷ more) ≡ sorted_parts (parts ++ more))

part_total : IsTotalOrder part_cmp
part_total = on_total part_line nat_list_cmp_total

module _ (table : List Text) (whole parts made : List Part) (before left : List Act) (act : Act) (last now : Option Act)
    (are : AreShown table whole parts before last) (next : before ≡ act ∷ left) where
  -- an action whose part is put behind the others
  pub added : (part : Part) → is_public act ≡ true → part ≡ part_of table act
      → made ≡ parts ++ part ∷ [] → now ≡ Some act → AreShown table whole made left now
  added part public shows grown set =
      let p = part_of table act in
      let here : p ∷ shown table left ≡ shown table before = sym (ap (shown table) next ∙ rw public refl) in
      rw (set, grown, shows) (record {
        same = ap sorted_parts (append_assoc parts (p ∷ []) (shown table left) ∙ ap (λ (ps : List Part). parts ++ ps) here) ∙ are.same;
        known = λ more.
            ap sorted_parts (append_assoc parts (p ∷ []) (p ∷ more)) ∙ sorted_twice part_total parts p more
            ∙ ap sorted_parts (sym (append_assoc parts (p ∷ []) more));
      })

  -- an action whose part is left out
  pub repeated : (is_public act ≡ true → IsSomeAnd last (λ b. (table : List Text) → part_of table b ≡ part_of table act)) → made ≡ parts → now ≡ last
      → AreShown table whole made left now
  repeated shows same kept =
      let left_out = nothing last are.known shows ∙ ap (λ (acts : List Act). sorted_parts (parts ++ shown table acts)) (sym next) in
      rw (same, kept) (record { same = left_out ∙ are.same; known = are.known })
    where
      nothing : (o : Option Act) → IfSome o (λ b. (more : List Part) → sorted_parts (parts ++ part_of table b ∷ more) ≡ sorted_parts (parts ++ more))
          → (is_public act ≡ true → IsSomeAnd o (λ b. (table : List Text) → part_of table b ≡ part_of table act))
          → sorted_parts (parts ++ shown table left) ≡ sorted_parts (parts ++ shown table (act ∷ left))
      nothing o known shows =
          elim (cases_Bool (is_public act)) [
            | inl public ↦ rw public (of_last o known (shows public))
            | inr private ↦ rw private refl
          ]
        where
          of_last : (o : Option Act) → IfSome o (λ b. (more : List Part) → sorted_parts (parts ++ part_of table b ∷ more) ≡ sorted_parts (parts ++ more))
              → IsSomeAnd o (λ b. (table : List Text) → part_of table b ≡ part_of table act)
              → sorted_parts (parts ++ shown table left) ≡ sorted_parts (parts ++ part_of table act ∷ shown table left)
          of_last None known shows = absurd shows
          of_last (Some b) known shows = sym (known (shown table left)) ∙ ap (λ (p : Part). sorted_parts (parts ++ p ∷ shown table left)) (shows table)
