use Rattle.mp_typing.proofs.Basics.{IfOk-weaker, ◌≡◌, ◌∙◌, ℕ, List, eqb, sym, subst, Contains, IsStrictlyIncreasing}
use Rattle.std.specs.List.{dedup}
use Rattle.std.proofs.lemmas.List.Filters.{dedup_is}
use Rattle.std.proofs.lemmas.List.Kept.{Contains-dedup_nat, Contains-from_dedup}
use Rattle.std.proofs.lemmas.List.Sorted.{Contains-permutation, IsPermutation-sym}
use Rattle.std.proofs.lemmas.Map.Keys.{IsStrictlyIncreasing-dedup}
use Rattle.mp_typing.proofs.listed.in_order.Goals as goal

pub returns : goal.returns
returns c =
    let old = c.args.numbers.now.items in
    let sorted = c.sort.new.self.items in
    let same = c.sort.ensures.permutation in
    let is : c.as_slice.result.now ≡ dedup eqb sorted = c.as_slice.ensures.value ∙ dedup_is _ _ _ c.dedup.ensures.filtered in
    IfOk-weaker c.list_of.result _ _
    (λ list made.
    let whole : list ≡ dedup eqb sorted = made ∙ is in (
      subst IsStrictlyIncreasing (sym whole) (IsStrictlyIncreasing-dedup sorted c.in_ok-sort.ensures.sorted),
      (λ number. (
        (λ found.
            Contains-permutation sorted old number (IsPermutation-sym old sorted same)
            (Contains-from_dedup eqb sorted number (subst (λ (ns : List ℕ). Contains ns number) whole found))),
        (λ found. subst (λ (ns : List ℕ). Contains ns number) (sym whole) (Contains-dedup_nat sorted number (Contains-permutation old sorted number same found))),
      )),
    ))
    c.list_of.ensures
