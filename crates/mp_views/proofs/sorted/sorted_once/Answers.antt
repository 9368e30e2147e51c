use Rattle.mp_views.proofs.Basics.{Bool, IfOk, List, ◌≡◌, ◌∙◌, subst, dedup_is, nat_list_cmp_total, texts_ties, Text}
use Rattle.std.specs.Prelude.{Decides}
use Rattle.std.proofs.lemmas.Slice.Eq.{bytes_eq-Decides}
use Rattle.mp_views.proofs.TiedLemmas.{each_once, tied_moved}
use Rattle.mp_views.proofs.sorted.sorted_once.Goals as goal

pub returns : goal.returns
returns c =
    let texts = c.args.texts.items in
    let sorted = c.sort.new.self.items in
    let same = λ (a b : Text). subst (λ (t : Bool). Decides t (a ≡ b)) (texts_ties a b) (bytes_eq-Decides a b) in
    let is = dedup_is _ _ _ c.dedup.ensures.filtered
    ∙ each_once nat_list_cmp_total texts_ties texts sorted c.in_ok-sort.ensures.sorted (tied_moved _ same texts sorted c.sort.ensures.permutation) in
    subst (λ (items : List Text). IfOk c.list_of.result (λ list. list ≡ items)) is c.list_of.ensures
