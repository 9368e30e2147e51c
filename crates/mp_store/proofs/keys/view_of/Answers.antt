use Rattle.std.proofs.Common.{◌≡◌, ℕ, ◌-◌, List, drop, get_or, length, take, sym, ap, subst, ◌∙◌}
use Rattle.std.proofs.Math.Seq.{take-length}
use Rattle.std.proofs.lemmas.List.{length-drop}
use Rattle.mp_sets.specs.Words.{ArePacked}
use Rattle.mp_store.proofs.keys.view_of.Goals as goal

-- all words from the fourth on
all_behind : (row : List ℕ) → take (length row - 3) (drop 3 row) ≡ drop 3 row
all_behind row = ap (λ n. take n (drop 3 row)) (sym (length-drop 3 row)) ∙ take-length (drop 3 row)

pub new-requires : goal.new-requires
new-requires c =
    let row = c.args.row.now in
    subst (λ (size : ℕ). ArePacked size (take (length row - 3) (drop 3 row))) (sym c.size_in.ensures)
    (subst (ArePacked (get_or row 0 0)) (sym (all_behind row)) c.requires.packed)
