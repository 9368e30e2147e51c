use Rattle.mp_grounder.proofs.Basics.{arith, ◌≡◌, ℕ, ◌+◌, ◌∙◌, IfOk, List, ◌++◌, map, sym, ap, length, length-map, subst, Text, Typed, declared_names}
use Rattle.std.proofs.lemmas.List.{length-append}
use Rattle.mp_typing.specs.ObjectList.{first_declared}
use Rattle.mp_typing.proofs.DistinctLemmas.{all_first}
use Rattle.mp_grounder.proofs.names.counted_names.Goals as goal

-- where there are as many names as declarations, they are the names of the declarations, in their order
all_named : (constants objects : List Typed) (count : ℕ) → count ≡ length (declared_names (constants ++ objects))
    → count ≡ length constants + length objects → map (λ (o : Typed). o.word.name) (constants ++ objects) ≡ declared_names (constants ++ objects)
all_named constants objects count names all =
    let firsts = length-map (first_declared (constants ++ objects)) (λ (o : Typed). o.word.name) in
    let whole = length-append constants objects in
    sym (ap (map (λ (o : Typed). o.word.name)) (all_first (constants ++ objects) (omega (arith, names, all, firsts, whole))))

pub returns-then-count-declared : goal.returns-then-count-declared
returns-then-count-declared c =
    let declared : c.args.count ≡ length c.args.constants.now + length c.args.objects.now =
    c.if-count-declared.true ∙ ap (λ (ts : List Typed). length ts + length c.as_slice-2.result.now) c.as_slice.ensures
    ∙ ap (λ (ts : List Typed). length c.args.constants.now + length ts) c.as_slice-2.ensures in
    subst (λ (all : List Text). IfOk c.all_names.result (λ names. names ≡ all)) (all_named c.args.constants.now c.args.objects.now c.args.count c.requires declared)
    c.all_names.ensures
