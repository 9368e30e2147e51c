-- Known bytes that grow by one piece after another of a text.
use Rattle.std.proofs.Common.{suc, get_or, subst, ◌<◌, take-append-drop, ◌≡◌, ℕ, ◌+◌, ◌-◌, min, List, ◌++◌, length, take, drop, Option, Some, None, arith, refl, ap, sym, ◌∙◌, append_assoc}
use Rattle.std.proofs.lemmas.Grind.{common_steps, flat_map-append}
use Rattle.std.proofs.Math.Seq.{take-add, take-append-add, drop-cons}
use Rattle.std.specs.Borrow.{Bor}
use Rattle.std.specs.List.{flat_map}
use Rattle.std.specs.Io.KnownBytes.{Appends}
use Rattle.mp_outside.specs.Sink.{AppendsBeginning}

-- the rest of a text, as a slice to its end
pub rest_is : (m : ℕ) (text : List ℕ) → take (length text - m) (drop m text) ≡ drop m text
rest_is m text = grind (arith, common_steps)

-- a text's beginning and some of the rest are a longer beginning
pub beginnings : (xs text : List ℕ) (m n : ℕ) → (xs ++ take m text) ++ take n (take (length text - m) (drop m text)) ≡ xs ++ take (m + n) text
beginnings xs text m n = rw (rest_is m text, append_assoc, take-add m n text) refl

pub grows : (a b c : Option (List ℕ)) (text : List ℕ) (m n : ℕ) → Appends a b (take m text) → Appends b c (take n (take (length text - m) (drop m text))) → Appends a c (take (m + n) text)
grows None b c text m n h k = tt
grows (Some xs) None c text m n h k = absurd h
grows (Some xs) (Some ys) None text m n h k = absurd k
grows (Some xs) (Some ys) (Some zs) text m n h k = k ∙ ap (λ s. s ++ take n (take (length text - m) (drop m text))) h ∙ beginnings xs text m n

pub grows_begun : (a b c : Option (List ℕ)) (text : List ℕ) (m : ℕ) → Appends a b (take m text) → AppendsBeginning b c (take (length text - m) (drop m text)) → AppendsBeginning a c text
grows_begun None b c text m h k = tt
grows_begun (Some xs) None c text m h k = absurd h
grows_begun (Some xs) (Some ys) None text m h k = tt
grows_begun (Some xs) (Some ys) (Some zs) text m h k = (m + k.0, k.1 ∙ ap (λ s. s ++ take k.0 (take (length text - m) (drop m text))) h ∙ beginnings xs text m k.0)

take_front : (k : ℕ) (y z : List ℕ) → take (min k (length y)) (y ++ z) ≡ take k y
take_front k y z = grind (arith, common_steps)

-- one text, and a beginning of the next, are a beginning of all
pub grows_begun_on : (a b c : Option (List ℕ)) (x y z : List ℕ) → Appends a b x → AppendsBeginning b c y → AppendsBeginning a c (x ++ (y ++ z))
grows_begun_on None b c x y z h k = tt
grows_begun_on (Some xs) None c x y z h k = absurd h
grows_begun_on (Some xs) (Some ys) None x y z h k = tt
grows_begun_on (Some xs) (Some ys) (Some zs) x y z h k = (
  length x + min k.0 (length y),
  k.1 ∙ ap (λ s. s ++ take k.0 y) h ∙ append_assoc xs x (take k.0 y) ∙ ap (λ s. xs ++ (x ++ s)) (sym (take_front k.0 y z)) ∙ ap (λ s. xs ++ s) (sym (take-append-add x (y ++ z) (min k.0 (length y)))),
)

-- the text of all pieces is that of the first ones, of the next one and of the rest
pieces : (texts : List (Bor (List ℕ))) (i : ℕ) (d : Bor (List ℕ)) → i < length texts → flat_map (λ t. t.now) texts ≡ flat_map (λ t. t.now) (take i texts) ++ ((get_or texts i d).now ++ flat_map (λ t. t.now) (drop (suc i) texts))
pieces texts i d h =
    ap (flat_map (λ t. t.now)) (sym (take-append-drop i texts))
    ∙ flat_map-append (λ t. t.now) (take i texts) (drop i texts)
    ∙ ap (λ rest. flat_map (λ t. t.now) (take i texts) ++ flat_map (λ t. t.now) rest) (drop-cons texts i d h)

-- the first pieces, and a beginning of the next, are a beginning of all
pub begun_all : (a b c : Option (List ℕ)) (texts : List (Bor (List ℕ))) (i : ℕ) (d : Bor (List ℕ)) → i < length texts → Appends a b (flat_map (λ t. t.now) (take i texts)) → AppendsBeginning b c (get_or texts i d).now → AppendsBeginning a c (flat_map (λ t. t.now) texts)
begun_all a b c texts i d within h k =
    subst (λ text. AppendsBeginning a c text) (sym (pieces texts i d within))
    (grows_begun_on a b c _ _ (flat_map (λ t. t.now) (drop (suc i) texts)) h k)
