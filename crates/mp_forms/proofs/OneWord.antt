-- A node that is one word is no other word.
use Rattle.mp_forms.proofs.Basics.{◌≡◌, ℕ, true, false, List, refl, sym, subst, true≢false, bytes_eq, bytes_eq-Decides, Node, word, list, is_word, word_of}

pub word_is : (keyword : List ℕ) (n : Node) → is_word keyword n ≡ true → word_of n ≡ keyword
word_is keyword (list nodes place) is = absurd (true≢false (sym is))
word_is keyword (word name place) is = (bytes_eq-Decides name keyword).0 is

pub no_other_word : (one other : List ℕ) (n : Node) → bytes_eq one other ≡ false → is_word one n ≡ true → is_word other n ≡ false
no_other_word one other (list nodes place) apart is = refl
no_other_word one other (word name place) apart is =
    subst (λ (w : List ℕ). bytes_eq w other ≡ false) (sym (word_is one (word name place) is)) apart
