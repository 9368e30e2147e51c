-- What the value of an option leads to.
use Rattle.std.proofs.Common.{◌≡◌, ℕ, ◌≤◌, Bool, true, false, ◌&&◌, List, Option, Some, None, IfSome, refl, subst, if◌then◌else◌}
use Rattle.std.proofs.lemmas.Bool.{and_parts, leb-true}
use Rattle.std.specs.Prelude.{codes, nat_le, option_and_then, option_map}
use Rattle.std.specs.Option.{option_map_or}
use Rattle.mp_words.specs.Asked.{Asked}
use Rattle.mp_words.specs.Numbers.{if_between, number_between, number_from, number_of}
use Rattle.mp_words.specs.Words.{choice_of, unless_given, with_heuristic, with_limit, with_value, with_workers}
use Rattle.mp_words.specs.declared.asked.Valued.{Valued}
use Rattle.mp_words.specs.declared.asked.Valued.TheVariants.{Limit, Heuristic, Workers}

-- ---- What holds of an option in each case of how it comes.

pub either : {A : Type 0} (c : Bool) (x y : Option A) (P : A → Type 0) → (c ≡ true → IfSome x P) → (c ≡ false → IfSome y P) → IfSome (if c then x else y) P
either true x y P h k = h refl
either false x y P h k = k refl

pub mapped_or : {A B : Type 0} (f : A → Option B) (o : Option A) (d : Option B) (P : B → Type 0) → ((x : A) → IfSome (f x) P) → IfSome d P → IfSome (option_map_or f o d) P
mapped_or f None d P h k = k
mapped_or f (Some x) d P h k = h x

pub mapped : {A B : Type 0} (f : A → B) (o : Option A) (P : B → Type 0) → IfSome o (λ x. P (f x)) → IfSome (option_map f o) P
mapped f None P h = tt
mapped f (Some x) P h = h

pub chained : {A B : Type 0} (f : A → Option B) (o : Option A) (P : B → Type 0) → IfSome o (λ x. IfSome (f x) P) → IfSome (option_and_then f o) P
chained f None P h = tt
chained f (Some x) P h = h

pub every : {A : Type 0} (o : Option A) (P : A → Type 0) → ((x : A) → P x) → IfSome o P
every None P h = tt
every (Some x) P h = h x

pub weaken : {A : Type 0} (o : Option A) (P Q : A → Type 0) → ((x : A) → P x → Q x) → IfSome o P → IfSome o Q
weaken None P Q f h = tt
weaken (Some x) P Q f h = f x h

pub of_some : {A : Type 0} (o : Option A) (x : A) (P : A → Type 0) → IfSome o P → o ≡ Some x → P x
of_some None x P h e = absurd (cc)
of_some (Some y) x P h e = let same : y ≡ x = cc in subst P same h

pub none_if : {A : Type 0} (o : Option A) (P : A → Type 0) → o ≡ None → IfSome o P
none_if None P e = tt
none_if (Some x) P e = absurd (cc)

-- ---- Numbers between two others.

abbrev pub Between : ℕ → ℕ → ℕ → Type 0
Between least most n = (least ≤ n) × (n ≤ most)

between_here : (least most n : ℕ) → IfSome (if_between least most n) (Between least most)
between_here least most n =
    either (nat_le least n && nat_le n most) (Some n) None (Between least most)
    (λ is. let p = and_parts (nat_le least n) (nat_le n most) is in (leb-true least n p.0, leb-true n most p.1))
    (λ is. tt)

pub between : (least most : ℕ) (word : List ℕ) → IfSome (number_between least most word) (Between least most)
unfolding number_from
between least most word =
    chained (if_between least most) (number_of word) (Between least most)
    (every (number_of word) _ (between_here least most))

-- ---- The limit of expansions.

abbrev pub Within : ℕ → Type 0
Within n = Between 1 10000000 n

abbrev pub Fits : Asked → Type 0
Fits a = IfSome a.limit Within

unless : {X : Type 0} (before : Option X) (o : Option Asked) (P : Asked → Type 0) → IfSome o P → IfSome (unless_given before o) P
unless None o P h = h
unless (Some x) o P h = tt

-- what a value of an option leads to: it keeps the limit, asks for no thread, and no value is awaited behind it
abbrev pub Follows : Asked → Asked → Type 0
Follows a b = Fits b × (b.one ≡ a.one) × (b.awaited ≡ None)

-- the laws of an option, by what a value leads to, and what `--` leads to
pub record IsOption (a : Asked) (taken dashes : Option Asked) : Type 0 where
  pub follows : Fits a → IfSome taken (Follows a)
  pub refused : dashes ≡ None

not_given : {X : Type 0} (before : Option X) → unless_given before None ≡ None
not_given None = refl
not_given (Some x) = refl

pub limit_option : (a : Asked) (word : List ℕ) → IsOption a (with_limit a word) (with_limit a (codes "--"))
unfolding number_from
limit_option a word = record {
  follows = λ fits. unless a.limit _ (Follows a) (mapped _ (number_between 1 10000000 word) (Follows a)
      (weaken (number_between 1 10000000 word) Within _ (λ m h. (h, refl, refl)) (between 1 10000000 word)));
  refused = not_given a.limit;
}

pub workers_option : (a : Asked) (word : List ℕ) → IsOption a (with_workers a word) (with_workers a (codes "--"))
unfolding number_from
workers_option a word = record {
  follows = λ fits. unless a.workers _ (Follows a) (mapped _ (number_between 1 16 word) (Follows a) (every (number_between 1 16 word) _ (λ n. (fits, refl, refl))));
  refused = not_given a.workers;
}

pub heuristic_option : (a : Asked) (word : List ℕ) → IsOption a (with_heuristic a word) (with_heuristic a (codes "--"))
heuristic_option a word = record {
  follows = λ fits. unless a.heuristic _ (Follows a) (mapped _ (choice_of word) (Follows a) (every (choice_of word) _ (λ n. (fits, refl, refl))));
  refused = not_given a.heuristic;
}

pub value_option : (a : Asked) (option : Valued) (word : List ℕ) → IsOption a (with_value a option word) (with_value a option (codes "--"))
value_option a Limit word = limit_option a word
value_option a Heuristic word = heuristic_option a word
value_option a Workers word = workers_option a word
