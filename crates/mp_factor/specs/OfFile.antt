-- What is said of domains and of problems, by which of an agent's two files it is.
use Rattle.std.specs.Prelude.{ℕ, List, codes}
use Rattle.mp_forms.specs.declared.files.File.{File}
use Rattle.mp_forms.specs.declared.files.File.TheVariants.{Domain, Problem}
use Rattle.mp_forms.specs.Rules.Sections.{domain_words, problem_words}

-- the words that begin its sections, and those that begin the sections of the other file
abbrev pub own_words : File → List (List ℕ)
own_words Domain = domain_words
own_words Problem = problem_words

abbrev pub other_words : File → List (List ℕ)
other_words Domain = problem_words
other_words Problem = domain_words

abbrev pub kind_word : File → List ℕ
kind_word Domain = codes "domain"
kind_word Problem = codes "problem"
