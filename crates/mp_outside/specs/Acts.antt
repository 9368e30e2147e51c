-- What is done at a source, where it tells: files are begun, and reads take bytes of them.
use Rattle.std.specs.Prelude.{◌≡◌, ◌≤◌, ◌⊎◌, ◌+◌, ℕ, List, [], ◌∷◌, ◌++◌, map, Option, Some, None, ⊤}
use Rattle.std.specs.List.{sum}

-- a file was begun under a name, or a read took so many bytes of it
pub data Act : Type 0 where
  began : List ℕ → Act
  took : ℕ → Act

-- Such acts were done since, where the source still tells. One that tells nothing goes on so.
abbrev pub Does : (List Act → Type 0) → Option (List Act) → Option (List Act) → Type 0
Does Such None new = new ≡ None
Does Such (Some old) None = ⊤
Does Such (Some old) (Some new) = (acts : List Act) × (new ≡ old ++ acts) × Such acts

-- the file of this name was begun, and no more
abbrev pub Begins : List ℕ → List Act → Type 0
Begins name acts = acts ≡ began name ∷ []

-- one read took so many bytes
abbrev pub Takes : ℕ → List Act → Type 0
Takes count acts = acts ≡ took count ∷ []

-- one read took at most so many
abbrev pub TakesUpTo : ℕ → List Act → Type 0
TakesUpTo most acts = (count : ℕ) × (count ≤ most) × Takes count acts

-- each of these but the last is at least 1
abbrev pub AreSomeButLast : List ℕ → Type 0
AreSomeButLast [] = ⊤
AreSomeButLast (count ∷ []) = ⊤
AreSomeButLast (count ∷ next ∷ counts) = (1 ≤ count) × AreSomeButLast (next ∷ counts)

-- reads took at most so many bytes together, and each read but the last took at least one
pub record AreReads (most : ℕ) (acts : List Act) : Type 0 where
  pub counts : List ℕ
  pub acts_are : acts ≡ map took counts
  pub at_most : sum counts ≤ most
  pub some : AreSomeButLast counts

-- a file that is asked for, and how many bytes it may have
pub record FileAsked : Type 0 where
  pub name : List ℕ
  pub longest : ℕ

-- The file was begun and read once, up to at most one byte past its limit; or it was not begun.
abbrev pub IsReadOnce : FileAsked → List Act → Type 0
IsReadOnce file acts =
    (acts ≡ []) ⊎ ((reads : List Act) × (acts ≡ began file.name ∷ reads) × AreReads (file.longest + 1) reads)

-- so it is with each of these files, one after another, and nothing else was done
abbrev pub AreReadInTurn : List FileAsked → List Act → Type 0
AreReadInTurn [] acts = acts ≡ []
AreReadInTurn (file ∷ files) acts =
    (one : List Act) × (others : List Act)
    × (acts ≡ one ++ others) × IsReadOnce file one × AreReadInTurn files others
