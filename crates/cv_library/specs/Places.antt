-- Where definitions and uses stand among tokens, and what a library that was read keeps.
use Rattle.std.specs.Prelude.{◌≡◌, ℕ, ◌+◌, ◌<◌, ◌≤◌, List, [], ◌∷◌, length, map, All, None, Err}
use Rattle.cv_lex.specs.Lexis.{Token}
use Rattle.cv_library.specs.declared.error.LibraryError.{LibraryError}
use Rattle.cv_library.specs.declared.error.LibraryError.TheVariants.{OutOfMemory}
use Rattle.cv_library.specs.declared.forms.Place.{Place}
use Rattle.cv_library.specs.declared.uses.Use.{Use}
use Rattle.cv_library.specs.Libraries.{places_of, name_at, repeat_at}

-- the definition stands among the tokens before the last
pub record IsInside (ts : List Token) (p : Place) : Type 0 where
  pub head : p.word + 3 < p.brace
  pub body : p.brace < p.end
  pub last : p.end < length ts

-- the tokens don't have the form of a library, and this says so
abbrev pub MissesForm : LibraryError → List Token → Type 0
MissesForm OutOfMemory ts = Unit {0}
MissesForm e ts = places_of ts ≡ Err e

-- the use stands among the tokens before the last, from a token on
pub record IsUseInside (ts : List Token) (from : ℕ) (u : Use) : Type 0 where
  pub word : from ≤ u.word
  pub head : u.word + 3 < u.dot
  pub last : u.dot + 1 < length ts

-- each use stands behind the one before
abbrev pub AreInOrder : List Token → (from : ℕ) → List Use → Type 0
AreInOrder ts from [] = Unit {0}
AreInOrder ts from (u ∷ us) = IsUseInside ts from u × AreInOrder ts (u.dot + 1) us

-- what a library that was read keeps: its definitions stand among its tokens, its names are theirs, and no parameter repeats
pub record IsKept (ts : List Token) (ps : List Place) (names : List (List ℕ)) : Type 0 where
  pub inside : All (IsInside ts) ps
  pub names_are : names ≡ map (name_at ts) ps
  pub apart : All (λ p. repeat_at ts p ≡ None) ps
