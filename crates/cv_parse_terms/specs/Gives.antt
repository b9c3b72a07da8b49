-- What a reader of the code gives, by what the grammar reads at its place. This profile's own.
use Rattle.std.specs.Prelude.{ℕ, zero, suc, Bool, false, true, ◌-◌, ◌+◌, ◌<◌, ◌≤◌, ◌≡◌, List, [], length, drop, ◌++◌, ◌∷◌, map, flat_map, Option, Some, None, Result, Ok, Err}
use Rattle.std.specs.declared.vec.Vec.{Vec}
use Rattle.std.specs.declared.alloc.Global.{Global}
use Rattle.cv_syntax_trees.specs.Tree.{Tree}
use Rattle.cv_syntax.specs.Postorder.{postorder}
use Rattle.cv_syntax.specs.declared.make.Make.{Make}
use Rattle.cv_parse_notation.specs.declared.sign.Sign.{Sign}
use Rattle.cv_parse_notation.specs.declared.sign.Sign.TheVariants as token
use Rattle.cv_parse_notation.specs.declared.sign.Mark.{Mark}
use Rattle.cv_parse_notation.specs.Spells.{Use, used, next_is, is_mark}
use Rattle.cv_parse_notation.specs.Reads.{Read, Syntax, Nesting, found, pick, no_level, no_syntax, read_sign, reads, read_sort, too_deep}
use Rattle.cv_parse_grammar.specs.declared.role.Role.{Role}
use Rattle.cv_parse_grammar.specs.Marks.{marked_rule}
use Rattle.cv_parse_grammar.specs.Phrases.{Sort, Phrase}
use Rattle.cv_parse_grammar.specs.Rules.{rule, heads}
use Rattle.cv_parse_terms.specs.declared.trail.NameUse.{NameUse}
use Rattle.cv_parse_terms.specs.declared.trail.Trail.{Trail}
use Rattle.cv_parse_terms.specs.declared.lookahead.ReadError.{ReadError}
use Rattle.cv_parse_terms.specs.declared.lookahead.ReadError.TheVariants as error

abbrev pub use_of : NameUse → Use Role
use_of u = record { role = u.role; name = u.name; left = u.left }

abbrev pub uses_of : List NameUse → List (Use Role)
uses_of us = map use_of us

-- the value of a token, where it is of the kind
abbrev pub word_in : Sign → Option ℕ
word_in (token.Word x w) = Some x
word_in t = None

abbrev pub number_in : Sign → Option ℕ
number_in (token.Number v) = Some v
number_in t = None

abbrev pub find_in : Sign → Option ℕ
find_in (token.Find k) = Some k
find_in t = None

abbrev pub unnamed_in : Sign → Option ℕ
unnamed_in (token.Unnamed x) = Some x
unnamed_in t = None

-- the value of the token that stands first
abbrev pub next_value : (Sign → Option ℕ) → List Sign → Option ℕ
next_value v [] = None
next_value v (t ∷ ts) = v t

-- a level is left
abbrev pub positive : ℕ → Bool
positive zero = false
positive (suc n) = true

-- what reads a sort one level below, with n levels left, by the rows of the sorts
abbrev pub below_by : (Sort → Phrase Tree) → ℕ → Sort → List Sign → Read Role Tree
below_by rows zero s ts = too_deep heads s ts
below_by rows (suc n) s ts = read_sort heads rows n s ts

-- what a form reads with n levels left
abbrev pub read_by : {A : Type 0} → (Sort → Phrase Tree) → ℕ → Phrase A → List Sign → Read Role A
read_by rows n f ts = reads heads (positive n) (below_by rows n) f ts

-- the same in files

abbrev pub below : ℕ → Sort → List Sign → Read Role Tree
below = below_by rule

abbrev pub read_in : {A : Type 0} → ℕ → Phrase A → List Sign → Read Role A
read_in = read_by rule

-- and in scripts, where names may have marks

abbrev pub below_marked : ℕ → Sort → List Sign → Read Role Tree
below_marked = below_by marked_rule

abbrev pub read_marked : {A : Type 0} → ℕ → Phrase A → List Sign → Read Role A
read_marked = read_by marked_rule

-- what a note reads: no token
abbrev pub read_note : Role → List Sign → Read Role ℕ
read_note r ts = found (length ts) (used r 0 ts) ts

-- The error is the fault that was read, at its place among all tokens; memory may run out anywhere.
abbrev pub Fails : {A : Type 0} → List Sign → ReadError → Read Role A → Type 0
Fails all (error.Syntax k) read = (k ≤ length all) × (read ≡ Err (Syntax (length all - k)))
Fails all (error.Nesting k) read = (k ≤ length all) × (read ≡ Err (Nesting (length all - k)))
Fails all error.OutOfMemory read = Unit {0}

-- A value was read up to a place, and its uses of names were noted.
pub record IsRead {A : Type 0} (all : List Sign) (old new : List NameUse) (read : Read Role A) (value : A) (end : ℕ) : Type 0 where
  pub uses : List (Use Role)
  pub is : read ≡ Ok (record { value = value; uses = uses; rest = drop end all })
  pub noted : uses_of new ≡ uses_of old ++ uses
  pub within : end ≤ length all

abbrev pub Gives : {A : Type 0} → List Sign → List NameUse → List NameUse → Result (A × ℕ) ReadError → Read Role A → Type 0
Gives all old new (Ok x) read = IsRead all old new read x.0 x.1
Gives all old new (Err e) read = Fails all e read

-- the same for a list
abbrev pub GivesList : {A : Type 0} → List Sign → List NameUse → List NameUse → Result (Vec A Global × ℕ) ReadError → Read Role (List A) → Type 0
GivesList all old new (Ok x) read = IsRead all old new read x.0.items x.1
GivesList all old new (Err e) read = Fails all e read

-- A value was read up to a place, and no name was used.
pub record IsPlain {A : Type 0} (all : List Sign) (read : Read Role A) (value : A) (end : ℕ) : Type 0 where
  pub is : read ≡ found value [] (drop end all)
  pub within : end ≤ length all

abbrev pub GivesPlain : {A : Type 0} → List Sign → Result (A × ℕ) ReadError → Read Role A → Type 0
GivesPlain all (Ok x) read = IsPlain all read x.0 x.1
GivesPlain all (Err e) read = Fails all e read

-- tokens without a value
abbrev pub Passes : List Sign → Result ℕ ReadError → Read Role (Unit {0}) → Type 0
Passes all (Ok end) read = IsPlain all read tt end
Passes all (Err e) read = Fails all e read

-- this word or symbol stands at the place
abbrev pub IsSign : List Sign → Mark → ℕ → Type 0
IsSign all m at = read_sign {R = Role} m (drop at all) ≡ found tt [] (drop (at + 1) all)

-- a word or symbol at a place, and the place behind it
abbrev pub Stands : List Sign → Mark → ℕ → ℕ → Type 0
Stands all m at k = (k ≡ at + 1) × (k ≤ length all) × IsSign all m at

-- A value was read up to a place; its uses of names were noted, and its parts were made.
pub record IsMade {A : Type 0} (emit : A → List Make) (all : List Sign) (old new : Trail) (reading : Read Role A) (end : ℕ) : Type 0 where
  pub value : A
  pub read : IsRead all old.uses.items new.uses.items reading value end
  pub makes : new.makes.items ≡ old.makes.items ++ emit value

abbrev pub Makes : {A : Type 0} → (A → List Make) → List Sign → Trail → Trail → Result ℕ ReadError → Read Role A → Type 0
Makes emit all old new (Ok end) read = IsMade emit all old new read end
Makes emit all old new (Err e) read = Fails all e read

-- the parts of a pair of trees
abbrev pub parts_of_both : Tree × Tree → List Make
parts_of_both p = postorder p.0 ++ postorder p.1

-- So many phrases were read, and their trees were made, one after another.
pub record IsRow (all : List Sign) (old new : Trail) (reading : Read Role (List Tree)) (count end : ℕ) : Type 0 where
  pub value : List Tree
  pub read : IsRead all old.uses.items new.uses.items reading value end
  pub makes : new.makes.items ≡ old.makes.items ++ flat_map postorder value
  pub many : count ≡ length value

abbrev pub MakesRow : List Sign → Trail → Trail → Result (ℕ × ℕ) ReadError → Read Role (List Tree) → Type 0
MakesRow all old new (Ok x) read = IsRow all old new read x.0 x.1
MakesRow all old new (Err e) read = Fails all e read

-- an opening bracket, which wants a level
abbrev pub read_opening : Mark → ℕ → List Sign → Read Role (Unit {0})
read_opening m n ts = pick (positive n) (read_sign m) (pick (next_is (is_mark m) ts) no_level no_syntax) ts

pub record Opens (all : List Sign) (m : Mark) (n at end : ℕ) : Type 0 where
  pub room : 0 < n
  pub next : end ≡ at + 1
  pub within : end ≤ length all
  pub sign : IsSign all m at

-- no level is left for a phrase, which begins here or doesn't
abbrev pub Shallow : List Sign → ReadError → Bool → ℕ → Type 0
Shallow all e begins at = Fails {A = Tree} all e (pick begins no_level no_syntax (drop at all))
