-- What a request reads, where it is told.
use Rattle.std.proofs.Common.{◌≡◌, ◌<◌, ◌≤◌, ◌++◌, ℕ, List, [], ◌∷◌, length, Option, Some, None, ap, ap₂, sym, ◌∙◌, subst, arith, ◌⊎◌, inl, inr}
use Rattle.std.specs.Prelude.{IfSome, option_map}
use Rattle.cv_alone.specs.Alone.{alone}
use Rattle.cv_alone.proofs.Keeping.{length_alone}
use Rattle.cv_library.specs.Givens.{Given, given_by}
use Rattle.cv_outside.specs.Causes.{Rose}
use Rattle.cv_outside.specs.Told.{Files, bytes_of}
use Rattle.cv_accept.specs.Accepted.{most_bytes}
use Rattle.cv_outside.specs.words.Forms.{Text}
use Rattle.cv.specs.Words.{AreTold, AsksOnly, IsLong, IsShort, source_under, with_query, without_library}

-- what is read is what is told

pub told_without : (files : Option Files) (name : Text) (bytes : List ℕ) → IfSome files (λ fs. bytes ≡ bytes_of fs name) → AreTold (source_under files name None) (without_library bytes)
told_without None name bytes h = tt
told_without (Some fs) name bytes h = ap without_library (sym h)

pub told_both : (files mid : Option Files) (name library : Text) (bytes more : List ℕ) → mid ≡ files → IfSome files (λ fs. bytes ≡ bytes_of fs name) → IfSome mid (λ fs. more ≡ bytes_of fs library)
    → AreTold (source_under files name (Some library)) (record { bytes = bytes; library = Some more })
told_both files mid name library bytes more e h k = go files h (subst (λ (o : Option Files). IfSome o (λ fs. more ≡ bytes_of fs library)) e k)
  where
    go : (files : Option Files) → IfSome files (λ fs. bytes ≡ bytes_of fs name) → IfSome files (λ fs. more ≡ bytes_of fs library) → AreTold (source_under files name (Some library)) (record { bytes = bytes; library = Some more })
    go None h k = tt
    go (Some fs) h k = ap₂ (λ (b m : List ℕ). let g : Given = record { bytes = b; library = Some m } in g) (sym h) (sym k)

-- a file or a library that is too long

pub long_file : (files : Option Files) (name : Text) (library : Option Text) → IfSome files (λ fs. most_bytes < length (bytes_of fs name)) → IfSome (source_under files name library) IsLong
long_file None name library h = tt
long_file (Some fs) name library h = inl h

pub long_library : (files mid : Option Files) (name library : Text) → mid ≡ files → IfSome mid (λ fs. most_bytes < length (bytes_of fs library)) → IfSome (source_under files name (Some library)) IsLong
long_library files mid name library e k = go files (subst (λ (o : Option Files). IfSome o (λ fs. most_bytes < length (bytes_of fs library))) e k)
  where
    go : (files : Option Files) → IfSome files (λ fs. most_bytes < length (bytes_of fs library)) → IfSome (source_under files name (Some library)) IsLong
    go None k = tt
    go (Some fs) k = inr k

-- one query is asked alone

pub told_query : (query : Option ℕ) (told : Option Given) (source : Given) → AreTold told source → AreTold (option_map (with_query query) told) (with_query query source)
told_query query None source h = tt
told_query query (Some s) source h = ap (with_query query) h

pub short_query : (k : ℕ) (source : Given) → IsShort source → IsShort (with_query (Some k) source)
short_query k source h = record { file = subst (λ n. n ≤ most_bytes) (sym (length_alone k source.bytes)) h.file; library = h.library }

pub long_query : (query : Option ℕ) (told : Option Given) → IfSome told IsLong → IfSome (option_map (with_query query) told) IsLong
long_query query None h = tt
long_query None (Some source) h = h
long_query (Some k) (Some source) (inl l) = inl (subst (λ n. most_bytes < n) (sym (length_alone k source.bytes)) l)
long_query (Some k) (Some source) (inr l) = inr l

pub query_given : (k : ℕ) (bytes old : List ℕ) (library : Option (List ℕ)) → bytes ≡ alone k old → given_by bytes library ≡ with_query (Some k) (given_by old library)
query_given k bytes old library e = ap (λ (b : List ℕ). given_by b library) e

-- what is asked

pub asks_first : (name : Text) (names before after : List Text) → (after ≡ before) ⊎ (after ≡ before ++ name ∷ []) → AsksOnly (name ∷ names) before after
asks_first name names before after (inl e) = inl e
asks_first name names before after (inr e) = inr (inl e)

pub asks_both : (name library : Text) (before mid after : List Text) → mid ≡ before ++ name ∷ [] → (after ≡ mid) ⊎ (after ≡ mid ++ library ∷ []) → AsksOnly (name ∷ library ∷ []) before after
asks_both name library before mid after e (inl f) = inr (inl (f ∙ e))
asks_both name library before mid after e (inr f) = inr (inr (inl (f ∙ ap (λ ns. ns ++ library ∷ []) e)))

-- a fault of the second call is one since the first
pub rose_later : (before mid after : ℕ) → before ≤ mid → Rose mid after → Rose before after
rose_later before mid after l r = omega (arith, r)

pub ruleset sources = (told_without, told_both, told_query, short_query, long_query, long_file, long_library, asks_first, asks_both, rose_later)
