-- Each byte of a file with one query alone is that of the file, or a space.
use Rattle.std.proofs.Common.{◌≡◌, ◌⊎◌, inl, inr, ℕ, ◌+◌, ◌<◌, Bool, true, false, if◌then◌else◌, List, length, get_or, Result, Ok, Err, refl}
use Rattle.cv_lex.specs.Lexis.{Token, tokens_of}
use Rattle.cv_lex.specs.declared.LexError.{LexError}
use Rattle.cv_alone.specs.Alone.{alone, alone_by, has_query, with_spaces}
use Rattle.cv_alone.specs.Parts.{tokens_left_out}
use Rattle.cv_alone.proofs.Spacing.{Test, at_spaced, in_line, length_spaced, of}

length_chosen : (b : Bool) (p q : Test) (bs : List ℕ) → length (if b then with_spaces p bs else with_spaces q bs) ≡ length bs
length_chosen true p q bs = length_spaced p 0 bs
length_chosen false p q bs = length_spaced q 0 bs

length_by : (k : ℕ) (bs : List ℕ) (r : Result (List Token) LexError) → length (alone_by k bs r) ≡ length bs
length_by k bs (Ok ts) = length_chosen (has_query k ts) (of (tokens_left_out k ts)) in_line bs
length_by k bs (Err e) = refl

pub length_alone : (k : ℕ) (bs : List ℕ) → length (alone k bs) ≡ length bs
length_alone k bs = length_by k bs (tokens_of bs)

abbrev IsOr : (a b : ℕ) → Type 0
IsOr a b = (a ≡ b) ⊎ (a ≡ 32)

put_is : (x : Bool) (a b : ℕ) → a ≡ (if x then 32 else b) → IsOr a b
put_is true a b e = inr e
put_is false a b e = inl e

at_chosen : (b : Bool) (p q : Test) (bs : List ℕ) (i : ℕ) → i < length bs → IsOr (get_or (if b then with_spaces p bs else with_spaces q bs) i 0) (get_or bs i 0)
at_chosen true p q bs i h = put_is (p (0 + i) (get_or bs i 0)) _ _ (at_spaced p 0 bs i h)
at_chosen false p q bs i h = put_is (q (0 + i) (get_or bs i 0)) _ _ (at_spaced q 0 bs i h)

at_by : (k : ℕ) (bs : List ℕ) (r : Result (List Token) LexError) (i : ℕ) → i < length bs → IsOr (get_or (alone_by k bs r) i 0) (get_or bs i 0)
at_by k bs (Ok ts) i h = at_chosen (has_query k ts) (of (tokens_left_out k ts)) in_line bs i h
at_by k bs (Err e) i h = inl refl

pub at_alone : (k : ℕ) (bs : List ℕ) (i : ℕ) → i < length bs → IsOr (get_or (alone k bs) i 0) (get_or bs i 0)
at_alone k bs i h = at_by k bs (tokens_of bs) i h
