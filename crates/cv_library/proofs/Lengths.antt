-- Bytes have no more tokens than they are, and the end; a file that is expanded has few, too.
use Rattle.std.proofs.Common.{◌≡◌, ℕ, zero, suc, ◌+◌, ◌-◌, ◌≤◌, Bool, true, false, nat_lt, if◌then◌else◌, List, [], ◌∷◌, length, refl, ap, arith, Option, Some, None, Result, Ok, Err}
use Rattle.std.proofs.lemmas.Bool.Decides.{nat_tests}
use Rattle.cv_lex.specs.declared.LexError.{LexError}
use Rattle.cv_lex.specs.declared.scan.Piece.{Piece}
use Rattle.cv_lex.specs.declared.scan.Piece.TheVariants.{Nothing, Between, Lexeme, OpenComment, WideNumber, ForeignByte}
use Rattle.cv_lex.specs.Lexis.{Token, put, one, lexed, piece, tokens_of}
use Rattle.cv_lex.proofs.Exact.{said}
use Rattle.cv_library.specs.declared.error.ExpandError.{ExpandError}
use Rattle.cv_library.specs.declared.error.ExpandError.TheVariants as expand
use Rattle.cv_library.specs.Expansions.{by_fault, first_fault, most_tokens, written}
use Rattle.cv_library.specs.Givens.{AreGiven, Given, alone, by_library}
use Rattle.cv_library.specs.Uses.{uses_of}

put_few : (n : ℕ) (t : Token) (r : Result (List Token) LexError) (ts : List Token) → ((us : List Token) → r ≡ Ok us → length us ≤ n) → put t r ≡ Ok ts → length ts ≤ suc n
put_few n t (Ok us) ts h e = let f : t ∷ us ≡ ts = cc in let l = h us refl in let m = ap length f in omega arith
put_few n t (Err x) ts h e = absurd (cc)

one_few : (n : ℕ) (behind : ℕ → List ℕ → Result (List Token) LexError) (k : ℕ) (bs : List ℕ) (p : Piece) (ts : List Token) → ((j : ℕ) (cs : List ℕ) (us : List Token) → behind j cs ≡ Ok us → length us ≤ n) → one behind k bs p ≡ Ok ts → length ts ≤ suc n
one_few n behind k bs Nothing (t ∷ []) h e = omega arith
one_few n behind k bs Nothing [] h e = omega arith
one_few n behind k bs Nothing (t ∷ u ∷ ts) h e = absurd (cc)
one_few n behind k bs (Between m) ts h e = let l = h _ _ ts e in omega arith
one_few n behind k bs (Lexeme kind m) ts h e = put_few n _ _ ts (λ us f. h _ _ us f) e
one_few n behind k bs OpenComment ts h e = absurd (cc)
one_few n behind k bs WideNumber ts h e = absurd (cc)
one_few n behind k bs ForeignByte ts h e = absurd (cc)

lexed_few : (n k : ℕ) (bs : List ℕ) (ts : List Token) → lexed n k bs ≡ Ok ts → length ts ≤ n
unfolding lexed
lexed_few zero k bs ts e = absurd (cc)
lexed_few (suc n) k bs ts e = one_few n (lexed n) k bs (piece bs) ts (λ j cs us f. lexed_few n j cs us f) e

pub few_tokens : (bs : List ℕ) (ts : List Token) → tokens_of bs ≡ Ok ts → length ts ≤ length bs + 1
few_tokens bs ts e = let l = lexed_few (suc (length bs)) 0 bs ts e in omega arith

few_limited : (us ts : List Token) (v : Bool) → nat_lt most_tokens (length us - 1) ≡ v → (if v then Err (expand.Tokens (length us - 1)) else Ok us) ≡ Ok ts → length ts ≤ 1048577
few_limited us ts true h e = absurd (cc)
few_limited us ts false h e = let same : us ≡ ts = cc in let n = ap length same in grind (arith, nat_tests)

few_expanded : (us ts : List Token) (o : Option ExpandError) → by_fault us o ≡ Ok ts → length ts ≤ 1048577
few_expanded us ts None e = few_limited us ts (nat_lt most_tokens (length us - 1)) refl e
few_expanded us ts (Some x) e = absurd (cc)

pub few_given : (g : Given) (ts : List Token) → length g.bytes ≤ 1048576 → AreGiven g ts → length ts ≤ 1048577
few_given g ts h (alone {bytes = bytes} d) = omega (arith, few_tokens bytes ts (said bytes (Ok ts) d))
few_given g ts h (by_library {ts = us} {ds = ds} d f l x) = few_expanded (written ds us 0 1 (uses_of us)) ts (first_fault ds us (uses_of us)) x

pub ruleset lengths = (few_tokens)
