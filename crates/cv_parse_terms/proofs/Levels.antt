-- Levels, and choices by the next token.
use Rattle.std.proofs.Common.{◌≡◌, ℕ, zero, suc, ◌-◌, ◌<◌, ◌≤◌, Bool, true, false, List, length, drop, refl, ap, arith, subst, length-drop, Err}
use Rattle.cv_syntax_trees.specs.Tree.{Tree}
use Rattle.cv_parse_notation.specs.declared.sign.Sign.{Sign}
use Rattle.cv_parse_notation.specs.declared.sign.Mark.{Mark}
use Rattle.cv_parse_notation.specs.Spells.{next_is, is_mark}
use Rattle.cv_parse_notation.specs.Form.{level}
use Rattle.cv_parse_notation.specs.Reads.{Read, Reader, Syntax, Nesting, pick, no_syntax, no_level, read_sign, read_sort, too_deep}
use Rattle.cv_parse_terms.specs.declared.lookahead.ReadError.{ReadError}
use Rattle.cv_parse_terms.specs.declared.lookahead.ReadError.TheVariants as error
use Rattle.cv_parse_grammar.specs.declared.role.Role.{Role}
use Rattle.cv_parse_grammar.specs.Phrases.{Phrase, Sort}
use Rattle.cv_parse_grammar.specs.Rules.{heads}
use Rattle.cv_parse_terms.specs.Gives.{Fails, positive, below, below_by, read_by, read_opening, Shallow}

pub room : (n : ℕ) → 0 < n → positive n ≡ true
room zero h = absurd (omega arith)
room (suc n) h = refl

pub no_room : (n : ℕ) → n ≤ 0 → positive n ≡ false
no_room zero h = refl
no_room (suc n) h = absurd (omega arith)

-- a choice is the one or the other
pub fails_first : {A : Type 0} (all : List Sign) (e : ReadError) (b : Bool) (p q : Reader Role A) (ts : List Sign) → b ≡ true → Fails all e (p ts) → Fails all e (pick b p q ts)
fails_first all e true p q ts h d = d
fails_first all e false p q ts h d = absurd (cc)

pub fails_second : {A : Type 0} (all : List Sign) (e : ReadError) (b : Bool) (p q : Reader Role A) (ts : List Sign) → b ≡ false → Fails all e (q ts) → Fails all e (pick b p q ts)
fails_second all e true p q ts h d = absurd (cc)
fails_second all e false p q ts h d = d

-- faults without a level
pub too_deep_here : {A : Type 0} (all : List Sign) (at : ℕ) (b : Bool) → at ≤ length all → b ≡ true → Fails {A = A} all (error.Nesting at) (pick b no_level no_syntax (drop at all))
too_deep_here all at true l h = (l, ap (λ n. let r : Read Role _ = Err (Nesting n) in r) (length-drop at all))
too_deep_here all at false l h = absurd (cc)

pub not_here : {A : Type 0} (all : List Sign) (at : ℕ) (b : Bool) → at ≤ length all → b ≡ false → Fails {A = A} all (error.Syntax at) (pick b no_level no_syntax (drop at all))
not_here all at true l h = absurd (cc)
not_here all at false l h = (l, ap (λ n. let r : Read Role _ = Err (Syntax n) in r) (length-drop at all))

-- one level down is the sort's own form with a level less
pub below_is : (rows : Sort → Phrase Tree) (n m : ℕ) (s : Sort) (ts : List Sign) → n ≡ suc m → below_by rows n s ts ≡ read_by rows m (rows s) ts
unfolding read_sort
below_is rows zero m s ts h = absurd (cc)
below_is rows (suc zero) zero s ts h = refl
below_is rows (suc zero) (suc m) s ts h = absurd (omega arith)
below_is rows (suc (suc n)) zero s ts h = absurd (omega arith)
below_is rows (suc (suc n)) (suc m) s ts h = let e : n ≡ m = omega arith in subst (λ k. below_by rows (suc (suc n)) s ts ≡ read_by rows (suc k) (rows s) ts) e refl

pub fails_below : (all : List Sign) (e : ReadError) (n : ℕ) (s : Sort) (ts : List Sign) → n ≤ 0 → Fails all e (too_deep heads s ts) → Fails all e (below n s ts)
fails_below all e zero s ts h d = d
fails_below all e (suc n) s ts h d = absurd (omega arith)

pub shallow_below : (all : List Sign) (e : ReadError) (at n : ℕ) (s : Sort) (b : Bool) → n ≤ 0 → b ≡ next_is (heads s) (drop at all) → Shallow all e b at → Fails all e (below n s (drop at all))
shallow_below all e at n s b l h d = fails_below all e n s (drop at all) l (subst (λ c. Shallow all e c at) h d)

pub opening_too_deep : (all : List Sign) (m : Mark) (at n : ℕ) → at ≤ length all → n ≤ 0 → next_is (is_mark m) (drop at all) ≡ true → Fails all (error.Nesting at) (read_opening m n (drop at all))
opening_too_deep all m at n l h e = fails_second all (error.Nesting at) (positive n) (read_sign m) (pick (next_is (is_mark m) (drop at all)) no_level no_syntax) (drop at all) (no_room n h) (too_deep_here all at (next_is (is_mark m) (drop at all)) l e)

pub opening_missing : (all : List Sign) (m : Mark) (at n : ℕ) → at ≤ length all → n ≤ 0 → next_is (is_mark m) (drop at all) ≡ false → Fails all (error.Syntax at) (read_opening m n (drop at all))
opening_missing all m at n l h e = fails_second all (error.Syntax at) (positive n) (read_sign m) (pick (next_is (is_mark m) (drop at all)) no_level no_syntax) (drop at all) (no_room n h) (not_here all at (next_is (is_mark m) (drop at all)) l e)

pub ruleset levels = (opening_too_deep, opening_missing, room, no_room, fails_first, fails_second, too_deep_here, not_here, fails_below, shallow_below)
