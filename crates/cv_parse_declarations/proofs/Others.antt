-- A token of a proof block that is no brace.
use Rattle.std.proofs.Common.{◌≡◌, ℕ, zero, suc, ◌+◌, ◌<◌, ◌≤◌, Bool, true, false, not, ◌||◌, ◌⊎◌, inl, inr, List, [], ◌∷◌, length, drop, refl, ap, ◌∙◌, arith, length-drop, Err}
use Rattle.cv_parse_notation.specs.declared.sign.Sign.{Sign}
use Rattle.cv_parse_notation.specs.declared.sign.Mark.TheVariants as mark
use Rattle.cv_parse_notation.specs.Spells.{is_mark, kind_of, next_is}
use Rattle.cv_parse_notation.specs.Reads.{Syntax, found, no_syntax, pick, read_other}
use Rattle.cv_parse_grammar.specs.declared.role.Role.{Role}
use Rattle.cv_parse_terms.specs.declared.lookahead.ReadError.TheVariants as error
use Rattle.cv_parse_terms.specs.Gives.{Fails, IsPlain}
use Rattle.cv_parse_terms.proofs.Places.{drop_one, fault_at}

no_brace : (a b : Bool) → a ≡ false → b ≡ false → not (a || b) ≡ true
no_brace false false h k = refl
no_brace true b h k = absurd (cc)
no_brace false true h k = absurd (cc)

some_brace : (a b : Bool) → (a ≡ true) ⊎ (b ≡ true) → not (a || b) ≡ false
some_brace true b h = refl
some_brace false true h = refl
some_brace false false (inl h) = absurd (cc)
some_brace false false (inr h) = absurd (cc)

other_read : (ts : List Sign) → 0 < length ts → next_is (is_mark mark.OpenBrace) ts ≡ false → next_is (is_mark mark.CloseBrace) ts ≡ false → read_other {R = Role} ts ≡ found tt [] (drop 1 ts)
other_read [] l h k = absurd (omega arith)
other_read (t ∷ ts) l h k = ap (λ b. pick b (λ us. found tt [] ts) no_syntax (t ∷ ts)) (no_brace (is_mark mark.OpenBrace (kind_of t)) (is_mark mark.CloseBrace (kind_of t)) h k)

other_fails : (ts : List Sign) → (next_is (is_mark mark.OpenBrace) ts ≡ true) ⊎ (next_is (is_mark mark.CloseBrace) ts ≡ true) → read_other {R = Role} ts ≡ Err (Syntax (length ts))
other_fails [] h = refl
other_fails (t ∷ ts) h = ap (λ b. pick b (λ us. found tt [] ts) no_syntax (t ∷ ts)) (some_brace (is_mark mark.OpenBrace (kind_of t)) (is_mark mark.CloseBrace (kind_of t)) h)

other_ends : (at : ℕ) (all : List Sign) → length all ≤ at → read_other {R = Role} (drop at all) ≡ Err (Syntax (length (drop at all)))
other_ends zero [] h = refl
other_ends (suc n) [] h = refl
other_ends zero (t ∷ ts) h = absurd (omega arith)
other_ends (suc n) (t ∷ ts) h = other_ends n ts (omega arith)

pub other_gives : (at : ℕ) (all : List Sign) → at < length all → next_is (is_mark mark.OpenBrace) (drop at all) ≡ false → next_is (is_mark mark.CloseBrace) (drop at all) ≡ false → IsPlain all (read_other (drop at all)) tt (at + 1)
other_gives at all l h k = record {
  is = other_read (drop at all) (let e = length-drop at all in omega arith) h k ∙ ap (λ ts. found tt [] ts) (drop_one at all);
  within = omega arith;
}

pub other_past : (at : ℕ) (all : List Sign) → at ≤ length all → length all ≤ at → Fails all (error.Syntax at) (read_other (drop at all))
other_past at all l h = fault_at at all (read_other (drop at all)) l (other_ends at all h)

pub brace_opens : (at : ℕ) (all : List Sign) → at ≤ length all → next_is (is_mark mark.OpenBrace) (drop at all) ≡ true → Fails all (error.Syntax at) (read_other (drop at all))
brace_opens at all l h = fault_at at all (read_other (drop at all)) l (other_fails (drop at all) (inl h))

pub brace_closes : (at : ℕ) (all : List Sign) → at ≤ length all → next_is (is_mark mark.CloseBrace) (drop at all) ≡ true → Fails all (error.Syntax at) (read_other (drop at all))
brace_closes at all l h = fault_at at all (read_other (drop at all)) l (other_fails (drop at all) (inr h))

pub ruleset others = (other_gives, other_past, brace_opens, brace_closes)
