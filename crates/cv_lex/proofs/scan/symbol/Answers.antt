use Rattle.std.proofs.Common.{◌≡◌, ℕ, zero, suc, ap, sym, ◌∙◌}
use Rattle.cv_lex.specs.declared.TokenKind.TheVariants.{Symbol}
use Rattle.cv_lex.specs.declared.scan.Piece.TheVariants.{Lexeme}
use Rattle.cv_lex.specs.Symbols.{symbol_len}
use Rattle.cv_lex.specs.Lexis.{a_symbol, longest, symbols}
use Rattle.cv_lex.proofs.SymbolTable.{longest_is}
use Rattle.cv_lex.proofs.scan.symbol.Goals as goal
use Rattle.cv_lex.proofs.scan.symbol.Goals.{After-symbol_len-len}

-- a length other than 0 is that of a symbol
found : (n m : ℕ) → n ≡ m → (n ≡ 0 → ⊥) → Lexeme Symbol n ≡ a_symbol m
found n zero e other = absurd (other e)
found n (suc m) e other = ap (Lexeme Symbol) e

-- the length is that of the longest symbol
length_is : (c : After-symbol_len-len) → c.symbol_len-len.result ≡ longest symbols c.args.bytes.now
length_is c = c.symbol_len-len.ensures ∙ (λ i. symbol_len (c.byte_at.ensures i) (c.byte_at-2.ensures i) (c.byte_at-3.ensures i)) ∙ sym (longest_is c.args.bytes.now)

pub returns-then-len-eq0 : goal.returns-then-len-eq0
returns-then-len-eq0 c =
    let none : 0 ≡ longest symbols c.args.bytes.now = sym c.if-len-eq0.true ∙ length_is (goal.at.returns-then-len-eq0 c).After-symbol_len-len in
    ap a_symbol none

pub returns-else-len-eq0 : goal.returns-else-len-eq0
returns-else-len-eq0 c = found _ _ (length_is (goal.at.returns-else-len-eq0 c).After-symbol_len-len) c.if-len-eq0.false
