-- The table of scripts fits its notation: the next token always tells how a phrase goes on.
use Rattle.std.proofs.Common.{◌≡◌, ℕ, Bool, true, false, not, refl, eqb, eqb-true, sym, subst}
use Rattle.cv_syntax_trees.specs.Tree.{Tree}
use Rattle.cv_parse_notation.specs.declared.sign.Mark.TheVariants as mark
use Rattle.cv_parse_notation.specs.Form.{Form, deeper}
use Rattle.cv_parse_notation.specs.Fits.{fits, fitting}
use Rattle.cv_parse_notation.specs.Spells.{Kind, is_mark, is_steady}
use Rattle.cv_parse_grammar.specs.declared.role.Role.{Role}
use Rattle.cv_parse_grammar.specs.Marks.{marked_tails}
use Rattle.cv_parse_grammar.specs.Phrases.{Sort, Term, Conjunction, Primary, Unequal, Arguments, Subscript, Parentheses, Inputs, Input, Output, Pattern, Sending, Payload, Variables, Indices, ProcessBranch, Cells, OneCell, Body, BodyBranch, LeftFunction, RightFunction, RightRest, RightSide, Braces}
use Rattle.cv_parse_tables.specs.Table.{Nowhere, OfFiles, Row, TableSort, table_heads, table_rule}
use Rattle.cv_script.specs.rows.Rows.{script_rows}
use Rattle.cv_script_laws.specs.forms.Scripts.{script_form}

-- the one row that stands one level down: a line of a derivation
abbrev pub line_row : ℕ
line_row = 75

abbrev pub is_deep : TableSort → Bool
is_deep (Row r) = eqb r line_row
is_deep (OfFiles s) = true
is_deep Nowhere = true

-- the rules of these phrases alone
abbrev pub when_deep : Bool → TableSort → Form Role TableSort Tree
when_deep true s = table_rule script_rows s
when_deep false s = deeper Nowhere

abbrev pub deep_rule : TableSort → Form Role TableSort Tree
deep_rule s = when_deep (is_deep s) s

-- the tokens behind such a phrase that could belong to it; a line ends before a semicolon
abbrev pub deep_tails : TableSort → Kind → Bool
deep_tails (Row r) k = not (is_mark mark.Semicolon k)
deep_tails (OfFiles s) k = marked_tails s k
deep_tails Nowhere k = false

abbrev Fit : TableSort → Type 0
Fit s = fitting (table_heads script_rows) deep_tails deep_rule s ≡ true

line_fits : Fit (Row 75)
line_fits = refl

file_phrases_fit : (s : Sort) → Fit (OfFiles s)
file_phrases_fit Term = refl
file_phrases_fit Conjunction = refl
file_phrases_fit Primary = refl
file_phrases_fit Unequal = refl
file_phrases_fit Arguments = refl
file_phrases_fit Subscript = refl
file_phrases_fit Parentheses = refl
file_phrases_fit Inputs = refl
file_phrases_fit Input = refl
file_phrases_fit Output = refl
file_phrases_fit Pattern = refl
file_phrases_fit Sending = refl
file_phrases_fit Payload = refl
file_phrases_fit Variables = refl
file_phrases_fit Indices = refl
file_phrases_fit ProcessBranch = refl
file_phrases_fit Cells = refl
file_phrases_fit OneCell = refl
file_phrases_fit Body = refl
file_phrases_fit BodyBranch = refl
file_phrases_fit LeftFunction = refl
file_phrases_fit RightFunction = refl
file_phrases_fit RightRest = refl
file_phrases_fit RightSide = refl
file_phrases_fit Braces = refl

row_fits : (r : ℕ) → Fit (Row r)
row_fits r = by_test (eqb r line_row) refl where
  by_test : (b : Bool) → eqb r line_row ≡ b → Fit (Row r)
  by_test true e = subst (λ m. Fit (Row m)) (sym (eqb-true r line_row e)) line_fits
  by_test false e = subst (λ b. fitting (table_heads script_rows) deep_tails (λ s. when_deep b (Row r)) (Row r) ≡ true) (sym e) refl

-- what fitting asks of the sorts
pub all_fit : (s : TableSort) → Fit s
all_fit (Row r) = row_fits r
all_fit (OfFiles s) = file_phrases_fit s
all_fit Nowhere = refl

-- and of the form of a script
pub script_fits : fits (table_heads script_rows) deep_tails script_form ≡ true
script_fits = refl

pub script_steady : is_steady script_form ≡ true
script_steady = refl
