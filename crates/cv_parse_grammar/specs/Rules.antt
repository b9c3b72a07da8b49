-- The grammar of files: the rows of each sort, and the row of a file.
use Rattle.std.specs.Prelude.{ℕ, flat_map, Bool, false, ◌||◌, List, Option}
use Rattle.cv_syntax_trees.specs.Tree.{Tree, Empty}
use Rattle.cv_syntax_trees.specs.Declarations.{Declaration}
use Rattle.cv_parse_notation.specs.declared.sign.Mark.TheVariants as mark
use Rattle.cv_parse_notation.specs.Form.{other, note, may, many, either, made, level, deeper, ◌&◌, ◌▸◌, ◌◂◌}
use Rattle.cv_parse_notation.specs.Spells.{Kind, is_mark, starts}
use Rattle.cv_parse_grammar.specs.declared.role.Region.TheVariants.{InProcess}
use Rattle.cv_parse_grammar.specs.declared.role.Role.TheVariants.{Nothing}
use Rattle.cv_parse_grammar.specs.Phrases.{Sort, Phrase, Term, Conjunction, Primary, Unequal, Arguments, Subscript, Parentheses, Inputs, Input, Output, Pattern, Sending, Payload, Variables, Indices, ProcessBranch, Cells, OneCell, Body, BodyBranch, LeftFunction, RightFunction, RightRest, RightSide, Braces, inside}
use Rattle.cv_parse_grammar.specs.Terms.{arguments, subscript, parentheses, primary, unequal, conjunction, term, cell, cells}
use Rattle.cv_parse_grammar.specs.Processes.{channel_indices, input, inputs, pattern, variables, sending, payload, branch, output}
use Rattle.cv_parse_grammar.specs.Equivalences.{body, body_branch, left_function, right_function, right_rest}
use Rattle.cv_parse_grammar.specs.Declarations.{bracketed_right_side, declaration}

-- what a file holds: its declarations, its proof block and its process
pub record File : Type 0 where
  pub decls : List Declaration
  -- how many tokens are left where the proof block's first token stands, and where its last brace stands
  pub script : Option (ℕ × ℕ)
  pub game : Tree

-- tokens with matched braces
abbrev pub matched : Phrase (List (Unit {0}))
matched = many false (either (made (λ _. tt) (deeper Braces)) other)

abbrev pub braces : Phrase Tree
braces = level (mark.OpenBrace ▸ made (λ _. Empty) matched ◂ mark.CloseBrace)

-- the proof block is kept as a range of tokens
abbrev pub proof_block : Phrase (ℕ × ℕ)
proof_block = level (mark.OpenBrace ▸ made (λ (a, (l, b)). (a, b)) (note Nothing & (matched & note Nothing)) ◂ mark.CloseBrace)

abbrev pub file : Phrase File
file =
    made (λ (ds, (s, t)). record { decls = flat_map (λ d. d) ds; script = s; game = t }) (
    many false declaration & (may false (mark.Proof ▸ proof_block) & (mark.Process ▸ inside InProcess inputs))
    )

-- the row of each sort
abbrev pub rule : Sort → Phrase Tree
rule Term = term
rule Conjunction = conjunction
rule Primary = primary
rule Unequal = unequal
rule Arguments = arguments
rule Subscript = subscript
rule Parentheses = parentheses
rule Inputs = inputs
rule Input = input
rule Output = output
rule Pattern = pattern
rule Sending = sending
rule Payload = payload
rule Variables = variables
rule Indices = channel_indices
rule ProcessBranch = branch
rule Cells = cells
rule OneCell = cell
rule Body = body
rule BodyBranch = body_branch
rule LeftFunction = left_function
rule RightFunction = right_function
rule RightRest = right_rest
rule RightSide = bracketed_right_side
rule Braces = braces

-- how the phrases of a sort begin
abbrev pub heads : Sort → Kind → Bool
heads s k = starts (λ _ _. false) (rule s) k

abbrev pub within_and : Kind → Bool
within_and k = is_mark mark.Equal k || (is_mark mark.Differ k || is_mark mark.Both k)

abbrev pub within_or : Kind → Bool
within_or k = is_mark mark.Either k || within_and k

-- the tokens behind a phrase of a sort that could belong to it
abbrev pub tails : Sort → Kind → Bool
tails Term k = within_or k
tails Conjunction k = within_and k
tails Inputs k = is_mark mark.Semicolon k || is_mark mark.Bar k
tails Input k = is_mark mark.Semicolon k
tails Output k = is_mark mark.Semicolon k
tails ProcessBranch k = is_mark mark.Semicolon k
tails OneCell k = is_mark mark.OpenSquare k
tails Body k = within_or k
tails BodyBranch k = within_or k
tails LeftFunction k = within_or k
tails RightFunction k = within_or k
tails RightRest k = within_or k
tails s k = false
