-- The grammar of files fits its notation: the next token always tells how a phrase goes on.
use Rattle.std.proofs.Common.{◌≡◌, true, refl}
use Rattle.cv_parse_notation.specs.Fits.{fits, fitting}
use Rattle.cv_parse_grammar.specs.Marks.{marked_rule, marked_tails}
use Rattle.cv_parse_grammar.specs.Phrases.{Sort, Term, Conjunction, Primary, Unequal, Arguments, Subscript, Parentheses, Inputs, Input, Output, Pattern, Sending, Payload, Variables, Indices, ProcessBranch, Cells, OneCell, Body, BodyBranch, LeftFunction, RightFunction, RightRest, RightSide, Braces}
use Rattle.cv_parse_grammar.specs.Rules.{rule, heads, tails, file}

pub all_fit : (s : Sort) → fitting heads tails rule s ≡ true
all_fit Term = refl
all_fit Conjunction = refl
all_fit Primary = refl
all_fit Unequal = refl
all_fit Arguments = refl
all_fit Subscript = refl
all_fit Parentheses = refl
all_fit Inputs = refl
all_fit Input = refl
all_fit Output = refl
all_fit Pattern = refl
all_fit Sending = refl
all_fit Payload = refl
all_fit Variables = refl
all_fit Indices = refl
all_fit ProcessBranch = refl
all_fit Cells = refl
all_fit OneCell = refl
all_fit Body = refl
all_fit BodyBranch = refl
all_fit LeftFunction = refl
all_fit RightFunction = refl
all_fit RightRest = refl
all_fit RightSide = refl
all_fit Braces = refl

pub file_fits : fits heads tails file ≡ true
file_fits = refl

pub all_marked_fit : (s : Sort) → fitting heads marked_tails marked_rule s ≡ true
all_marked_fit Term = refl
all_marked_fit Conjunction = refl
all_marked_fit Primary = refl
all_marked_fit Unequal = refl
all_marked_fit Arguments = refl
all_marked_fit Subscript = refl
all_marked_fit Parentheses = refl
all_marked_fit Inputs = refl
all_marked_fit Input = refl
all_marked_fit Output = refl
all_marked_fit Pattern = refl
all_marked_fit Sending = refl
all_marked_fit Payload = refl
all_marked_fit Variables = refl
all_marked_fit Indices = refl
all_marked_fit ProcessBranch = refl
all_marked_fit Cells = refl
all_marked_fit OneCell = refl
all_marked_fit Body = refl
all_marked_fit BodyBranch = refl
all_marked_fit LeftFunction = refl
all_marked_fit RightFunction = refl
all_marked_fit RightRest = refl
all_marked_fit RightSide = refl
all_marked_fit Braces = refl
