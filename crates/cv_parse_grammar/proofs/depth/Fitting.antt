-- The grammar of files is firm: each level opens at a token of its own, and before a phrase one level down there is one.
use Rattle.std.proofs.Common.{◌≡◌, Bool, true, refl}
use Rattle.std.specs.Prelude.{◌&&◌}
use Rattle.cv_syntax_trees.proofs.lists.Tests.{and_first, and_second}
use Rattle.cv_parse_grammar.specs.Phrases.{Sort, Term, Conjunction, Primary, Unequal, Arguments, Subscript, Parentheses, Inputs, Input, Output, Pattern, Sending, Payload, Variables, Indices, ProcessBranch, Cells, OneCell, Body, BodyBranch, LeftFunction, RightFunction, RightRest, RightSide, Braces}
use Rattle.cv_parse_grammar.specs.Rules.{rule, heads, tails, file}
use Rattle.cv_parse_grammar.specs.Terms.{term}
use Rattle.cv_parse_grammar.proofs.Fitting.{all_fit, file_fits}
use Rattle.cv_parse_grammar.specs.depth.Files.{process}
use Rattle.cv_parse_grammar.proofs.depth.Readers.{has_firm_levels, is_guarded}
use Rattle.cv_parse_grammar.proofs.depth.Agreement.{IsFirm}
use Rattle.cv_parse_grammar.proofs.depth.Meeting.{IsFine}

abbrev is_firm : Sort → Bool
is_firm s = has_firm_levels (rule s) && is_guarded (rule s)

all_tests : (s : Sort) → is_firm s ≡ true
all_tests Term = refl
all_tests Conjunction = refl
all_tests Primary = refl
all_tests Unequal = refl
all_tests Arguments = refl
all_tests Subscript = refl
all_tests Parentheses = refl
all_tests Inputs = refl
all_tests Input = refl
all_tests Output = refl
all_tests Pattern = refl
all_tests Sending = refl
all_tests Payload = refl
all_tests Variables = refl
all_tests Indices = refl
all_tests ProcessBranch = refl
all_tests Cells = refl
all_tests OneCell = refl
all_tests Body = refl
all_tests BodyBranch = refl
all_tests LeftFunction = refl
all_tests RightFunction = refl
all_tests RightRest = refl
all_tests RightSide = refl
all_tests Braces = refl

pub all_firm : (s : Sort) → IsFirm heads tails rule s
all_firm s = record { fitting = all_fit s; levels = and_first (has_firm_levels (rule s)) (is_guarded (rule s)) (all_tests s); guarded = and_second (has_firm_levels (rule s)) (is_guarded (rule s)) (all_tests s) }

pub file_fine : IsFine heads tails file
file_fine = record { fit = file_fits; steady = refl; levels = refl }

pub process_fine : IsFine heads tails process
process_fine = record { fit = refl; steady = refl; levels = refl }

pub term_fine : IsFine heads tails term
term_fine = record { fit = refl; steady = refl; levels = refl }
