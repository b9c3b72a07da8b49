-- A small file, read.
use Rattle.std.proofs.Common.{◌≡◌, suc, List, [], length, Result, Ok, Err, refl, subst, arith}
use Rattle.cv_lex.specs.Lexis.{Lexed, Token, lexed, tokens_of}
use Rattle.cv_lex.specs.declared.LexError.{LexError}
use Rattle.cv_lex.proofs.Exact.{computed}
use Rattle.cv_syntax_trees.specs.Tree.{depth, size}
use Rattle.cv_syntax.specs.PoolTrees.{tree_of}
use Rattle.cv_parse_notation.specs.Reads.{read_sort}
use Rattle.cv_parse_tables.specs.terminals.Braces.{read_from}
use Rattle.cv_parse_tables.specs.terminals.Openings.{closings_before_event, openings_from}
use Rattle.cv_parse_tables.specs.terminals.Signs.{signs_from, signs_of}
use Rattle.cv_parse_tables.specs.spelling.Spelling.{mark_of_text}
use Rattle.cv_parse_grammar.specs.Filled.{first_site, filled_at}
use Rattle.cv_parse_grammar.specs.InOrder.{first_broken}
use Rattle.cv_parse_grammar.specs.Names.{own_from, part_from}
use Rattle.cv_parse.specs.Parsed.{parsed}
use Rattle.cv_parse.specs.Weights.{tree_weight}
use Rattle.cv_parse.proofs.Exactness.{said_is_saying}
use Rattle.cv_print_back.specs.files.Back.{IsFileText}
use Rattle.cv_print_back.specs.files.Worked.{small_content, small_file, small_names}

abbrev tokens_in : Result (List Token) LexError → List Token
tokens_in (Ok ts) = ts
tokens_in (Err e) = []

abbrev small_tokens : List Token
small_tokens = tokens_in (tokens_of small_file)

lexed_to : tokens_of small_file ≡ Ok small_tokens
unfolding lexed
lexed_to = refl

named : small_names ≡ (signs_of small_tokens).names
unfolding lexed read_from signs_from mark_of_text
named = refl

read : parsed 10000 (signs_of small_tokens).signs ≡ Ok small_content
unfolding lexed read_from signs_from openings_from closings_before_event mark_of_text parsed read_sort first_site filled_at first_broken part_from own_from size depth tree_of tree_weight
read = refl

pub file : IsFileText 10000 small_file small_names small_content
file = record {
  tokens = small_tokens;
  lexed = subst (λ r. Lexed 0 small_file r) lexed_to (computed (suc (length small_file)) 0 small_file (omega arith));
  says = said_is_saying 10000 (signs_of small_tokens).signs small_content read;
  names_are = named;
  short = omega arith;
}
