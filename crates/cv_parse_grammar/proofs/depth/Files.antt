-- What a refusal of a file by the grammar says of its token.
use Rattle.std.proofs.Common.{◌≡◌, ℕ, ◌-◌, List, length, Err}
use Rattle.cv_parse_notation.specs.Reads.{Nesting, Syntax}
use Rattle.cv_parse_notation.specs.declared.sign.Sign.{Sign}
use Rattle.cv_parse_grammar.specs.Files.{levels, read_whole}
use Rattle.cv_parse_grammar.specs.Rules.{file, heads, rule, tails}
use Rattle.cv_parse_grammar.specs.depth.Files.{IsDeadAtEveryDepth, IsNestedTooDeep}
use Rattle.cv_parse_grammar.proofs.depth.Fitting.{all_firm, file_fine}
use Rattle.cv_parse_grammar.proofs.depth.Laws.{whole_dead, whole_nesting}

-- a token that is refused for its depth
pub nested_too_deep : (signs : List Sign) (left token : ℕ) → read_whole levels signs ≡ Err (Nesting left) → token ≡ length signs - left → IsNestedTooDeep signs token
nested_too_deep signs left token e at = record { left = left; at = at; deep = whole_nesting heads tails rule all_firm file file_fine levels signs left e }

-- a token that is refused by the grammar
pub dead_at_every_depth : (signs : List Sign) (left token : ℕ) → read_whole levels signs ≡ Err (Syntax left) → token ≡ length signs - left → IsDeadAtEveryDepth signs token
dead_at_every_depth signs left token e at = record { left = left; at = at; dead = λ n. whole_dead heads tails rule all_firm file file_fine levels n signs left e }
