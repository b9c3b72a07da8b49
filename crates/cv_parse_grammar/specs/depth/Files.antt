-- The depth of tokens in files, and tokens that no file goes on with.
use Rattle.std.specs.Prelude.{◌≡◌, ℕ, zero, suc, ◌-◌, List, ◌∷◌, length}
use Rattle.cv_syntax_trees.specs.Tree.{Tree}
use Rattle.cv_parse_notation.specs.declared.sign.Mark.TheVariants.{Open}
use Rattle.cv_parse_notation.specs.declared.sign.Sign.{Sign}
use Rattle.cv_parse_notation.specs.declared.sign.Sign.TheVariants.{Mark}
use Rattle.cv_parse_notation.specs.Whole.{Dead}
use Rattle.cv_parse_grammar.specs.declared.role.Region.TheVariants.{InProcess}
use Rattle.cv_parse_grammar.specs.Files.{levels, IsSomeFile}
use Rattle.cv_parse_grammar.specs.Phrases.{Phrase, inside}
use Rattle.cv_parse_grammar.specs.Processes.{inputs}
use Rattle.cv_parse_grammar.specs.Rules.{rule, heads, file}
use Rattle.cv_parse_grammar.specs.depth.Depth.{IsTooDeep}

-- how deep brackets and syntax nodes may stand
abbrev pub most_levels : ℕ
most_levels = suc levels

-- the process of a game, without the word before it
abbrev pub process : Phrase Tree
process = inside InProcess inputs

-- At this token of a file one bracket or syntax node more is open than may be, and at no token before it is that so.
pub record IsNestedTooDeep (signs : List Sign) (token : ℕ) : Type 0 where
  pub left : ℕ
  pub at : token ≡ length signs - left
  pub deep : IsTooDeep heads rule file most_levels signs left

-- No file begins with the tokens through this one, however deep it may be.
pub record IsDeadAtEveryDepth (signs : List Sign) (token : ℕ) : Type 0 where
  pub left : ℕ
  pub at : token ≡ length signs - left
  pub dead : (n : ℕ) → Dead (IsSomeFile n) signs left

-- so many opening parentheses before the tokens
abbrev pub parentheses_before : ℕ → List Sign → List Sign
parentheses_before zero l = l
parentheses_before (suc n) l = Mark Open ∷ parentheses_before n l
