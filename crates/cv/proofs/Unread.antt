-- Tokens that the grammar refuses, whatever the depth, and tokens that stand too deep.
use Rattle.std.proofs.Common.{◌≡◌, ℕ, List, length, refl, subst, Ok, Err}
use Rattle.cv_parse_notation.specs.Reads.{Read}
use Rattle.cv_parse_notation.specs.Reads as fault
use Rattle.cv_parse_notation.specs.declared.sign.Sign.{Sign}
use Rattle.cv_parse_notation.proofs.Whole.{whole_sound}
use Rattle.cv_parse_grammar.specs.Files.{IsSomeFile, levels, read_whole}
use Rattle.cv_parse_grammar.specs.Rules.{File, file, heads, rule, tails}
use Rattle.cv_parse_grammar.specs.Whole.{outcome_of}
use Rattle.cv_parse_grammar.specs.declared.role.Role.{Role}
use Rattle.cv_parse_grammar.proofs.Fitting.{all_fit, file_fits}
use Rattle.cv_parse_grammar.specs.depth.Files.{IsDeadAtEveryDepth, IsNestedTooDeep}
use Rattle.cv_parse_grammar.proofs.depth.Files.{dead_at_every_depth, nested_too_deep}
use Rattle.cv_parse.specs.declared.error.ParseError.TheVariants as parse
use Rattle.cv_parse.specs.Parsed.{of_outcome, parsed}
use Rattle.cv_parse.specs.Says.{IsDead}
use Rattle.cv_parse.proofs.Exactness.{dead_token, deep_token}
use Rattle.cv_parse_notation.proofs.Locality.{same_self}

dead_by : (limit : ℕ) (signs : List Sign) (token : ℕ) → IsDead signs token → (r : Read Role File) → read_whole levels signs ≡ r → of_outcome limit (length signs) (outcome_of r) ≡ Err (parse.Syntax token) → IsDeadAtEveryDepth signs token
dead_by limit signs token d (Ok x) i e = absurd (d.dead.none d.dead.rest (same_self d.dead.rest) (subst (IsSomeFile levels) d.dead.split (x.value, x.uses, whole_sound heads tails rule all_fit file file_fits refl levels signs x i)))
dead_by limit signs token d (Err (fault.Syntax left)) i e = dead_at_every_depth signs left token i (cc)
dead_by limit signs token d (Err (fault.Nesting left)) i e = absurd (cc)

-- a token with which no file goes on
pub dead_anywhere : (limit : ℕ) (signs : List Sign) (token : ℕ) → parsed limit signs ≡ Err (parse.Syntax token) → IsDeadAtEveryDepth signs token
unfolding parsed
dead_anywhere limit signs token e = dead_by limit signs token (dead_token limit signs token e) (read_whole levels signs) refl e

-- a token at which too many levels are open
pub nested_at : (limit : ℕ) (signs : List Sign) (token : ℕ) → parsed limit signs ≡ Err (parse.Nesting token) → IsNestedTooDeep signs token
nested_at limit signs token e = let d = deep_token limit signs token e in nested_too_deep signs d.0 token d.2 d.1
