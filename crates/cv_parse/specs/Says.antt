-- What the tokens of a file say, as a relation.
use Rattle.std.specs.Prelude.{◌≡◌, ℕ, ◌-◌, ◌<◌, ◌≤◌, List, ◌∷◌, length, Option}
use Rattle.cv_syntax_trees.specs.Declarations.{Declaration}
use Rattle.cv_syntax_trees.specs.Tree.{Tree, depth, size}
use Rattle.cv_parse_notation.specs.declared.sign.Sign.{Sign}
use Rattle.cv_parse_notation.specs.Whole.{Dead}
use Rattle.cv_parse_grammar.specs.Files.{IsSomeFile, levels}
use Rattle.cv_parse_grammar.specs.Names.{NameFault}
use Rattle.cv_parse_grammar.specs.Whole.{IsMisnamed, IsRead}
use Rattle.cv_parse.specs.Parsed.{Parsed, bool_type, range_of, weight_of}
use Rattle.cv_syntax.specs.limits.Limits.{most_depth, most_nodes}
use Rattle.cv_parse.specs.Weights.{asked, capped}

-- The tokens are those of a file by the grammar and the rules of names, within the limits.
pub record Says (limit : ℕ) (signs : List Sign) (p : Parsed) : Type 0 where
  pub decls : List Declaration
  pub script : Option (ℕ × ℕ)
  pub read : IsRead signs decls script p.game
  pub declared : p.declarations ≡ bool_type ∷ decls
  pub range : p.script ≡ range_of (length signs) script
  pub small : size p.game ≤ most_nodes
  pub shallow : depth p.game ≤ most_depth
  pub room : asked (weight_of p) ≤ limit

-- No file begins with the tokens through this one.
pub record IsDead (signs : List Sign) (token : ℕ) : Type 0 where
  pub left : ℕ
  pub at : token ≡ length signs - left
  pub dead : Dead (IsSomeFile levels) signs left

-- The name of this token is the first that breaks its rule.
pub record IsMisnamedAt (signs : List Sign) (fault : (left : ℕ) → NameFault) (token : ℕ) : Type 0 where
  pub left : ℕ
  pub at : token ≡ length signs - left
  pub misnamed : IsMisnamed signs (fault left)

-- The tokens are those of a file by the grammar and the rules of names, of which this holds.
pub record IsLarge (signs : List Sign) (Large : Parsed → Type 0) : Type 0 where
  pub decls : List Declaration
  pub script : Option (ℕ × ℕ)
  pub game : Tree
  pub read : IsRead signs decls script game
  pub large : Large (record { declarations = bool_type ∷ decls; script = range_of (length signs) script; game = game })

-- the game has so many nodes, or is so deep, or the trees are so heavy

abbrev pub HasNodes : ℕ → Parsed → Type 0
HasNodes n p = (most_nodes < size p.game) × (n ≡ capped (size p.game))

abbrev pub HasDepth : ℕ → Parsed → Type 0
HasDepth n p = (most_depth < depth p.game) × (n ≡ capped (depth p.game))

abbrev pub HasWeight : (limit : ℕ) → ℕ → Parsed → Type 0
HasWeight limit n p = (limit < n) × (n ≡ asked (weight_of p))
