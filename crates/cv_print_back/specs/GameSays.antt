-- What the tokens of a game, or of a term, say, as a relation. This profile's own.
use Rattle.std.specs.Prelude.{◌≡◌, ℕ, ◌+◌, ◌-◌, ◌<◌, ◌≤◌, false, List, [], ◌++◌, length}
use Rattle.cv_syntax.specs.declared.decls.Decl.{Decl}
use Rattle.cv_syntax_trees.specs.Tree.{Tree, depth, size}
use Rattle.cv_parse_notation.specs.declared.sign.Sign.{Sign}
use Rattle.cv_parse_notation.specs.Spells.{next_is}
use Rattle.cv_parse_notation.specs.Whole.{Dead, IsWhole, SpellsWith}
use Rattle.cv_parse_grammar.specs.Files.{levels}
use Rattle.cv_parse_grammar.specs.Names.{AreNamed, IsNameFault, NameFault, Uses}
use Rattle.cv_parse_grammar.specs.Rules.{heads, rule}
use Rattle.cv_parse_grammar.specs.Terms.{term}
use Rattle.cv_parse_grammar.specs.depth.Before.{IsBefore}
use Rattle.cv_parse_grammar.specs.depth.Depth.{IsTooDeep}
use Rattle.cv_parse_grammar.specs.depth.Files.{most_levels}
use Rattle.cv_syntax.specs.limits.Limits.{most_depth, most_nodes}
use Rattle.cv_parse.specs.Weights.{capped}
use Rattle.cv_parse.specs.Games.{declared_before, nodes_of, process}
use Rattle.cv_parse.specs.Terms.{goes_on}

-- These tokens, and no others, spell a game within 200 levels, and use names so.
abbrev pub IsGameText : List Sign → Tree → Uses → Type 0
IsGameText signs t uses = SpellsWith heads rule process levels signs t uses []

-- They spell the game, and the names obey their rules behind what is declared.
pub record IsNamedGame (ds : List Decl) (signs : List Sign) (t : Tree) : Type 0 where
  pub uses : Uses
  pub spelled : IsGameText signs t uses
  pub named : AreNamed (declared_before ds ++ uses)

-- The same within the limits.
pub record SaysGame (limit live : ℕ) (ds : List Decl) (signs : List Sign) (t : Tree) : Type 0 where
  pub game : IsNamedGame ds signs t
  pub small : size t ≤ most_nodes
  pub shallow : depth t ≤ most_depth
  pub room : live + nodes_of t ≤ limit

-- No game's text begins with the tokens through this one, however deep it may be.
pub record IsDeadGame (signs : List Sign) (token : ℕ) : Type 0 where
  pub left : ℕ
  pub at : token ≡ length signs - left
  pub dead : (n : ℕ) → Dead (IsWhole heads rule process n) signs left

-- At this token of a game's text one bracket or syntax node more is open than may be, and at no token before it is that so.
pub record IsNestedGame (signs : List Sign) (token : ℕ) : Type 0 where
  pub left : ℕ
  pub at : token ≡ length signs - left
  pub deep : IsTooDeep heads rule process most_levels signs left

-- The tokens spell a game, and the name of this token is the first that breaks its rule.
pub record IsMisnamedGame (ds : List Decl) (signs : List Sign) (fault : (left : ℕ) → NameFault) (token : ℕ) : Type 0 where
  pub game : Tree
  pub uses : Uses
  pub spelled : IsGameText signs game uses
  pub left : ℕ
  pub at : token ≡ length signs - left
  pub misnamed : IsNameFault (declared_before ds ++ uses) (fault left)

-- The tokens spell a game with names that obey, of which this holds.
pub record IsLargeGame (ds : List Decl) (signs : List Sign) (Large : Tree → Type 0) : Type 0 where
  pub game : Tree
  pub is : IsNamedGame ds signs game
  pub large : Large game

-- the game has so many nodes, or is so deep, or takes so many nodes of a pool

abbrev pub HasNodes : ℕ → Tree → Type 0
HasNodes n t = (most_nodes < size t) × (n ≡ capped (size t))

abbrev pub HasDepth : ℕ → Tree → Type 0
HasDepth n t = (most_depth < depth t) × (n ≡ capped (depth t))

abbrev pub Takes : (limit live : ℕ) → ℕ → Tree → Type 0
Takes limit live n t = (limit < live + n) × (n ≡ nodes_of t)

-- The tokens spell a term, within 200 levels, in front of the rest, which begins with a token that may stand behind a term.
pub record IsTermText (signs : List Sign) (t : Tree) (rest : List Sign) : Type 0 where
  pub uses : Uses
  pub spelled : SpellsWith heads rule term levels signs t uses rest
  pub ends : next_is goes_on rest ≡ false

-- The tokens, which begin at one of a text, spell a term up to the token `next`, and the pool has room for it.
pub record SaysTerm (limit live from : ℕ) (signs : List Sign) (t : Tree) (next : ℕ) : Type 0 where
  pub rest : List Sign
  pub text : IsTermText signs t rest
  pub at : next ≡ from + length signs - length rest
  pub room : live + nodes_of t ≤ limit

-- No tokens that begin with those through this one spell a term, however deep it may be, in front of what may stand behind it.
pub record IsDeadTerm (from : ℕ) (signs : List Sign) (token : ℕ) : Type 0 where
  pub left : ℕ
  pub at : token ≡ from + length signs - left
  pub dead : (n : ℕ) → Dead (IsBefore goes_on heads rule term n) signs left

-- At this token of a term one bracket or syntax node more is open than may be, and at no token before it is that so.
pub record IsNestedTerm (from : ℕ) (signs : List Sign) (token : ℕ) : Type 0 where
  pub left : ℕ
  pub at : token ≡ from + length signs - left
  pub deep : IsTooDeep heads rule term most_levels signs left

-- The tokens spell a term that takes so many nodes, for which the pool has no room.
pub record IsLargeTerm (limit live : ℕ) (signs : List Sign) (need : ℕ) : Type 0 where
  pub term : Tree
  pub rest : List Sign
  pub is : IsTermText signs term rest
  pub large : Takes limit live need term
