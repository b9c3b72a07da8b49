-- What the code has of what is looked for in a game, and of the terms that stand for the names of a function.
use Rattle.std.specs.Prelude.{◌≡◌, ◌<◌, ◌^◌, ℕ, Bool, false, ◌||◌, ◌==◌, if◌then◌else◌, length, Option, Some, None}
use Rattle.cv_pool.specs.Nodes.{ChildBelow}
use Rattle.cv_pool.specs.PoolView.{PoolView}
use Rattle.cv_syntax.specs.Classes.{DeclsView}
use Rattle.cv_syntax.specs.Declarations.{declarations}
use Rattle.cv_syntax_trees.specs.declared.head.Head.{Head}
use Rattle.cv_syntax_trees.specs.declared.head.Head.TheVariants.{Leaf}
use Rattle.cv_syntax_trees.specs.Tree.{Tree, same_tree, size}
use Rattle.cv_syntax.specs.PoolTrees.{tree_at}
use Rattle.cv_syntax_trees.specs.declared.sites.sort.Sort.TheVariants.{OfType}
use Rattle.cv_syntax_trees.specs.sites.Sites.{sites_of}
use Rattle.cv_scope_rules.specs.typing.Parts.{game_part, nothing_above, signature_of}
use Rattle.cv_scope_rules.specs.typing.Signature.{OfGame, Signature, sort_of}
use Rattle.cv_typing.specs.Tables.{above_of, arrays_of}
use Rattle.cv_meaning.specs.contexts.Groups.{Function, Group, group_of}
use Rattle.cv_scene.specs.lines.Given.{with_given}
use Rattle.cv_scene.specs.Sights.{variable_of}
use Rattle.cv_scene.specs.Instances.{filled, guess, is_variable_of, names_of, term_for, terms_of}
use Rattle.cv_scene.specs.Refusals.{is_among}
use Rattle.cv_scene.specs.Terms.{is_sort}
use Rattle.cv_match_terms.specs.heads.Beginnings.{AreHeadsOf}
use Rattle.cv_match_terms.specs.declared.patterns.search.Search.{Search}

-- The game and the side stand in the pool, and the tables say what the game does.
pub record IsReady (pool : PoolView) (s : Search) : Type 0 where
  pub game : s.game.0 < length pool.trees
  pub fits : size (tree_at pool.trees (Some s.game)) < 2 ^ 32
  pub side : ChildBelow (length pool.trees) s.side
  pub arrays : arrays_of s.arrays.now ≡ OfGame (sites_of (tree_at pool.trees (Some s.game)))
  pub above : above_of s.above ≡ nothing_above
  pub heads : AreHeadsOf (group_of (tree_at pool.trees s.side)).functions s.heads

-- the node of a body is this name
abbrev pub stands_in : ℕ → Head → Bool
stands_in x (Leaf y) = y == x
stands_in x h = false

-- a name of a function: that of the key, of a coin or of an argument
abbrev pub is_name : Group → Function → ℕ → Bool
is_name g f x = (g.key.0 == x) || (is_among f.coins x || is_among f.arguments x)

-- the term that stands for a name of a function
abbrev pub given_by : Function → Tree → ℕ → Tree
given_by f m x = term_for f.body m (x, 0)

-- the term that stands for a node of a body, where it is a name of the function
abbrev pub filled_by : Group → Function → Tree → Head → Option Tree
filled_by g f m (Leaf x) = if is_name g f x then Some (given_by f m x) else None
filled_by g f m h = None

-- a part of a body with these terms
unfoldable pub filled_part : Group → Function → Tree → (body : Tree) → Tree
filled_part g f m body = with_given (names_of g f) (terms_of (guess g f m)) body

-- a term is the body of a function, with what stands where the body first has its names
unfoldable pub is_whole : Group → Function → Tree → Bool
is_whole g f m = same_tree (filled g f (guess g f m)) m

-- what declarations and the game say of a name
abbrev pub signature_by : PoolView → DeclsView → Search → Signature
signature_by pool decls s = signature_of (declarations pool.trees decls.list) (game_part (tree_at pool.trees (Some s.game)))

-- a term may stand for a coin, or for an argument, of a type

abbrev pub may_be_coin : Signature → (type : ℕ) → Tree → Bool
may_be_coin e T m = is_variable_of e T (variable_of m)

abbrev pub may_be_argument : Signature → (type : ℕ) → Tree → Bool
may_be_argument e T m = is_sort (sort_of e nothing_above m) (OfType T)
