-- What the tables and the levels of a walk over a body hold.
use Rattle.std.specs.Prelude.{◌≡◌, map, ℕ, Bool, false, true, ◌&&◌, ◌||◌, List, ◌++◌}
use Rattle.std.specs.HashSet.{HashSet, contains}
use Rattle.std.specs.declared.hash.FoldHasher.{FoldHasher}
use Rattle.std.specs.declared.hash.BuildHasherDefault.{BuildHasherDefault}
use Rattle.cv_syntax_trees.specs.declared.head.Head.{Head}
use Rattle.cv_syntax_trees.specs.declared.head.Head.TheVariants.{Apply, Branch, Leaf, Read}
use Rattle.cv_syntax.specs.NameSets.{is_in}
use Rattle.cv_syntax_trees.specs.Tree.{Tree, Node, first}
use Rattle.cv_syntax_trees.specs.sites.Pairs.{same_pair}
use Rattle.cv_meaning.specs.contexts.Made as made
use Rattle.cv_group_rules.specs.Rules as rule
use Rattle.cv_group.specs.declared.bodies.around.Around.{Around}
use Rattle.cv_group.specs.declared.bodies.levels.Level.{Level}
use Rattle.cv_group.specs.declared.bodies.levels.Level.TheVariants as level

-- a `HashSet<(u32, u32)>`
abbrev pub PairSet : Type 0
PairSet = HashSet (ℕ × ℕ) (BuildHasherDefault FoldHasher)

abbrev pub is_paired : PairSet → ℕ → ℕ → Bool
is_paired s n x = contains same_pair s (n, x)

-- what a body may name
abbrev pub around_of : Around → rule.Around
around_of a = record { outside = λ x. is_in a.symbols.constants x || is_in a.taken x; callable = is_in a.symbols.functions; bound = a.bound; names = is_paired a.names }

abbrev pub level_of : Level → rule.Level
level_of (level.Defined x) = rule.Defined x
level_of (level.Found u n reads names) = rule.Found u n (is_paired reads) (is_in names)

-- a cell that is a read at an index
abbrev pub is_cell_at : ℕ → Tree → Bool
is_cell_at u (Node (Read v) a b) = made.is_index u (first a)
is_cell_at u t = false

-- what is asked of a term's node, and of a branch

abbrev pub term_passes : rule.Around → List rule.Level → Head → Tree → Bool
term_passes o ls (Leaf x) a = rule.is_readable o ls x
term_passes o ls (Read v) a = rule.is_asked_at ls v (rule.index_in a)
term_passes o ls (Apply f) a = o.callable f
term_passes o ls h a = true

abbrev pub branch_passes : rule.Around → List rule.Level → Tree → Tree → Bool
branch_passes o ls a cells = rule.has_own_cell a cells && rule.are_cells o (ls ++ rule.found a cells) cells

abbrev pub node_passes : rule.Around → List rule.Level → Head → Tree → Tree → Bool
node_passes o ls Branch a b = branch_passes o ls a (first b)
node_passes o ls h a b = true

-- levels that a node binds more
pub record HasBound (old new : List Level) (more : List rule.Level) : Type 0 where
  pub added : List Level
  pub items : new ≡ old ++ added
  pub levels : map level_of added ≡ more
