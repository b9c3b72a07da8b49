-- What derivations are to end with, as the code has it. This profile's own.
use Rattle.std.specs.Prelude.{ℕ, List}
use Rattle.cv_pool.specs.KindTree.{KindTree}
use Rattle.cv_pool.specs.Nodes.{ChildBelow}
use Rattle.cv_syntax_trees.specs.declared.head.Head.TheVariants.{Eq}
use Rattle.cv_syntax_trees.specs.Tree.{Tree, Node}
use Rattle.cv_syntax.specs.PoolTrees.{tree_at}
use Rattle.cv_scope_rules.specs.Context.{cell_of, cells_of}
use Rattle.cv_scene.specs.lines.Lines.{Holds, IsDefined, Statement}
use Rattle.cv_rule_pick.specs.Picking.{with_terms}
use Rattle.cv_rule_pick.specs.declared.targets.Given.{Given}
use Rattle.cv_rule_pick.specs.declared.targets.Wanted.{Wanted}
use Rattle.cv_rule_pick.specs.declared.targets.Wanted.TheVariants.{Cell, Condition, Equation}

-- the cells of the index variables, and a tree with the terms for them
abbrev pub given_cells : List KindTree → Given → List Tree
given_cells trees g = cells_of g.replications.now (tree_at trees g.binders)

abbrev pub put : List KindTree → Given → Tree → Tree
put trees g t = with_terms (given_cells trees g) (tree_at trees g.terms) t

abbrev pub wanted_of : List KindTree → Given → Wanted → Statement
wanted_of trees g (Equation x m) = Holds (Node Eq (cell_of g.replications.now x) (tree_at trees m))
wanted_of trees g (Cell c) = IsDefined (put trees g (tree_at trees c))
wanted_of trees g (Condition c) = Holds (put trees g (tree_at trees c))

abbrev pub IsLiveWanted : ℕ → Wanted → Type 0
IsLiveWanted n (Equation x m) = ChildBelow n m
IsLiveWanted n (Cell c) = ChildBelow n c
IsLiveWanted n (Condition c) = ChildBelow n c
