-- What the equations of truth values make of a term: of their right sides the first one that has fewer nodes. This profile's own.
use Rattle.std.specs.Prelude.{ℕ, nat_lt, if◌then◌else◌, List, [], ◌∷◌, Option, Some, None}
use Rattle.cv_pool.specs.KindTree.{KindTree}
use Rattle.cv_syntax_trees.specs.declared.head.Head.TheVariants.{Not}
use Rattle.cv_syntax_trees.specs.Tree.{Tree, Node, same_tree, size}
use Rattle.cv_syntax.specs.PoolTrees.{tree_at}
use Rattle.cv_scene.specs.lines.Truths.{no, yes}
use Rattle.cv_settling_rules.specs.Equations.{of_sides}
use Rattle.cv_settling.specs.declared.truths.Outcome.{Outcome}
use Rattle.cv_settling.specs.declared.truths.Outcome.TheVariants as outcome

abbrev pub first_smaller : (most : ℕ) → List Tree → Option Tree
first_smaller n [] = None
first_smaller n (u ∷ us) = if nat_lt (size u) n then Some u else first_smaller n us

abbrev pub truth_of : Tree → Option Tree
truth_of t = first_smaller (size t) (of_sides t)

-- the same, head by head, where the sides have nodes

abbrev pub shorter_than_equality : (m n : Tree) → Option Tree
shorter_than_equality m n = if same_tree n yes then Some m else if same_tree n m then Some yes else None

abbrev pub shorter_than_and : (m n : Tree) → Option Tree
shorter_than_and m n =
    if same_tree n yes then Some m else if same_tree m yes then Some n else if same_tree n no then Some no else if same_tree m no then Some no else None

abbrev pub shorter_than_or : (m n : Tree) → Option Tree
shorter_than_or m n =
    if same_tree n yes then Some yes else if same_tree m yes then Some yes else if same_tree n no then Some m else if same_tree m no then Some n else None

abbrev pub under_not : Tree → Option Tree
under_not (Node Not m e) = Some m
under_not t = None

abbrev pub shorter_than_not : (m : Tree) → Option Tree
shorter_than_not m = if same_tree m yes then Some no else if same_tree m no then Some yes else under_not m

-- the tree that the code answers
abbrev pub outcome_tree : List KindTree → Outcome → Tree
outcome_tree trees (outcome.Part n) = tree_at trees n
outcome_tree trees outcome.True = yes
outcome_tree trees outcome.False = no
