-- What is found in the lines of a chain, item by item.
use Rattle.std.proofs.Common.{◌≡◌, ℕ, List, Some, None, Option, ap}
use Rattle.cv_pool.specs.declared.node.NodeId.{NodeId}
use Rattle.cv_pool.specs.KindTree.{KindTree}
use Rattle.cv_syntax.specs.declared.open.Opened.{Opened}
use Rattle.cv_syntax_trees.specs.Tree.{Tree, Empty, Node}
use Rattle.cv_syntax.specs.PoolTrees.{tree_at}
use Rattle.cv_scene.specs.lines.Lines.{Lines, lines_of}
use Rattle.cv_derive_lines.specs.declared.lines.Line.{Line}
use Rattle.cv_derive_lines.specs.Views.{front, in_front}
use Rattle.cv_derive_lines.proofs.Fronts.{line_at, no_lines}
use Rattle.cv_derive_lines.specs.citing.Citing.{cited_from}

pub cited_at : (trees : List KindTree) (at : Option NodeId) (k : NodeId) (o : Opened) (L : Line) → at ≡ Some k → tree_at trees (Some k) ≡ Node o.head (tree_at trees o.first) (tree_at trees o.second) → ((rest : Lines) → in_front trees L rest ≡ front (tree_at trees o.first) rest) → (s n l : ℕ) → cited_from (lines_of (tree_at trees at)) s n l ≡ cited_from (in_front trees L (lines_of (tree_at trees o.second))) s n l
cited_at trees at k o L e f g s n l = ap (λ ls. cited_from ls s n l) (line_at trees at k o L e f g)

pub cited_none : (t : Tree) (s n l : ℕ) → t ≡ Empty → cited_from (lines_of t) s n l ≡ None
unfolding cited_from
cited_none t s n l e = ap (λ ls. cited_from ls s n l) (no_lines t e)
