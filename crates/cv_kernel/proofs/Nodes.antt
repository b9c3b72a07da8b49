-- All nodes of a tree are at least its syntax nodes, and at least the lines of a derivation.
use Rattle.std.proofs.Common.{◌≡◌, ℕ, ◌+◌, ◌≤◌, [], ◌∷◌, ◌++◌, arith}
use Rattle.cv_syntax_trees.specs.declared.head.Head.{Head}
use Rattle.cv_syntax_trees.specs.declared.head.Head.TheVariants as head
use Rattle.cv_syntax.specs.declared.make.Make.TheVariants as make
use Rattle.cv_syntax.specs.Postorder.{postorder}
use Rattle.cv_syntax_trees.specs.Tree.{Tree, Empty, Node, first, second, size}
use Rattle.cv_scene.specs.lines.Lines.{count, lines_of}
use Rattle.cv_syntax.specs.limits.Limits.{nodes_of}
use Rattle.cv_syntax.proofs.Walking.{weight_le}
use Rattle.cv_syntax.proofs.listing.Lists.{overs_append}

pub nodes_node : (h : Head) (a b : Tree) → nodes_of (Node h a b) ≡ nodes_of a + nodes_of b + 1
unfolding postorder
nodes_node h a b = omega (arith, overs_append (postorder a) (postorder b ++ make.Over h ∷ []), overs_append (postorder b) (make.Over h ∷ []))

pub size_nodes : (t : Tree) → size t ≤ nodes_of t
unfolding size
size_nodes Empty = omega arith
size_nodes (Node h a b) = omega (arith, weight_le h, nodes_node h a b, size_nodes a, size_nodes b)

pub first_nodes : (t : Tree) → nodes_of (first t) ≤ nodes_of t
first_nodes Empty = omega arith
first_nodes (Node h a b) = omega (arith, nodes_node h a b)

pub second_nodes : (t : Tree) → nodes_of (second t) ≤ nodes_of t
second_nodes Empty = omega arith
second_nodes (Node h a b) = omega (arith, nodes_node h a b)

-- one line, and those behind it
one_line : (c : Head) (u rest : Tree) (n : ℕ) → n ≤ nodes_of rest → 1 + n ≤ nodes_of (Node c u rest)
one_line c u rest n l = omega (arith, nodes_node c u rest)

pub lines_nodes : (t : Tree) → count (lines_of t) ≤ nodes_of t
unfolding lines_of count
lines_nodes Empty = omega arith
lines_nodes (Node c (Node head.Cases t (Node d a (Node e b u))) rest) =
    omega (
      arith,
      nodes_node c (Node head.Cases t (Node d a (Node e b u))) rest,
      nodes_node head.Cases t (Node d a (Node e b u)),
      nodes_node d a (Node e b u),
      nodes_node e b u,
      lines_nodes a,
      lines_nodes b,
      lines_nodes rest,
    )
lines_nodes (Node c u rest) = one_line c u rest (count (lines_of rest)) (lines_nodes rest)
