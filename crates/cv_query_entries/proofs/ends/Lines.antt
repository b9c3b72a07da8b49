-- What lines say, the first and those behind it.
use Rattle.std.proofs.Common.{◌≡◌, List, [], ◌∷◌, Some, Option, refl, ap, ◌∙◌}
use Rattle.cv_pool.specs.declared.node.NodeId.{NodeId}
use Rattle.cv_pool.specs.KindTree.{KindTree}
use Rattle.cv_syntax_trees.specs.declared.head.Head.{Head}
use Rattle.cv_syntax_trees.specs.declared.head.Head.TheVariants as head
use Rattle.cv_syntax.specs.declared.open.Opened.{Opened}
use Rattle.cv_syntax_trees.specs.Tree.{Tree, Empty, Node}
use Rattle.cv_syntax.specs.PoolTrees.{tree_at}
use Rattle.cv_scene.specs.lines.Lines.{Lines, End, By, Cases, Statement, Holds, lines_of, statements}
use Rattle.cv_derive_lines.specs.declared.lines.Line.{Line}
use Rattle.cv_derive_lines.specs.declared.lines.Claim.{Claim}
use Rattle.cv_derive_lines.specs.Views.{front, in_front, statement_of}
use Rattle.cv_derive_lines.proofs.Fronts.{line_at, lines_front, no_lines}

pub nothing_said : (t : Tree) → t ≡ Empty → statements (lines_of t) ≡ []
unfolding statements
nothing_said t e = ap statements (no_lines t e)

abbrev pub first_said : Lines → Statement
first_said End = Holds Empty
first_said (By t r rest) = t
first_said (Cases c d e u rest) = Holds u

front_said : (a : Tree) (rest : Lines) → statements (front a rest) ≡ first_said (front a rest) ∷ statements rest
unfolding statements
front_said Empty rest = refl
front_said (Node head.Line t r) rest = refl
front_said (Node head.Defined t r) rest = refl
front_said (Node head.Cases t (Node d first (Node e second u))) rest = refl
front_said (Node head.Cases t (Node d first Empty)) rest = refl
front_said (Node head.Cases t Empty) rest = refl
front_said (Node h t r) rest = refl

pub some_said : (h : Head) (a b : Tree) → statements (lines_of (Node h a b)) ≡ first_said (front a (lines_of b)) ∷ statements (lines_of b)
some_said h a b = ap statements (lines_front h a b) ∙ front_said a (lines_of b)

module _ (trees : List KindTree) (at : Option NodeId) (k : NodeId) (o : Opened) (e : at ≡ Some k) (f : tree_at trees (Some k) ≡ Node o.head (tree_at trees o.first) (tree_at trees o.second)) where
  -- some statement, and those behind
  pub said_behind : statements (lines_of (tree_at trees at)) ≡ first_said (front (tree_at trees o.first) (lines_of (tree_at trees o.second))) ∷ statements (lines_of (tree_at trees o.second))
  said_behind = ap (λ t. statements (lines_of t)) (ap (tree_at trees) e ∙ f) ∙ some_said o.head (tree_at trees o.first) (tree_at trees o.second)

  -- the statement of the line there
  pub said_at : (L : Line) (T : Claim) → ((rest : Lines) → in_front trees L rest ≡ front (tree_at trees o.first) rest) → ((trees : List KindTree) (rest : Lines) → statements (in_front trees L rest) ≡ statement_of trees T ∷ statements rest) → statements (lines_of (tree_at trees at)) ≡ statement_of trees T ∷ statements (lines_of (tree_at trees o.second))
  said_at L T g h = ap statements (line_at trees at k o L e f g) ∙ h trees (lines_of (tree_at trees o.second))
