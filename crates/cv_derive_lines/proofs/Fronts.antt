-- The lines of a derivation, item by item.
use Rattle.std.proofs.Common.{◌≡◌, ℕ, ◌+◌, List, Some, None, Option, refl, sym, ap, subst, ◌∙◌}
use Rattle.cv_pool.specs.declared.node.NodeId.{NodeId}
use Rattle.cv_pool.specs.KindTree.{KindTree}
use Rattle.cv_syntax_trees.specs.declared.head.Head.{Head}
use Rattle.cv_syntax_trees.specs.declared.head.Head.TheVariants as head
use Rattle.cv_syntax.specs.declared.open.Opened.{Opened}
use Rattle.cv_syntax_trees.specs.Tree.{Tree, Empty, Node}
use Rattle.cv_syntax.specs.PoolTrees.{tree_at}
use Rattle.cv_syntax.proofs.Trees.{tree_at_None}
use Rattle.cv_scene.specs.lines.Lines.{Lines, End, By, Holds, count, lines_of}
use Rattle.cv_derive_lines.specs.declared.lines.Line.{Line}
use Rattle.cv_derive_lines.specs.declared.lines.Line.TheVariants as line
use Rattle.cv_derive_lines.specs.declared.lines.Claim.{Claim}
use Rattle.cv_derive_lines.specs.declared.lines.Claim.TheVariants as claim
use Rattle.cv_derive_lines.specs.Views.{AreBelow, front, in_front}

pub no_lines : (t : Tree) → t ≡ Empty → lines_of t ≡ End
unfolding lines_of
no_lines t e = ap lines_of e

pub lines_front : (c : Head) (t rest : Tree) → lines_of (Node c t rest) ≡ front t (lines_of rest)
unfolding lines_of
lines_front c Empty rest = refl
lines_front c (Node head.Line t r) rest = refl
lines_front c (Node head.Defined t r) rest = refl
lines_front c (Node head.Cases t (Node d first (Node e second u))) rest = refl
lines_front c (Node head.Cases t (Node d first Empty)) rest = refl
lines_front c (Node head.Cases t Empty) rest = refl
lines_front c (Node h t r) rest = refl

pub line_at : (trees : List KindTree) (at : Option NodeId) (k : NodeId) (o : Opened) (L : Line) → at ≡ Some k → tree_at trees (Some k) ≡ Node o.head (tree_at trees o.first) (tree_at trees o.second) → ((rest : Lines) → in_front trees L rest ≡ front (tree_at trees o.first) rest) → lines_of (tree_at trees at) ≡ in_front trees L (lines_of (tree_at trees o.second))
line_at trees at k o L e f g = ap (λ t. lines_of t) (ap (tree_at trees) e ∙ f) ∙ (lines_front o.head (tree_at trees o.first) (tree_at trees o.second) ∙ sym (g (lines_of (tree_at trees o.second))))

-- a tree that is no line

pub nothing_line : (trees : List KindTree) (L : Line) → L ≡ line.By (claim.Holds None) None → (rest : Lines) → in_front trees L rest ≡ By (Holds Empty) Empty rest
nothing_line trees L e rest = ap (λ K. in_front trees K rest) e ∙ ap (λ t. By (Holds t) t rest) (tree_at_None trees)

pub nothing_below : (L : Line) → L ≡ line.By (claim.Holds None) None → (n : ℕ) → AreBelow n L
nothing_below L e n = subst (AreBelow n) (sym e) (tt, tt)

pub cases_empty : (a b : Tree) (rest : Lines) → b ≡ Empty → front (Node head.Cases a b) rest ≡ By (Holds Empty) Empty rest
cases_empty a b rest e = ap (λ t. front (Node head.Cases a t) rest) e

pub cases_short : (a b : Tree) (h : Head) (d e : Tree) (rest : Lines) → b ≡ Node h d e → e ≡ Empty → front (Node head.Cases a b) rest ≡ By (Holds Empty) Empty rest
cases_short a b h d e rest f g = ap (λ t. front (Node head.Cases a t) rest) f ∙ ap (λ t. front (Node head.Cases a (Node h d t)) rest) g

pub front_empty : (t : Tree) (rest : Lines) → t ≡ Empty → front t rest ≡ By (Holds Empty) Empty rest
front_empty t rest e = ap (λ u. front u rest) e

pub front_other : (t : Tree) (h : Head) (a b : Tree) (rest : Lines) → t ≡ Node h a b → (h ≡ head.Line → ⊥) → (h ≡ head.Defined → ⊥) → (h ≡ head.Cases → ⊥) → front t rest ≡ By (Holds Empty) Empty rest
front_other t h a b rest e l d c = ap (λ u. front u rest) e ∙ go h l d c
  where
    go : (h : Head) → (h ≡ head.Line → ⊥) → (h ≡ head.Defined → ⊥) → (h ≡ head.Cases → ⊥) → front (Node h a b) rest ≡ By (Holds Empty) Empty rest
    go head.Line l d c = absurd (l refl)
    go head.Defined l d c = absurd (d refl)
    go head.Cases l d c = absurd (c refl)
    go h l d c = refl

-- how many lines there are from an item on

module _ (trees : List KindTree) (at : Option NodeId) (k : NodeId) (o : Opened) (L : Line) (e : at ≡ Some k) (f : tree_at trees (Some k) ≡ Node o.head (tree_at trees o.first) (tree_at trees o.second)) (g : (rest : Lines) → in_front trees L rest ≡ front (tree_at trees o.first) rest) where
  pub count_at : count (lines_of (tree_at trees at)) ≡ count (in_front trees L (lines_of (tree_at trees o.second)))
  count_at = ap count (line_at trees at k o L e f g)

  pub count_by : (t : Claim) (r : Option NodeId) → L ≡ line.By t r → count (lines_of (tree_at trees at)) ≡ 1 + count (lines_of (tree_at trees o.second))
  unfolding count
  count_by t r i = count_at ∙ ap (λ K. count (in_front trees K (lines_of (tree_at trees o.second)))) i

  pub count_cases : (c d b u : Option NodeId) → L ≡ line.Cases c d b u → count (lines_of (tree_at trees at)) ≡ count (lines_of (tree_at trees d)) + count (lines_of (tree_at trees b)) + 1 + count (lines_of (tree_at trees o.second))
  unfolding count
  count_cases c d b u i = count_at ∙ ap (λ K. count (in_front trees K (lines_of (tree_at trees o.second)))) i

pub count_none : (t : Tree) → t ≡ Empty → count (lines_of t) ≡ 0
unfolding count
count_none t e = ap count (no_lines t e)
