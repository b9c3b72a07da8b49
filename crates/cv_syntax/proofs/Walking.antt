-- Walks over trees.
use Rattle.std.proofs.Common.{◌≡◌, ℕ, zero, suc, ◌+◌, ◌<◌, ◌≤◌, max, List, [], ◌∷◌, ◌++◌, length, refl, ap, sym, ◌∙◌, arith, length-append, Option, Some, None, Ok, Err, Result}
use Rattle.std.specs.Prelude.{slice_get, ◌==◌, if◌then◌else◌}
use Rattle.cv_syntax_trees.specs.declared.head.Head.{Head}
use Rattle.cv_pool.specs.declared.node.NodeId.{NodeId}
use Rattle.cv_syntax.specs.declared.open.Opened.{Opened}
use Rattle.cv_syntax_trees.specs.declared.head.Head.TheVariants.{Cons}
use Rattle.cv_syntax_trees.specs.Head.{weight}
use Rattle.cv_pool.specs.declared.node.Kind.{Kind}
use Rattle.cv_pool.specs.KindTree.{KindTree, NoTree, Fork}
use Rattle.cv_pool.specs.Nodes.{ChildBelow}
use Rattle.cv_syntax_trees.specs.Tree.{Tree, Empty, Node, size, depth, tops, children}
use Rattle.cv_syntax.specs.PoolTrees.{tree_of, tree_at, head_of_kind}
use Rattle.cv_syntax.specs.Walks.{Reaches, above}

pub weight_le : (h : Head) → weight h ≤ 1
weight_le Cons = omega arith
weight_le h = omega arith

pub size_node : (t : Tree) (h : Head) (a b : Tree) → t ≡ Node h a b → size t ≡ weight h + size a + size b
unfolding size
size_node t h a b e = ap size e

pub size_none : (trees : List KindTree) → size (tree_at trees None) ≡ 0
unfolding size tree_of
size_none trees = refl

pub depth_node : (t : Tree) (h : Head) (a b : Tree) → t ≡ Node h a b → depth t ≡ weight h + max (depth a) (depth b)
unfolding depth
depth_node t h a b e = ap depth e

pub depth_none : (trees : List KindTree) → depth (tree_at trees None) ≡ 0
unfolding depth tree_of
depth_none trees = refl

pub depth_le_size : (t : Tree) → depth t ≤ size t
unfolding depth size
depth_le_size Empty = omega arith
depth_le_size (Node h a b) = omega (arith, depth_le_size a, depth_le_size b)

pub tops_none : (trees : List KindTree) → tops (tree_at trees None) ≡ []
unfolding tops tree_of
tops_none trees = refl

pub tops_heavy : (t : Tree) (h : Head) (a b : Tree) → t ≡ Node h a b → weight h ≡ 1 → tops t ≡ t ∷ []
unfolding tops
tops_heavy t h a b e w = ap tops e ∙ (ap (λ n. if n == 1 then Node h a b ∷ [] else tops a ++ tops b) w ∙ ap (λ u. u ∷ []) (sym e))

light : (n : ℕ) (x y : List Tree) → n ≤ 1 → (n ≡ 1 → ⊥) → (if n == 1 then x else y) ≡ y
light zero x y h l = refl
light (suc n) x y h l = absurd (l (omega arith))

pub tops_light : (t : Tree) (h : Head) (a b : Tree) → t ≡ Node h a b → weight h ≤ 1 → (weight h ≡ 1 → ⊥) → tops t ≡ tops a ++ tops b
unfolding tops
tops_light t h a b e w l = ap tops e ∙ light (weight h) (Node h a b ∷ []) (tops a ++ tops b) w l

pub size_at : (trees : List KindTree) (at : Option NodeId) (k : NodeId) (o : Opened) → at ≡ Some k → tree_at trees (Some k) ≡ Node o.head (tree_at trees o.first) (tree_at trees o.second) → size (tree_at trees at) ≡ weight o.head + size (tree_at trees o.first) + size (tree_at trees o.second)
size_at trees at k o e f = ap (λ a. size (tree_at trees a)) e ∙ size_node (tree_at trees (Some k)) o.head (tree_at trees o.first) (tree_at trees o.second) f

pub depth_at : (trees : List KindTree) (at : Option NodeId) (k : NodeId) (o : Opened) → at ≡ Some k → tree_at trees (Some k) ≡ Node o.head (tree_at trees o.first) (tree_at trees o.second) → depth (tree_at trees at) ≡ weight o.head + max (depth (tree_at trees o.first)) (depth (tree_at trees o.second))
depth_at trees at k o e f = ap (λ a. depth (tree_at trees a)) e ∙ depth_node (tree_at trees (Some k)) o.head (tree_at trees o.first) (tree_at trees o.second) f

pub size_same : (trees : List KindTree) (a b : Option NodeId) → a ≡ b → size (tree_at trees a) ≡ size (tree_at trees b)
size_same trees a b e = ap (λ o. size (tree_at trees o)) e

pub depth_same : (trees : List KindTree) (a b : Option NodeId) → a ≡ b → depth (tree_at trees a) ≡ depth (tree_at trees b)
depth_same trees a b e = ap (λ o. depth (tree_at trees o)) e

pub size_end : (trees : List KindTree) (a : Option NodeId) → a ≡ None → size (tree_at trees a) ≡ 0
size_end trees a e = size_same trees a None e ∙ size_none trees

pub depth_end : (trees : List KindTree) (a : Option NodeId) → a ≡ None → depth (tree_at trees a) ≡ 0
depth_end trees a e = depth_same trees a None e ∙ depth_none trees

get_left : (xs ys : List Tree) (i : ℕ) (t : Tree) → slice_get xs i ≡ Some t → slice_get (xs ++ ys) i ≡ Some t
get_left [] ys i t h = absurd (cc)
get_left (x ∷ xs) ys zero t h = h
get_left (x ∷ xs) ys (suc i) t h = get_left xs ys i t h

get_right : (xs ys : List Tree) (i j : ℕ) → j + length xs ≡ i → slice_get (xs ++ ys) i ≡ slice_get ys j
get_right [] ys i j e = let f : i ≡ j = omega arith in ap (slice_get ys) f
get_right (x ∷ xs) ys zero j e = absurd (omega arith)
get_right (x ∷ xs) ys (suc i) j e = let f : j + length xs ≡ i = omega arith in get_right xs ys i j f

pub reach_left : (trees : List KindTree) (xs ys : List Tree) (low high place : ℕ) (n : NodeId) → low ≤ high → Reaches trees xs low place (Ok n) → Reaches trees (xs ++ ys) high place (Ok n)
reach_left trees xs ys low high place n h r = (get_left xs ys place (tree_at trees (Some n)) r.0, omega arith)

pub reach_right : (trees : List KindTree) (xs ys : List Tree) (low high place left : ℕ) (r : Result NodeId ℕ) → Reaches trees xs low place (Err left) → Reaches trees ys high left r → Reaches trees (xs ++ ys) high place r
reach_right trees xs ys low high place left (Ok n) e r = (get_right xs ys place left e ∙ r.0, r.1)
reach_right trees xs ys low high place left (Err rest) e r = omega (arith, length-append xs ys)

-- at a syntax node the walk ends
pub reach_here : (trees : List KindTree) (at : Option NodeId) (k : NodeId) (o : Opened) (bound : ℕ) → at ≡ Some k → tree_at trees (Some k) ≡ Node o.head (tree_at trees o.first) (tree_at trees o.second) → weight o.head ≡ 1 → k.0 < bound → Reaches trees (tops (tree_at trees at)) bound 0 (Ok k)
reach_here trees at k o bound e f w l = (ap (λ ts. slice_get ts 0) (ap (λ a. tops (tree_at trees a)) e ∙ tops_heavy (tree_at trees (Some k)) o.head (tree_at trees o.first) (tree_at trees o.second) f w), l)

pub reach_past : (trees : List KindTree) (at : Option NodeId) (k : NodeId) (o : Opened) (bound place left : ℕ) → at ≡ Some k → tree_at trees (Some k) ≡ Node o.head (tree_at trees o.first) (tree_at trees o.second) → weight o.head ≡ 1 → left + 1 ≡ place → Reaches trees (tops (tree_at trees at)) bound place (Err left)
reach_past trees at k o bound place left e f w l = omega (arith, ap length (ap (λ a. tops (tree_at trees a)) e ∙ tops_heavy (tree_at trees (Some k)) o.head (tree_at trees o.first) (tree_at trees o.second) f w))

-- a list is looked through
pub tops_at : (trees : List KindTree) (at : Option NodeId) (k : NodeId) (o : Opened) → at ≡ Some k → tree_at trees (Some k) ≡ Node o.head (tree_at trees o.first) (tree_at trees o.second) → weight o.head ≤ 1 → (weight o.head ≡ 1 → ⊥) → tops (tree_at trees at) ≡ tops (tree_at trees o.first) ++ tops (tree_at trees o.second)
tops_at trees at k o e f w l = ap (λ a. tops (tree_at trees a)) e ∙ tops_light (tree_at trees (Some k)) o.head (tree_at trees o.first) (tree_at trees o.second) f w l

pub tops_end : (trees : List KindTree) (a : Option NodeId) → a ≡ None → tops (tree_at trees a) ≡ []
tops_end trees a e = ap (λ o. tops (tree_at trees o)) e ∙ tops_none trees

-- nothing stands past a list
pub past_none : (xs : List Tree) (place left : ℕ) → left + length xs ≡ place → None ≡ slice_get xs place
past_none [] place left e = refl
past_none (x ∷ xs) zero left e = absurd (omega arith)
past_none (x ∷ xs) (suc place) left e = past_none xs place left (omega arith)

pub children_node : (t : Tree) (h : Head) (a b : Tree) → t ≡ Node h a b → children t ≡ tops a ++ tops b
children_node t h a b e = ap children e

pub children_at : (trees : List KindTree) (n : NodeId) (o : Opened) → tree_at trees (Some n) ≡ Node o.head (tree_at trees o.first) (tree_at trees o.second) → children (tree_at trees (Some n)) ≡ tops (tree_at trees o.first) ++ tops (tree_at trees o.second)
children_at trees n o f = children_node (tree_at trees (Some n)) o.head (tree_at trees o.first) (tree_at trees o.second) f

pub below_some : (n : ℕ) (o : Option NodeId) (k : NodeId) → o ≡ Some k → ChildBelow n o → k.0 < n
below_some n None k e b = absurd (cc)
below_some n (Some j) k e b = let f : j.0 ≡ k.0 = cc in omega arith

pub above_child : (n : ℕ) (o : Option NodeId) → ChildBelow n o → above o ≤ n
above_child n None b = omega arith
above_child n (Some k) b = omega arith

pub live_child : (m n : ℕ) (o : Option NodeId) → n ≤ m → ChildBelow n o → ChildBelow m o
live_child m n None h b = tt
live_child m n (Some k) h b = omega arith

pub above_some : (o : Option NodeId) (k : NodeId) → o ≡ Some k → above o ≡ k.0 + 1
above_some o k e = ap above e

pub child_none : (trees : List KindTree) (n : NodeId) (o : Opened) (place left bound : ℕ) → tree_at trees (Some n) ≡ Node o.head (tree_at trees o.first) (tree_at trees o.second) → Reaches trees (tops (tree_at trees o.first) ++ tops (tree_at trees o.second)) bound place (Err left) → None ≡ slice_get (children (tree_at trees (Some n))) place
child_none trees n o place left bound e r = past_none (tops (tree_at trees o.first) ++ tops (tree_at trees o.second)) place left r ∙ sym (ap (λ ts. slice_get ts place) (children_at trees n o e))

-- the size of a node of a pool, by the sizes of its children
pub size_fork : (t : KindTree) (k : Kind) (a b : KindTree) → t ≡ Fork k a b → size (tree_of t) ≤ size (tree_of a) + size (tree_of b) + 1
unfolding size tree_of
size_fork t k a b e = let s = ap (λ x. size (tree_of x)) e in let w = weight_le (head_of_kind k) in omega arith

pub size_nothing : size (tree_of NoTree) ≡ 0
unfolding size tree_of
size_nothing = refl

pub ruleset walking = (depth_le_size)
