-- Building trees in a pool that grows.
use Rattle.std.proofs.Common.{◌≡◌, ℕ, zero, suc, ◌+◌, ◌-◌, ◌<◌, List, [], ◌∷◌, length, take, drop, refl, ap, sym, ◌∙◌, arith, get_or, subst, Option, Some, None}
use Rattle.std.specs.Prelude.{All}
use Rattle.std.proofs.lemmas.List.{drop_more, drop_all, take-map, length-map}
use Rattle.cv_syntax_trees.specs.declared.head.Head.{Head}
use Rattle.cv_syntax_trees.specs.declared.head.Head.TheVariants.{Cons}
use Rattle.cv_pool.specs.declared.node.NodeId.{NodeId}
use Rattle.cv_pool.specs.declared.node.Kind.{Kind}
use Rattle.cv_pool.specs.KindTree.{KindTree, Fork}
use Rattle.cv_syntax.specs.Layouts.{trees_of, item, all_but, first_part, second_part, layout_of, arranged}
use Rattle.cv_pool.specs.Nodes.{ChildBelow}
use Rattle.cv_syntax.specs.declared.layout.Layout.{Layout}
use Rattle.cv_syntax.specs.declared.layout.Layout.TheVariants.{Taking, Giving, Three, Chosen}
use Rattle.cv_pool.specs.PoolView.{PoolView, Grows}
use Rattle.cv_syntax_trees.specs.Tree.{Tree, Empty, Node, chain}
use Rattle.cv_syntax.specs.PoolTrees.{tree_of, tree_at, kind_of_head, head_of_kind}
use Rattle.cv_pool.proofs.Growth.{Grows_at, Grows_child, Grows_length}

-- the trees of live nodes stay
pub trees_kept : (old new : PoolView) (ns : List NodeId) → Grows old new → All (λ (n : NodeId). n.0 < length old.trees) ns → trees_of new.trees ns ≡ trees_of old.trees ns
trees_kept old new [] g a = refl
trees_kept old new (n ∷ ns) g a =
    let here : tree_at new.trees (Some n) ≡ tree_at old.trees (Some n) = ap tree_of (Grows_at old new n.0 g (a zero n (omega arith))) in
    let rest : trees_of new.trees ns ≡ trees_of old.trees ns = trees_kept old new ns g (λ k d l. a (suc k) d (omega arith)) in
    cc

pub live_kept : (old new : PoolView) (ns : List NodeId) → Grows old new → All (λ (n : NodeId). n.0 < length old.trees) ns → All (λ (n : NodeId). n.0 < length new.trees) ns
live_kept old new ns g a = λ k d l. let b = a k d l in let c = Grows_length old new g in omega arith

pub length_trees_of : (trees : List KindTree) (ns : List NodeId) → length (trees_of trees ns) ≡ length ns
length_trees_of trees ns = length-map ns (λ n. tree_at trees (Some n))

-- the tree of a node of a list
pub item_trees_of : (trees : List KindTree) (ns : List NodeId) (k : ℕ) (d : NodeId) → k < length ns → item (trees_of trees ns) k ≡ tree_at trees (Some (get_or ns k d))
item_trees_of trees [] k d h = absurd (omega arith)
item_trees_of trees (n ∷ ns) zero d h = refl
item_trees_of trees (n ∷ ns) (suc k) d h = item_trees_of trees ns k d (omega arith)

pub take_trees_of : (trees : List KindTree) (ns : List NodeId) (k : ℕ) → trees_of trees (take k ns) ≡ take k (trees_of trees ns)
take_trees_of trees ns k = sym (take-map (λ n. tree_at trees (Some n)) k ns)

pub tree_node : (t : KindTree) (k : Kind) (a b : KindTree) → t ≡ Fork k a b → tree_of t ≡ Node (head_of_kind k) (tree_of a) (tree_of b)
unfolding tree_of
tree_node t k a b e = ap tree_of e

-- a node that holds a list together
pub tree_cons : (t : Tree) (k : Kind) (a b : Tree) → t ≡ Node (head_of_kind k) a b → k ≡ kind_of_head Cons → t ≡ Node Cons a b
tree_cons t k a b e f = e ∙ ap (λ h. Node h a b) (ap head_of_kind f)

-- one item more
pub chain_step : (old now new : PoolView) (ns : List NodeId) (k : ℕ) (n : NodeId) (d : NodeId) (list : Option NodeId) (id : NodeId) (c : Kind) → Grows old now → All (λ (n : NodeId). n.0 < length old.trees) ns → k < length ns → n ≡ get_or ns k d → c ≡ kind_of_head Cons → tree_at now.trees list ≡ chain (drop (k + 1) (trees_of old.trees ns)) → tree_at new.trees (Some id) ≡ Node (head_of_kind c) (tree_at now.trees (Some n)) (tree_at now.trees list) → tree_at new.trees (Some id) ≡ chain (drop k (trees_of old.trees ns))
chain_step old now new ns k n d list id c g a h e f l t =
    let within : k < length (trees_of old.trees ns) = omega (arith, length_trees_of old.trees ns) in
    let live : n.0 < length old.trees = subst (λ (m : NodeId). m.0 < length old.trees) (sym e) (a k d h) in
    let first : tree_at now.trees (Some n) ≡ item (trees_of old.trees ns) k = ap tree_of (Grows_at old now n.0 g live) ∙ (ap (λ m. tree_at old.trees (Some m)) e ∙ sym (item_trees_of old.trees ns k d h)) in
    tree_cons (tree_at new.trees (Some id)) c (tree_at now.trees (Some n)) (tree_at now.trees list) t f
    ∙ (ap (λ u. Node Cons u (tree_at now.trees list)) first ∙ (ap (λ u. Node Cons (item (trees_of old.trees ns) k) u) l
    ∙ ap chain (sym (drop_more (trees_of old.trees ns) k Empty within))))

pub list_init : (trees : List KindTree) (ns : List NodeId) → tree_at trees None ≡ chain (drop (length ns) (trees_of trees ns))
unfolding tree_of
list_init trees ns = ap chain (sym (drop_all (length ns) (trees_of trees ns) (omega (arith, length_trees_of trees ns))))

pub nothing : (trees : List KindTree) → tree_at trees None ≡ Empty
unfolding tree_of
nothing trees = refl

-- the trees of a list that lacks its last nodes
pub chain_front : (trees : List KindTree) (ns ms : List NodeId) (t : Tree) (n : ℕ) → ms ≡ take (length ns - n) ns → t ≡ chain (trees_of trees ms) → t ≡ chain (all_but n (trees_of trees ns))
chain_front trees ns ms t n e f =
    f ∙ ap chain (ap (trees_of trees) e ∙ (take_trees_of trees ns (length ns - n) ∙ ap (λ l. take (l - n) (trees_of trees ns)) (sym (length_trees_of trees ns))))

-- a live tree of a list, in a pool that grew
pub item_grown : (old new : PoolView) (ns : List NodeId) (k : ℕ) (d : NodeId) → Grows old new → All (λ (n : NodeId). n.0 < length old.trees) ns → k < length ns → tree_at new.trees (Some (get_or ns k d)) ≡ item (trees_of old.trees ns) k
item_grown old new ns k d g a h = ap tree_of (Grows_at old new (get_or ns k d).0 g (a k d h)) ∙ sym (item_trees_of old.trees ns k d h)

-- a live child, in a pool that grew
pub child_grown : (old new : PoolView) (o : Option NodeId) → Grows old new → ChildBelow (length old.trees) o → tree_at new.trees o ≡ tree_at old.trees o
child_grown old new o g b = ap tree_of (Grows_child old new o g b)

-- the first and the second child of each layout that has cells of its own
pub taking : (old mid new : PoolView) (ns : List NodeId) (list : Option NodeId) (id : NodeId) (k : Kind) → k ≡ kind_of_head Cons → tree_at mid.trees list ≡ chain (trees_of old.trees (take (length ns - 1) ns)) → tree_at new.trees (Some id) ≡ Node (head_of_kind k) (tree_at mid.trees list) (tree_at mid.trees None) → tree_at new.trees (Some id) ≡ first_part Taking (trees_of old.trees ns)
taking old mid new ns list id k e l t =
    tree_cons (tree_at new.trees (Some id)) k (tree_at mid.trees list) (tree_at mid.trees None) t e
    ∙ (ap (λ u. Node Cons u (tree_at mid.trees None)) (chain_front old.trees ns (take (length ns - 1) ns) (tree_at mid.trees list) 1 refl l)
    ∙ ap (λ u. Node Cons (chain (all_but 1 (trees_of old.trees ns))) u) (nothing mid.trees))

pub giving : (old mid new : PoolView) (ns : List NodeId) (list : Option NodeId) (id : NodeId) (k : Kind) → k ≡ kind_of_head Cons → tree_at mid.trees list ≡ chain (trees_of old.trees (take (length ns - 1) ns)) → tree_at new.trees (Some id) ≡ Node (head_of_kind k) (tree_at mid.trees None) (tree_at mid.trees list) → tree_at new.trees (Some id) ≡ first_part Giving (trees_of old.trees ns)
giving old mid new ns list id k e l t =
    tree_cons (tree_at new.trees (Some id)) k (tree_at mid.trees None) (tree_at mid.trees list) t e
    ∙ (ap (λ u. Node Cons (tree_at mid.trees None) u) (chain_front old.trees ns (take (length ns - 1) ns) (tree_at mid.trees list) 1 refl l)
    ∙ ap (λ u. Node Cons u (chain (all_but 1 (trees_of old.trees ns)))) (nothing mid.trees))

pub three : (old mid new : PoolView) (ns : List NodeId) (d : NodeId) (rest id : NodeId) (j k : Kind) → length ns ≡ 3 → All (λ (n : NodeId). n.0 < length old.trees) ns → Grows old mid → j ≡ kind_of_head Cons → k ≡ kind_of_head Cons → tree_at mid.trees (Some rest) ≡ Node (head_of_kind j) (tree_at old.trees (Some (get_or ns 2 d))) (tree_at old.trees None) → tree_at new.trees (Some id) ≡ Node (head_of_kind k) (tree_at mid.trees (Some (get_or ns 1 d))) (tree_at mid.trees (Some rest)) → tree_at new.trees (Some id) ≡ second_part Three (trees_of old.trees ns)
three old mid new ns d rest id j k n a g ej ek r t =
    let ts = trees_of old.trees ns in
    tree_cons (tree_at new.trees (Some id)) k (tree_at mid.trees (Some (get_or ns 1 d))) (tree_at mid.trees (Some rest)) t ek
    ∙ (ap (λ u. Node Cons u (tree_at mid.trees (Some rest))) (item_grown old mid ns 1 d g a (omega arith))
    ∙ ap (λ u. Node Cons (item ts 1) u) (tree_cons (tree_at mid.trees (Some rest)) j (tree_at old.trees (Some (get_or ns 2 d))) (tree_at old.trees None) r ej
    ∙ (ap (λ u. Node Cons u (tree_at old.trees None)) (sym (item_trees_of old.trees ns 2 d (omega arith)))
    ∙ ap (λ u. Node Cons (item ts 2) u) (nothing old.trees))))

pub chosen : (old low mid new : PoolView) (ns : List NodeId) (d : NodeId) (cells : Option NodeId) (body id : NodeId) (j k : Kind) → 1 < length ns → All (λ (n : NodeId). n.0 < length old.trees) ns → Grows old low → Grows low mid → ChildBelow (length low.trees) cells → j ≡ kind_of_head Cons → k ≡ kind_of_head Cons → tree_at low.trees cells ≡ chain (trees_of old.trees (take (length ns - 2) ns)) → tree_at mid.trees (Some body) ≡ Node (head_of_kind j) (tree_at low.trees (Some (get_or ns (length ns - 2) d))) (tree_at low.trees (Some (get_or ns (length ns - 1) d))) → tree_at new.trees (Some id) ≡ Node (head_of_kind k) (tree_at mid.trees cells) (tree_at mid.trees (Some body)) → tree_at new.trees (Some id) ≡ second_part Chosen (trees_of old.trees ns)
chosen old low mid new ns d cells body id j k n a g h b ej ek l r t =
    let ts = trees_of old.trees ns in
    let size : length ns ≡ length ts = sym (length_trees_of old.trees ns) in
    let inner : tree_at mid.trees (Some body) ≡ Node Cons (item ts (length ns - 2)) (item ts (length ns - 1)) =
    tree_cons (tree_at mid.trees (Some body)) j (tree_at low.trees (Some (get_or ns (length ns - 2) d))) (tree_at low.trees (Some (get_or ns (length ns - 1) d))) r ej
    ∙ (ap (λ u. Node Cons u (tree_at low.trees (Some (get_or ns (length ns - 1) d)))) (item_grown old low ns (length ns - 2) d g a (omega arith))
    ∙ ap (λ u. Node Cons (item ts (length ns - 2)) u) (item_grown old low ns (length ns - 1) d g a (omega arith))) in
    tree_cons (tree_at new.trees (Some id)) k (tree_at mid.trees cells) (tree_at mid.trees (Some body)) t ek
    ∙ (ap (λ u. Node Cons u (tree_at mid.trees (Some body))) (child_grown low mid cells h b ∙ chain_front old.trees ns (take (length ns - 2) ns) (tree_at low.trees cells) 2 refl l)
    ∙ (ap (λ u. Node Cons (chain (all_but 2 ts)) u) inner
    ∙ ap (λ m. Node Cons (chain (all_but 2 ts)) (Node Cons (item ts (m - 2)) (item ts (m - 1)))) size))

-- a node over its two parts
pub whole : (old low mid new : PoolView) (ns : List NodeId) (l : Layout) (h : Head) (first second : Option NodeId) (id : NodeId) (k : Kind) → l ≡ layout_of h (length ns) → h ≡ head_of_kind k → All (λ (n : NodeId). n.0 < length old.trees) ns → Grows old low → Grows low mid → ChildBelow (length low.trees) first → tree_at low.trees first ≡ first_part l (trees_of old.trees ns) → tree_at mid.trees second ≡ second_part l (trees_of low.trees ns) → tree_at new.trees (Some id) ≡ Node (head_of_kind k) (tree_at mid.trees first) (tree_at mid.trees second) → tree_at new.trees (Some id) ≡ arranged (head_of_kind k) (trees_of old.trees ns)
whole old low mid new ns l h first second id k el eh a g gg b f s t =
    let ts = trees_of old.trees ns in
    let lay : l ≡ layout_of (head_of_kind k) (length ts) = el ∙ (ap (λ x. layout_of x (length ns)) eh ∙ ap (layout_of (head_of_kind k)) (sym (length_trees_of old.trees ns))) in
    t ∙ (ap (λ u. Node (head_of_kind k) u (tree_at mid.trees second)) (child_grown low mid first gg b ∙ f)
    ∙ (ap (λ u. Node (head_of_kind k) (first_part l ts) u) (s ∙ ap (second_part l) (trees_kept old low ns g a))
    ∙ ap (λ x. Node (head_of_kind k) (first_part x ts) (second_part x ts)) lay))

pub ruleset kept = (live_kept, length_trees_of, take_trees_of)
