-- How large and how deep a game is in which each definition of a variable has its own name.
use Rattle.std.proofs.Common.{◌≡◌, ℕ, zero, suc, ◌+◌, ◌*◌, ◌<◌, max, Bool, true, false, List, [], ◌∷◌, ◌++◌, length, map, Option, Some, None, refl, sym, ap, ap₂, subst, ◌∙◌, arith}
use Rattle.std.specs.Prelude.{if◌then◌else◌}
use Rattle.std.proofs.Math.Nat.{mul_comm, mul-suc}
use Rattle.std.proofs.lemmas.Bool.{both_ways}
use Rattle.cv_syntax_trees.specs.declared.head.Head.{Head}
use Rattle.cv_syntax_trees.specs.declared.head.Head.TheVariants.{Branch, Cons, Find, In, Par, Repl}
use Rattle.cv_syntax_trees.specs.Head.{weight}
use Rattle.cv_syntax_trees.specs.Tree.{Tree, Empty, Node, depth, first_place, second_place, size}
use Rattle.cv_scope_rules.specs.Context.{cell_of}
use Rattle.cv_scope_rules.specs.Made.{made_by}
use Rattle.cv_scope_rules.specs.Sites.{Variable}
use Rattle.cv_edit_names.specs.Cells.{cells_in, first_unnamed, with_names}
use Rattle.cv_edit_names.specs.Naming.{Naming, name_at, naming_of}
use Rattle.cv_edit_names.specs.Parts.{begins_with_branch, branch_copy}
use Rattle.cv_edit_names.specs.Sizes.{cells_named, copies_with, first_other, named_with, size_in, size_of_copies, size_of_copy, size_of_first, sizes_in}
use Rattle.cv_edit_names.specs.Splitting.{Around, behind, body_place, copies_for, copies_of, followed_by, in_replication, looking_for, message_with_name, names_known, nothing_around, split_branches, split_game, split_in, with_name}
use Rattle.cv_edit_names.proofs.ListedCells.{first_named}
use Rattle.cv_edit_names.proofs.Nodes.{branches_node}
use Rattle.cv_edit_names.proofs.Renamed.{deep, named_depth, named_size, sized, weighed}

-- what a definition changes
behind_looks : (n : Naming) (p : ℕ) (h : Head) (a : Tree) (e : Around) → (behind n p h a e).looked_for ≡ e.looked_for
behind_looks n p h a e = go (made_by h a (Variable n.variable)) where
  go : (v : Bool) → (if v then record e { defined = (cell_of e.replications n.variable, name_at n p) ∷ [] } else e).looked_for ≡ e.looked_for
  go true = refl
  go false = refl

message_size : (n : Naming) (p : ℕ) (a : Tree) → size (message_with_name n p a) ≡ size a
unfolding size
message_size n p Empty = refl
message_size n p (Node h is bs) = omega (arith, sized n.variable (name_at n p) bs)

message_depth : (n : Naming) (p : ℕ) (a : Tree) → depth (message_with_name n p a) ≡ depth a
unfolding depth
message_depth n p Empty = refl
message_depth n p (Node h is bs) = ap (λ d. weight h + max (depth is) d) (deep n.variable (name_at n p) bs)

-- branches of one size, and of one depth, before others

next_product : (k m : ℕ) → suc k * m ≡ k * m + m
next_product k m = mul_comm (suc k) m ∙ (mul-suc m k ∙ ap (λ n. n + m) (mul_comm m k))

module _ (f : Around → Tree) (m : ℕ) (e : Around) (c rest : Tree) where
  each_size : ((y : ℕ) → size (f (looking_for e c y)) ≡ m) → (ys : List ℕ) → size (followed_by (map f (map (looking_for e c) ys)) rest) ≡ length ys * m + size rest
  unfolding size
  each_size s [] = omega arith
  each_size s (y ∷ ys) = omega (arith, s y, each_size s ys, next_product (length ys) m)

  each_depth : ((y : ℕ) → depth (f (looking_for e c y)) ≡ m) → (ys : List ℕ) → 0 < length ys → depth (followed_by (map f (map (looking_for e c) ys)) rest) ≡ max m (depth rest)
  unfolding depth
  each_depth s [] l = absurd (omega (arith, l))
  each_depth s (y ∷ []) l = omega (arith, s y)
  each_depth s (y ∷ (z ∷ ys)) l = omega (arith, s y, each_depth s (z ∷ ys) (omega arith))

depth_link : (b more : Tree) → depth (Node Cons b more) ≡ max (depth b) (depth more)
unfolding depth
depth_link b more = omega arith

sums : (u v a b c d : ℕ) → u ≡ v → a ≡ b → c ≡ d → u + a + c ≡ v + b + d
sums u v a b c d e f g = omega (arith, e, f, g)

tops : (u v a b c d : ℕ) → u ≡ v → a ≡ b → c ≡ d → u + max a c ≡ v + max b d
tops u v a b c d e f g = omega (arith, e, f, g)

module _ (n : Naming) where
  abbrev x : ℕ
  x = n.variable

  abbrev k : ℕ
  k = length n.names

  abbrev looked : Around → List Tree
  looked e = cells_named e.looked_for

  looks_same : (p : ℕ) (h : Head) (a : Tree) (e : Around) → looked (behind n p h a e) ≡ looked e
  looks_same p h a e = ap cells_named (behind_looks n p h a e)

  behind_same : (p : ℕ) (h : Head) (a : Tree) (e : Around) (b : Tree) (m : ℕ) → m ≡ size_in x k (looked (behind n p h a e)) b → m ≡ size_in x k (looked e) b
  behind_same p h a e b m f = f ∙ ap (λ ts. size_in x k ts b) (looks_same p h a e)

  module _ (p : ℕ) (us cells c body : Tree) where
    abbrev copy : Around → Tree
    copy d = branch_copy n p us cells c body d

    copy_size : (d : Around) → size (split_in n d (body_place p us cells c) body) ≡ size_in x k (looked d) body → size (copy d) ≡ size_of_copy x k (looked d) us cells c body
    unfolding size
    copy_size d s = omega (arith, sized x (name_at n p) us, named_size (names_known d) cells, named_size (names_known d) c, s)

    copy_depth : (d : Around) → depth (split_in n d (body_place p us cells c) body) ≡ depth body → depth (copy d) ≡ depth (Node Branch us (Node Cons cells (Node Cons c body)))
    unfolding depth
    copy_depth d s = omega (arith, deep x (name_at n p) us, named_depth (names_known d) cells, named_depth (names_known d) c, s)

    copies_size : ((d : Around) → size (split_in n d (body_place p us cells c) body) ≡ size_in x k (looked d) body) → (rest : Tree) (e : Around) (o : Option Tree)
        → size (followed_by (map copy (copies_for n e o)) rest) ≡ copies_with k o * size_of_copy x k (named_with (looked e) o) us cells c body + size rest
    unfolding size
    copies_size s rest e None = omega (arith, copy_size e (s e))
    copies_size s rest e (Some cell) = each_size copy (size_of_copy x k (cell ∷ looked e) us cells c body) e cell rest (λ y. copy_size (looking_for e cell y) (s (looking_for e cell y))) n.names

    copies_depth : 0 < k → ((d : Around) → depth (split_in n d (body_place p us cells c) body) ≡ depth body) → (rest : Tree) (e : Around) (o : Option Tree)
        → depth (followed_by (map copy (copies_for n e o)) rest) ≡ max (depth (Node Branch us (Node Cons cells (Node Cons c body)))) (depth rest)
    unfolding depth
    copies_depth l s rest e None = omega (arith, copy_depth e (s e))
    copies_depth l s rest e (Some cell) = each_depth copy (depth (Node Branch us (Node Cons cells (Node Cons c body)))) e cell rest (λ y. copy_depth (looking_for e cell y) (s (looking_for e cell y))) n.names l

  mutual
    unfolding split_in split_branches size_in sizes_in size

    pub size_split : (t : Tree) (e : Around) (p : ℕ) → size (split_in n e p t) ≡ size_in x k (looked e) t
    size_split Empty e p = refl
    size_split (Node (Repl i m) a b) e p = ap (λ s. weight (Repl i m) + size a + s) (size_split b (in_replication (Repl i m) e) (second_place p (Repl i m) a))
    size_split (Node Par a b) e p = sums (weight Par) (weight Par) _ _ _ _ refl (size_split a e (first_place p Par)) (size_split b e (second_place p Par a))
    size_split (Node Cons a b) e p = sums (weight Cons) (weight Cons) _ _ _ _ refl (size_split a e (first_place p Cons)) (size_split b e (second_place p Cons a))
    size_split (Node (In c) a b) e p =
        sums (weight (In c)) (weight (In c)) _ _ _ _ refl (message_size n p a) (behind_same p (In c) a e b _ (size_split b (behind n p (In c) a e) (second_place p (In c) a)))
    size_split (Node (Find l) a b) e p = sums (weight (Find l)) (weight (Find l)) _ _ _ _ refl (size_branches a e (first_place p (Find l))) (size_split b e (second_place p (Find l) a))
    size_split (Node h a b) e p =
        sums _ (weight h) _ _ _ _ (weighed x (name_at n p) h) (named_size (names_known e) a) (behind_same p h a e b _ (size_split b (behind n p h a e) (second_place p h a)))

    size_branches : (t : Tree) (e : Around) (p : ℕ) → size (split_branches n e p t) ≡ sizes_in x k (looked e) t
    size_branches (Node Cons (Node Branch us (Node Cons cells (Node Cons c body))) more) e p =
        let q : ℕ = first_place p Cons in
        let d : Around = behind n q Branch us e in
        let rest : Tree = split_branches n e (second_place p Cons (Node Branch us (Node Cons cells (Node Cons c body)))) more in
        let same : first_unnamed d.looked_for (cells_in x cells) ≡ first_other (looked e) (cells_in x cells) =
        first_named d.looked_for (cells_in x cells) ∙ ap (λ ts. first_other ts (cells_in x cells)) (looks_same q Branch us e) in
        copies_size q us cells c body (λ f. size_split body f (body_place q us cells c)) rest d (first_unnamed d.looked_for (cells_in x cells))
        ∙ (ap₂ (λ (o : Option Tree) (ts : List Tree). copies_with k o * size_of_copy x k (named_with ts o) us cells c body + size rest) same (looks_same q Branch us e)
        ∙ ap (λ s. size_of_copies x k (looked e) us cells c body + s) (size_branches more e (second_place p Cons (Node Branch us (Node Cons cells (Node Cons c body))))))
    size_branches t e p = refl

  mutual
    unfolding split_in split_branches depth

    pub depth_split : (t : Tree) → 0 < k → (e : Around) (p : ℕ) → depth (split_in n e p t) ≡ depth t
    depth_split Empty l e p = refl
    depth_split (Node (Repl i m) a b) l e p = ap (λ s. weight (Repl i m) + max (depth a) s) (depth_split b l (in_replication (Repl i m) e) (second_place p (Repl i m) a))
    depth_split (Node Par a b) l e p = tops (weight Par) (weight Par) _ _ _ _ refl (depth_split a l e (first_place p Par)) (depth_split b l e (second_place p Par a))
    depth_split (Node Cons a b) l e p = tops (weight Cons) (weight Cons) _ _ _ _ refl (depth_split a l e (first_place p Cons)) (depth_split b l e (second_place p Cons a))
    depth_split (Node (In c) a b) l e p = tops (weight (In c)) (weight (In c)) _ _ _ _ refl (message_depth n p a) (depth_split b l (behind n p (In c) a e) (second_place p (In c) a))
    depth_split (Node (Find m) a b) l e p = tops (weight (Find m)) (weight (Find m)) _ _ _ _ refl (depth_branches a l e (first_place p (Find m))) (depth_split b l e (second_place p (Find m) a))
    depth_split (Node h a b) l e p = tops _ (weight h) _ _ _ _ (weighed x (name_at n p) h) (named_depth (names_known e) a) (depth_split b l (behind n p h a e) (second_place p h a))

    depth_branches : (t : Tree) → 0 < k → (e : Around) (p : ℕ) → depth (split_branches n e p t) ≡ depth t
    depth_branches (Node Cons (Node Branch us (Node Cons cells (Node Cons c body))) more) l e p =
        let q : ℕ = first_place p Cons in
        let d : Around = behind n q Branch us e in
        let b : Tree = Node Branch us (Node Cons cells (Node Cons c body)) in
        let rest : Tree = split_branches n e (second_place p Cons b) more in
        ap depth (branches_node n e p us cells c body more)
        ∙ (copies_depth q us cells c body l (λ f. depth_split body l f (body_place q us cells c)) rest d (first_unnamed d.looked_for (cells_in x cells))
        ∙ (ap (λ s. max (depth b) s) (depth_branches more l e (second_place p Cons b)) ∙ sym (depth_link b more)))
    depth_branches t l e p = refl

pub size_game : (x : ℕ) (ys : List ℕ) (game : Tree) → size (split_game x ys game) ≡ size_in x (length ys) [] game
size_game x ys game = size_split (naming_of game x ys) game nothing_around 0

pub depth_game : (x : ℕ) (ys : List ℕ) (game : Tree) → 0 < length ys → depth (split_game x ys game) ≡ depth game
depth_game x ys game l = depth_split (naming_of game x ys) game l nothing_around 0

-- node by node

module _ (x k : ℕ) (named : List Tree) where
  size_over : (h : Head) (a b : Tree) → size_in x k named (Node h a b) ≡ weight h + size_of_first x k named h a + size_in x k named b
  unfolding size_in
  size_over Par a b = refl
  size_over Cons a b = refl
  size_over (Find l) a b = refl
  size_over h a b = refl

  pub size_in_node : (t : Tree) (h : Head) (a b : Tree) → t ≡ Node h a b → size_in x k named t ≡ weight h + size_of_first x k named h a + size_in x k named b
  size_in_node t h a b e = ap (size_in x k named) e ∙ size_over h a b

  pub size_in_nothing : (t : Tree) → t ≡ Empty → size_in x k named t ≡ 0
  unfolding size_in
  size_in_nothing t e = ap (size_in x k named) e

  pub sizes_link : (t us cells c body more : Tree) → t ≡ Node Cons (Node Branch us (Node Cons cells (Node Cons c body))) more → sizes_in x k named t ≡ size_of_copies x k named us cells c body + sizes_in x k named more
  unfolding sizes_in
  sizes_link t us cells c body more e = ap (sizes_in x k named) e

  pub sizes_other : (t : Tree) → begins_with_branch t ≡ false → sizes_in x k named t ≡ size t
  unfolding sizes_in
  sizes_other (Node Cons (Node Branch us (Node Cons cells (Node Cons c body))) more) f = absurd (both_ways true f refl)
  sizes_other t f = refl
