-- Lists of branches, item by item.
use Rattle.std.proofs.Common.{◌≡◌, ℕ, zero, suc, ◌+◌, ◌-◌, ◌≤◌, max, true, List, Option, Some, None, refl, sym, ap, ◌∙◌, arith}
use Rattle.std.specs.Prelude.{option_map}
use Rattle.cv_syntax_trees.specs.declared.head.Head.TheVariants.{Branch, Cons}
use Rattle.cv_syntax_trees.specs.declared.head.Head.{Head}
use Rattle.cv_path.specs.Ways.{turned}
use Rattle.cv_syntax_trees.specs.Tree.{Tree, Empty, Node, first, second, size, depth}
use Rattle.cv_syntax.proofs.Walking.{size_node, depth_node}
use Rattle.cv_path.specs.Copies.{guards}
use Rattle.cv_scene.specs.Pruning.{branch_body, without_branch}
use Rattle.cv_edit_changes.specs.pruning.Lefts.{before_body, cell_of, items}

-- what a test of heads leaves out, proved once for all heads

pub none_some : {A : Type 0} (x : A) → None ≡ Some x → ⊥
none_some x e = absurd (cc)

plus_nothing : (p n : ℕ) → p + 0 + n ≡ p + n
plus_nothing p n = omega arith

abbrev as_node : Option (Tree × Tree) → Tree
as_node None = Empty
as_node (Some p) = Node Cons p.0 p.1

some_pair : (x y b m : Tree) → cell_of (Node Cons x y) ≡ Some (b, m) → Node Cons x y ≡ Node Cons b m
some_pair x y b m e = ap as_node e

pub cell_is : (t b m : Tree) → cell_of t ≡ Some (b, m) → t ≡ Node Cons b m
cell_is Empty b m e = absurd (none_some (b, m) e)
cell_is (Node Cons x y) b m e = some_pair x y b m e
cell_is (Node h x y) b m e = absurd (none_some (b, m) e)

-- without a cell there is no branch
pub no_cell : (p : ℕ) (t : Tree) (k : ℕ) → cell_of t ≡ None → branch_body p t k ≡ None
no_cell p Empty k e = refl
no_cell p (Node Cons x y) k e = absurd (cc)
no_cell p (Node h x y) k e = refl

pub no_number : (p : ℕ) (t : Tree) → branch_body p t 0 ≡ None
no_number p Empty = refl
no_number p (Node Cons Empty y) = refl
no_number p (Node Cons (Node Branch us rest) y) = refl
no_number p (Node Cons (Node h us rest) y) = refl
no_number p (Node h x y) = refl

pub guards_few : (t : Tree) → guards t ≤ size t
unfolding size
guards_few Empty = omega arith
guards_few (Node h a Empty) = omega arith
guards_few (Node h a (Node g x y)) = omega arith

-- the first branch
pub here_body : (p : ℕ) (b m : Tree) → branch_body p (Node Cons b m) 1 ≡ option_map (λ n. p + n) (before_body b)
here_body p Empty m = refl
here_body p (Node Branch us rest) m = ap Some (omega arith)
here_body p (Node h us rest) m = refl

-- a later one
pub later_body : (p : ℕ) (b m : Tree) (k : ℕ) → branch_body p (Node Cons b m) (suc (suc k)) ≡ branch_body (p + size b) m (suc k)
later_body p Empty m k = ap (λ q. branch_body q m (suc k)) (plus_nothing p (size Empty))
later_body p (Node Branch us rest) m k = ap (λ q. branch_body q m (suc k)) (plus_nothing p (size (Node Branch us rest)))
later_body p (Node h us rest) m k = ap (λ q. branch_body q m (suc k)) (plus_nothing p (size (Node h us rest)))

pub step_body : (p : ℕ) (t b m : Tree) (k : ℕ) → t ≡ Node Cons b m → 2 ≤ k → branch_body p t k ≡ branch_body (p + size b) m (k - 1)
step_body p t b m zero e l = absurd (omega (arith, l))
step_body p t b m (suc zero) e l = absurd (omega (arith, l))
step_body p t b m (suc (suc k)) e l =
    let f : suc k ≡ suc (suc k) - 1 = omega arith in
    ap (λ u. branch_body p u (suc (suc k))) e ∙ (later_body p b m k ∙ ap (branch_body (p + size b) m) f)

-- the list without it

pub step_without : (t : Tree) (h : Head) (b m : Tree) (k : ℕ) → t ≡ Node h b m → 2 ≤ k → without_branch t k ≡ Node h b (without_branch m (k - 1))
step_without t h b m zero e l = absurd (omega (arith, l))
step_without t h b m (suc zero) e l = absurd (omega (arith, l))
step_without t h b m (suc (suc k)) e l =
    let f : suc k ≡ suc (suc k) - 1 = omega arith in
    ap (λ u. without_branch u (suc (suc k))) e ∙ ap (λ n. Node h b (without_branch m n)) f

pub turned_without : (t : Tree) (h : Head) (b m : Tree) (k : ℕ) → t ≡ Node h b m → 2 ≤ k → turned true t (without_branch m (k - 1)) ≡ without_branch t k
turned_without t h b m k e l = ap (λ u. turned true u (without_branch m (k - 1))) e ∙ sym (step_without t h b m k e l)

pub items_step : (t : Tree) (h : Head) (b m : Tree) → t ≡ Node h b m → items t ≡ suc (items m)
items_step t h b m e = ap items e

pub items_none : (t : Tree) → t ≡ Empty → items t ≡ 0
items_none t e = ap items e

pub step_size : (t b m : Tree) (k : ℕ) → t ≡ Node Cons b m → 2 ≤ k → size (without_branch t k) ≡ size b + size (without_branch m (k - 1))
step_size t b m k e l = omega (arith, size_node (without_branch t k) Cons b (without_branch m (k - 1)) (step_without t Cons b m k e l))

pub step_depth : (t b m : Tree) (k : ℕ) → t ≡ Node Cons b m → 2 ≤ k → depth (without_branch t k) ≡ max (depth b) (depth (without_branch m (k - 1)))
step_depth t b m k e l = omega (arith, depth_node (without_branch t k) Cons b (without_branch m (k - 1)) (step_without t Cons b m k e l))

pub cell_size : (t b m : Tree) → t ≡ Node Cons b m → size t ≡ size b + size m
cell_size t b m e = omega (arith, size_node t Cons b m e)

-- a branch of this number is there
pub enough_items : (p : ℕ) (t : Tree) (k x : ℕ) → branch_body p t k ≡ Some x → k ≤ items t
enough_items p t zero x e = omega arith
enough_items p Empty (suc k) x e = absurd (none_some x e)
enough_items p (Node Cons b m) (suc zero) x e = omega arith
enough_items p (Node Cons b m) (suc (suc k)) x e = let r = enough_items (p + size b) m (suc k) x (sym (later_body p b m k) ∙ e) in omega (arith, r)
enough_items p (Node h b m) (suc k) x e = absurd (none_some x e)

-- what a first item is

pub found_cell : {A : Type 0} (f : A → Tree × Tree) (o : Option A) (x : A) (t : Tree) → option_map f o ≡ cell_of t → o ≡ Some x → t ≡ Node Cons (f x).0 (f x).1
found_cell f o x t e i = cell_is t (f x).0 (f x).1 (sym e ∙ ap (option_map f) i)

pub no_found : {A : Type 0} (f : A → Tree × Tree) (o : Option A) (t : Tree) → option_map f o ≡ cell_of t → o ≡ None → cell_of t ≡ None
no_found f o t e i = sym e ∙ ap (option_map f) i

-- places behind a front

pub shifted : (p n s r : ℕ) (m : Tree) (k : ℕ) → r ≡ s → branch_body (p + n + s) m k ≡ branch_body (p + (n + r)) m k
shifted p n s r m k e = let f : p + n + s ≡ p + (n + r) = omega (arith, e) in ap (λ q. branch_body q m k) f
