-- Constructs without one of their bodies.
use Rattle.std.proofs.Common.{◌≡◌, ℕ, zero, suc, ◌+◌, ◌≤◌, Bool, true, false, List, Option, Some, None, refl, sym, ap, ◌∙◌, arith}
use Rattle.std.specs.Prelude.{option_map}
use Rattle.cv_syntax_trees.specs.declared.head.Head.{Head}
use Rattle.cv_syntax_trees.specs.declared.head.Head.TheVariants.{If, Find, Branch, Cons}
use Rattle.cv_syntax_trees.specs.Children.{is_empty}
use Rattle.cv_syntax_trees.specs.Head.{weight}
use Rattle.cv_syntax_trees.specs.Tree.{Tree, Empty, Node, size}
use Rattle.cv_scene.specs.Pruning.{Part, Then, Else, Pruned, pruned, branch_body, without_branch, find_of}
use Rattle.cv_scene.specs.Pruning as part
use Rattle.cv_edit_changes.specs.pruning.Bodies.{nodes_of, nodes_unless_empty}
use Rattle.cv_edit_changes.specs.pruning.Lefts.{bodies_of, cell_of, is_find, left_of}
use Rattle.cv_edit_changes.proofs.pruning.Branches.{later_body, no_number, none_some}

false_true : false ≡ true → ⊥
false_true e = absurd (cc)

-- an `if`

pub then_body : (p : ℕ) (h : Head) (c list : Tree) → option_map (λ b. b.body) (pruned p (Node h c list) Then) ≡ option_map (λ x. p + 1 + size c) (bodies_of (Node h c list))
then_body p If c (Node Cons t (Node Cons e n)) = ap Some (omega arith)
then_body p If c (Node Cons t (Node h e n)) = refl
then_body p If c (Node Cons t Empty) = refl
then_body p If c (Node h t r) = refl
then_body p If c Empty = refl
then_body p h c list = refl

pub else_body : (p : ℕ) (h : Head) (c list : Tree) → option_map (λ b. b.body) (pruned p (Node h c list) Else) ≡ option_map (λ x. p + (1 + size c) + size x.0) (bodies_of (Node h c list))
else_body p If c (Node Cons t (Node Cons e n)) = ap Some (omega arith)
else_body p If c (Node Cons t (Node h e n)) = refl
else_body p If c (Node Cons t Empty) = refl
else_body p If c (Node h t r) = refl
else_body p If c Empty = refl
else_body p h c list = refl

pub then_left : (p : ℕ) (t : Tree) → option_map (λ b. b.left) (pruned p t Then) ≡ option_map (λ x. x.1) (bodies_of t)
then_left p Empty = refl
then_left p (Node If c (Node Cons t (Node Cons e n))) = refl
then_left p (Node If c (Node Cons t (Node h e n))) = refl
then_left p (Node If c (Node Cons t Empty)) = refl
then_left p (Node If c (Node h t r)) = refl
then_left p (Node If c Empty) = refl
then_left p (Node h c list) = refl

pub else_left : (p : ℕ) (t : Tree) → option_map (λ b. b.left) (pruned p t Else) ≡ option_map (λ x. x.0) (bodies_of t)
else_left p Empty = refl
else_left p (Node If c (Node Cons t (Node Cons e n))) = refl
else_left p (Node If c (Node Cons t (Node h e n))) = refl
else_left p (Node If c (Node Cons t Empty)) = refl
else_left p (Node If c (Node h t r)) = refl
else_left p (Node If c Empty) = refl
else_left p (Node h c list) = refl

-- a `find`

abbrev rest : ℕ → Tree → Pruned
rest b t = record { body = b; left = t }

rest_body : (o : Option ℕ) (t : Tree) → option_map (λ b. b.body) (option_map (λ b. rest b t) o) ≡ o
rest_body None t = refl
rest_body (Some b) t = refl

rest_left : (o : Option ℕ) (t : Tree) → option_map (λ b. b.left) (option_map (λ b. rest b t) o) ≡ option_map (λ b. t) o
rest_left None t = refl
rest_left (Some b) t = refl

pub find_body : (p : ℕ) (h : Head) (branches e : Tree) (k : ℕ) → is_find h ≡ true → option_map (λ b. b.body) (pruned p (Node h branches e) (part.Branch k)) ≡ branch_body (p + 1) branches k
find_body p (Find l) branches e k f = rest_body (branch_body (p + 1) branches k) (find_of l (without_branch branches k) e)
find_body p h branches e k f = absurd (false_true f)

pub no_find : (p : ℕ) (h : Head) (branches e : Tree) (k : ℕ) → is_find h ≡ false → pruned p (Node h branches e) (part.Branch k) ≡ None
no_find p (Find l) branches e k f = absurd (cc)
no_find p If c (Node Cons t (Node Cons e n)) k f = refl
no_find p h branches e k f = refl

-- a `find` with these branches, and its `else` where there are none
abbrev pub find_with : Head → Tree → Tree → Tree
find_with h Empty e = e
find_with h (Node g a b) e = Node h (Node g a b) e

find_with_law : (l : ℕ) (t e : Tree) → find_of l t e ≡ find_with (Find l) t e
find_with_law l Empty e = refl
find_with_law l (Node g a b) e = refl

pub find_left : (p : ℕ) (h : Head) (branches e : Tree) (k : ℕ) → is_find h ≡ true → option_map (λ b. b.left) (pruned p (Node h branches e) (part.Branch k)) ≡ option_map (λ b. find_with h (without_branch branches k) e) (branch_body (p + 1) branches k)
find_left p (Find l) branches e k f =
    rest_left (branch_body (p + 1) branches k) (find_of l (without_branch branches k) e)
    ∙ ap (λ t. option_map (λ b. t) (branch_body (p + 1) branches k)) (find_with_law l (without_branch branches k) e)
find_left p h branches e k f = absurd (false_true f)

pub find_nodes : (h : Head) (branches e : Tree) (k : ℕ) → is_find h ≡ true → nodes_of (Node h branches e) (part.Branch k) ≡ nodes_unless_empty (without_branch branches k) k
find_nodes (Find l) branches e k f = refl
find_nodes h branches e k f = absurd (false_true f)

pub if_nodes : (t : Tree) → nodes_of t Then ≡ 0
if_nodes Empty = refl
if_nodes (Node (Find l) a b) = refl
if_nodes (Node h a b) = refl

pub if_else_nodes : (t : Tree) → nodes_of t Else ≡ 0
if_else_nodes Empty = refl
if_else_nodes (Node (Find l) a b) = refl
if_else_nodes (Node h a b) = refl

-- what is left is the same wherever the construct stands

shift : (t : Tree) (p q : ℕ) (branches : Tree) (k : ℕ) → option_map (λ b. t) (branch_body p branches k) ≡ option_map (λ b. t) (branch_body q branches k)
shift t p q Empty k = refl
shift t p q (Node Cons b more) (suc (suc k)) =
    ap (option_map (λ x. t)) (later_body p b more k)
    ∙ (shift t (p + size b) (q + size b) more (suc k) ∙ sym (ap (option_map (λ x. t)) (later_body q b more k)))
shift t p q (Node Cons Empty more) (suc zero) = refl
shift t p q (Node Cons (Node Branch us rest) more) (suc zero) = refl
shift t p q (Node Cons (Node h us rest) more) (suc zero) = refl
shift t p q (Node Cons Empty more) zero = refl
shift t p q (Node Cons (Node Branch us rest) more) zero = refl
shift t p q (Node Cons (Node h us rest) more) zero = refl
shift t p q (Node h b more) k = refl

is_find_or : (v : Bool) (A : Type 0) → (v ≡ true → A) → (v ≡ false → A) → A
is_find_or true A f g = f refl
is_find_or false A f g = g refl

pub left_anywhere : (p : ℕ) (t : Tree) (part : Part) → option_map (λ b. b.left) (pruned p t part) ≡ left_of t part
left_anywhere p t Then = then_left p t ∙ sym (then_left 0 t)
left_anywhere p t Else = else_left p t ∙ sym (else_left 0 t)
left_anywhere p Empty (part.Branch k) = refl
left_anywhere p (Node h a e) (part.Branch k) =
    is_find_or (is_find h) (option_map (λ b. b.left) (pruned p (Node h a e) (part.Branch k)) ≡ left_of (Node h a e) (part.Branch k))
    (λ f. find_left p h a e k f ∙ (shift (find_with h (without_branch a k) e) (p + 1) 1 a k ∙ sym (find_left 0 h a e k f)))
    (λ f. ap (option_map (λ b. b.left)) (no_find p h a e k f ∙ sym (no_find 0 h a e k f)))

-- how large a body is, and what such a construct weighs

abbrev size_first : Option (Tree × Tree) → ℕ
size_first None = 0
size_first (Some p) = size p.0

abbrev size_second : Option (Tree × Tree) → ℕ
size_second None = 0
size_second (Some p) = size p.1

pub bodies_small : (h : Head) (c list : Tree) (x : Tree × Tree) → Some x ≡ bodies_of (Node h c list) → (weight h ≡ 1) × (size x.0 + size x.1 ≤ size list)
unfolding size
bodies_small If c (Node Cons t (Node Cons e n)) x f = (refl, omega (arith, ap size_first f, ap size_second f))
bodies_small If c (Node Cons t (Node h e n)) x f = absurd (none_some x (sym f))
bodies_small If c (Node Cons t Empty) x f = absurd (none_some x (sym f))
bodies_small If c (Node h t r) x f = absurd (none_some x (sym f))
bodies_small If c Empty x f = absurd (none_some x (sym f))
bodies_small h c list x f = absurd (none_some x (sym f))

pub find_weight : (h : Head) → is_find h ≡ true → weight h ≡ 1
find_weight (Find l) f = refl
find_weight h f = absurd (false_true f)

-- a `find` stays where branches do

pub find_stays : (h : Head) (t e : Tree) → (t ≡ Empty → ⊥) → find_with h t e ≡ Node h t e
find_stays h Empty e f = absurd (f refl)
find_stays h (Node g a b) e f = refl

pub number_stays : (t : Tree) (k : ℕ) → (t ≡ Empty → ⊥) → nodes_unless_empty t k ≡ k
number_stays Empty k f = absurd (f refl)
number_stays (Node g a b) k f = refl

pub branches_stay : (p : ℕ) (t : Tree) (k x : ℕ) → branch_body p t k ≡ Some x → (k ≡ 1 → ⊥) → without_branch t k ≡ Empty → ⊥
branches_stay p Empty k x e n w = cc
branches_stay p (Node h b m) zero x e n w = cc
branches_stay p (Node h b m) (suc zero) x e n w = n refl
branches_stay p (Node h b m) (suc (suc k)) x e n w = cc

pub is_number : (p : ℕ) (t : Tree) (k x : ℕ) → branch_body p t k ≡ Some x → 1 ≤ k
is_number p t zero x e = absurd (none_some x (sym (no_number p t) ∙ e))
is_number p t (suc k) x e = omega arith

pub not_empty : (t : Tree) → is_empty t ≡ false → t ≡ Empty → ⊥
not_empty t e f = false_true (sym (sym (ap is_empty f) ∙ e))
