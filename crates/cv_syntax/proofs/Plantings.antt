-- Making trees by a stack.
use Rattle.std.proofs.Common.{◌≡◌, ℕ, zero, suc, ◌+◌, ◌<◌, ◌≤◌, List, [], ◌∷◌, ◌++◌, length, drop, map, reverse, flat_map, refl, ap, sym, ◌∙◌, append_assoc, append-nil, arith, length-append, get_or, subst, Option, Some, None, IsSome}
use Rattle.std.specs.Prelude.{All, unwrap_or}
use Rattle.std.specs.Option.{option_to_list}
use Rattle.std.proofs.lemmas.List.{map-append, reverse-append, reverse-reverse, drop_more, get_or_append_left, get_or_at, drop_all}
use Rattle.cv_pool.specs.declared.node.NodeId.{NodeId}
use Rattle.cv_pool.specs.declared.node.Kind.{Kind}
use Rattle.cv_syntax_trees.specs.declared.head.Head.{Head}
use Rattle.cv_syntax.specs.declared.make.Make.{Make}
use Rattle.cv_syntax.specs.declared.make.Make.TheVariants as make
use Rattle.cv_pool.specs.KindTree.{KindTree, NoTree, Fork}
use Rattle.cv_pool.specs.Nodes.{at, child, ChildBelow}
use Rattle.cv_syntax.specs.Planting.{overs}
use Rattle.cv_pool.specs.PoolView.{PoolView, Grows}
use Rattle.cv_syntax.specs.Postorder.{joined, made, postorder, made_postorder}
use Rattle.cv_syntax_trees.specs.Tree.{Tree, Empty, Node}
use Rattle.cv_syntax.specs.PoolTrees.{tree_of, tree_at, kind_of_head, head_of_kind, head_of_kind_kind_of_head}
use Rattle.cv_pool.proofs.Growth.{Grows_child, Grows_length, Grows_trans, ChildBelow_more}
use Rattle.std.proofs.lemmas.List.Elements.{All-append}

pub tree_of_none : tree_of NoTree ≡ Empty
unfolding tree_of
tree_of_none = refl

-- the tree of a node that was just made
pub tree_of_node : (t : KindTree) (k : Kind) (h : Head) (a b : KindTree) → t ≡ Fork k a b → k ≡ kind_of_head h → tree_of t ≡ Node h (tree_of a) (tree_of b)
unfolding tree_of
tree_of_node t k h a b e f =
    ap tree_of e ∙ ap (λ x. Node x (tree_of a) (tree_of b)) (ap head_of_kind f ∙ head_of_kind_kind_of_head h)

pub reverse_push : {A : Type 0} (f : A → Tree) (s : List A) (x : A) → reverse (map f (s ++ x ∷ [])) ≡ f x ∷ reverse (map f s)
reverse_push f s x = ap reverse (map-append f s (x ∷ [])) ∙ reverse-append (map f s) (f x ∷ [])

none_not : IsSome {T = Option NodeId} None → ⊥
none_not i = absurd (cc)

-- the two trees that are taken
pub joined_taken : (f : Option NodeId → Tree) (h : Head) (stack s t : List (Option NodeId)) (x y : Option (Option NodeId)) → f None ≡ Empty → stack ≡ s ++ option_to_list x → s ≡ t ++ option_to_list y → (0 < length stack → IsSome x) → (0 < length s → IsSome y) → joined h (reverse (map f stack)) ≡ Node h (f (unwrap_or y None)) (f (unwrap_or x None)) ∷ reverse (map f t)
joined_taken f h stack s t (Some x) (Some y) n e g p q =
    ap (λ l. joined h (reverse (map f l))) e ∙ (ap (joined h) (reverse_push f s x) ∙ (ap (λ l. joined h (f x ∷ reverse (map f l))) g ∙ ap (λ l. joined h (f x ∷ l)) (reverse_push f t y)))
joined_taken f h stack s [] (Some x) None n e g p q =
    ap (λ l. joined h (reverse (map f l))) e ∙ (ap (joined h) (reverse_push f s x) ∙ (ap (λ l. joined h (f x ∷ reverse (map f l))) g ∙ ap (λ u. Node h u (f x) ∷ []) (sym n)))
joined_taken f h stack s (z ∷ t) (Some x) None n e g p q = absurd (let l : 0 < length s = omega (arith, ap length g) in none_not (q l))
joined_taken f h (z ∷ stack) s t None y n e g p q = absurd (let l : 0 < length (z ∷ stack) = omega arith in none_not (p l))
joined_taken f h [] (z ∷ s) t None y n e g p q = absurd (cc)
joined_taken f h [] [] (z ∷ t) None y n e g p q = absurd (cc)
joined_taken f h [] [] [] None (Some y) n e g p q = absurd (cc)
joined_taken f h [] [] [] None None n e g p q = ap (λ u. Node h u Empty ∷ []) (sym n) ∙ ap (λ u. Node h (f None) u ∷ []) (sym n)

-- a live tree of before stays
pub map_grows : (old new : PoolView) (s : List (Option NodeId)) → Grows old new → All (ChildBelow (length old.trees)) s → map (tree_at new.trees) s ≡ map (tree_at old.trees) s
map_grows old new [] g a = refl
map_grows old new (o ∷ s) g a =
    let here : tree_at new.trees o ≡ tree_at old.trees o = ap tree_of (Grows_child old new o g (a zero o (omega arith))) in
    let rest : map (tree_at new.trees) s ≡ map (tree_at old.trees) s = map_grows old new s g (λ k d l. a (suc k) d (omega arith)) in
    cc

pub All_front : {A : Type 0} (P : A → Type 0) (stack s r : List A) → stack ≡ s ++ r → All P stack → All P s
All_front P stack s r e a = λ k d l.
    let m : k < length stack = omega (arith, ap length e, length-append s r) in
    subst P (ap (λ x. get_or x k d) e ∙ get_or_append_left s r d k l) (a k d m)

pub All_last : (n : ℕ) (stack s : List (Option NodeId)) (x : Option (Option NodeId)) → stack ≡ s ++ option_to_list x → All (ChildBelow n) stack → ChildBelow n (unwrap_or x None)
All_last n stack s None e a = tt
All_last n stack s (Some x) e a =
    let m : length s < length stack = omega (arith, ap length e, length-append s (x ∷ [])) in
    subst (ChildBelow n) (ap (λ l. get_or l (length s) x) e ∙ get_or_at s x [] x (length s) refl) (a (length s) x m)

pub All_grows : (m n : ℕ) (s : List (Option NodeId)) → m ≤ n → All (ChildBelow m) s → All (ChildBelow n) s
All_grows m n s h a = λ k d l. ChildBelow_more m n (get_or s k d) h (a k d l)

pub over_trees : (old new : PoolView) (stack s t : List (Option NodeId)) (x y : Option (Option NodeId)) (a b : Option NodeId) (h : Head) (k : Kind) (id : NodeId) → Grows old new → All (ChildBelow (length old.trees)) stack → at new.trees id.0 ≡ Fork k (child old.trees b) (child old.trees a) → k ≡ kind_of_head h → a ≡ unwrap_or x None → b ≡ unwrap_or y None → stack ≡ s ++ option_to_list x → s ≡ t ++ option_to_list y → (0 < length stack → IsSome x) → (0 < length s → IsSome y) → joined h (reverse (map (tree_at old.trees) stack)) ≡ tree_at new.trees (Some id) ∷ reverse (map (tree_at new.trees) t)
over_trees old new stack s t x y a b h k id g live e f ea eb es et p q =
    let below : All (ChildBelow (length old.trees)) t = All_front (ChildBelow (length old.trees)) s t (option_to_list y) et (All_front (ChildBelow (length old.trees)) stack s (option_to_list x) es live) in
    let node : tree_at new.trees (Some id) ≡ Node h (tree_at old.trees b) (tree_at old.trees a) = tree_of_node (at new.trees id.0) k h (child old.trees b) (child old.trees a) e f in
    let rest : map (tree_at new.trees) t ≡ map (tree_at old.trees) t = map_grows old new t g below in
    let taken : joined h (reverse (map (tree_at old.trees) stack)) ≡ Node h (tree_at old.trees (unwrap_or y None)) (tree_at old.trees (unwrap_or x None)) ∷ reverse (map (tree_at old.trees) t) = joined_taken (tree_at old.trees) h stack s t x y tree_of_none es et p q in
    taken ∙ (ap (λ o. Node h (tree_at old.trees o) (tree_at old.trees (unwrap_or x None)) ∷ reverse (map (tree_at old.trees) t)) (sym eb)
    ∙ (ap (λ o. Node h (tree_at old.trees b) (tree_at old.trees o) ∷ reverse (map (tree_at old.trees) t)) (sym ea)
    ∙ (ap (λ u. u ∷ reverse (map (tree_at old.trees) t)) (sym node)
    ∙ ap (λ l. tree_at new.trees (Some id) ∷ reverse l) (sym rest))))

pub made_nothing : (stack : List Tree) (ms : List Make) → made stack (make.Nothing ∷ ms) ≡ made (Empty ∷ stack) ms
unfolding made
made_nothing stack ms = refl

pub made_over : (h : Head) (stack : List Tree) (ms : List Make) → made stack (make.Over h ∷ ms) ≡ made (joined h stack) ms
unfolding made
made_over h stack ms = refl

pub made_all : (stack : List Tree) (ms : List Make) (i : ℕ) → length ms ≤ i → made stack (drop i ms) ≡ stack
unfolding made
made_all stack ms i h = ap (made stack) (drop_all i ms h)

made_trees : (stack ts : List Tree) → made stack (flat_map postorder ts) ≡ reverse ts ++ stack
unfolding made
made_trees stack [] = refl
made_trees stack (t ∷ ts) =
    made_postorder t stack (flat_map postorder ts) ∙ (made_trees (t ∷ stack) ts
    ∙ (sym (append_assoc (reverse ts) (t ∷ []) stack) ∙ ap (λ l. l ++ stack) (sym (reverse-append (t ∷ []) ts))))

-- a list that was written from trees makes these trees
pub made_back : (ts : List Tree) (ms : List Make) → ms ≡ flat_map postorder ts → reverse (made [] ms) ≡ ts
made_back ts ms e = ap (λ m. reverse (made [] m)) e ∙ (ap reverse (made_trees [] ts ∙ append-nil (reverse ts)) ∙ reverse-reverse ts)

next : (ms : List Make) (i : ℕ) (m : Make) → i < length ms → get_or ms i make.Nothing ≡ m → drop i ms ≡ m ∷ drop (i + 1) ms
next ms i m h e = drop_more ms i make.Nothing h ∙ ap (λ x. x ∷ drop (i + 1) ms) e

pub overs_nothing : (ms : List Make) (i : ℕ) → i < length ms → get_or ms i make.Nothing ≡ make.Nothing → overs (drop i ms) ≡ overs (drop (i + 1) ms)
overs_nothing ms i h e = ap overs (next ms i make.Nothing h e)

pub overs_over : (ms : List Make) (i : ℕ) (k : Head) → i < length ms → get_or ms i make.Nothing ≡ make.Over k → overs (drop i ms) ≡ overs (drop (i + 1) ms) + 1
overs_over ms i k h e = ap overs (next ms i (make.Over k) h e)

-- one step of the machine
pub step_nothing : (old now : PoolView) (s mid t : List (Option NodeId)) (top : Option NodeId) (ms : List Make) (i : ℕ) → now ≡ old → mid ≡ s → top ≡ None → t ≡ mid ++ top ∷ [] → i < length ms → get_or ms i make.Nothing ≡ make.Nothing → made (reverse (map (tree_at old.trees) s)) (drop i ms) ≡ made [] ms → made (reverse (map (tree_at now.trees) t)) (drop (i + 1) ms) ≡ made [] ms
step_nothing old now s mid t top ms i en em eo et h e inv =
    let pushed : t ≡ s ++ None ∷ [] = et ∙ (ap (λ l. l ++ top ∷ []) em ∙ ap (λ o. s ++ o ∷ []) eo) in
    let stack : reverse (map (tree_at now.trees) t) ≡ Empty ∷ reverse (map (tree_at old.trees) s) =
    ap (λ (p : PoolView). reverse (map (tree_at p.trees) t)) en ∙ (ap (λ l. reverse (map (tree_at old.trees) l)) pushed ∙ (reverse_push (tree_at old.trees) s None ∙ ap (λ u. u ∷ reverse (map (tree_at old.trees) s)) tree_of_none)) in
    ap (λ l. made l (drop (i + 1) ms)) stack ∙ (sym (made_nothing (reverse (map (tree_at old.trees) s)) (drop (i + 1) ms))
    ∙ (ap (made (reverse (map (tree_at old.trees) s))) (sym (next ms i make.Nothing h e)) ∙ inv))

pub step_over : (old new now : PoolView) (r s mid t : List (Option NodeId)) (top : Option NodeId) (id : NodeId) (k : Head) (ms : List Make) (i : ℕ) → now ≡ new → mid ≡ s → top ≡ Some id → t ≡ mid ++ top ∷ [] → i < length ms → get_or ms i make.Nothing ≡ make.Over k → joined k (reverse (map (tree_at old.trees) r)) ≡ tree_at new.trees (Some id) ∷ reverse (map (tree_at new.trees) s) → made (reverse (map (tree_at old.trees) r)) (drop i ms) ≡ made [] ms → made (reverse (map (tree_at now.trees) t)) (drop (i + 1) ms) ≡ made [] ms
step_over old new now r s mid t top id k ms i en em eo et h e j inv =
    let pushed : t ≡ s ++ Some id ∷ [] = et ∙ (ap (λ l. l ++ top ∷ []) em ∙ ap (λ o. s ++ o ∷ []) eo) in
    let stack : reverse (map (tree_at now.trees) t) ≡ joined k (reverse (map (tree_at old.trees) r)) =
    ap (λ (p : PoolView). reverse (map (tree_at p.trees) t)) en ∙ (ap (λ l. reverse (map (tree_at new.trees) l)) pushed ∙ (reverse_push (tree_at new.trees) s (Some id) ∙ sym j)) in
    ap (λ l. made l (drop (i + 1) ms)) stack ∙ (sym (made_over k (reverse (map (tree_at old.trees) r)) (drop (i + 1) ms))
    ∙ (ap (made (reverse (map (tree_at old.trees) r))) (sym (next ms i (make.Over k) h e)) ∙ inv))

pub step_live : (new now : PoolView) (s mid t : List (Option NodeId)) (top o : Option NodeId) → now ≡ new → mid ≡ s → top ≡ o → t ≡ mid ++ top ∷ [] → All (ChildBelow (length new.trees)) s → ChildBelow (length new.trees) o → All (ChildBelow (length now.trees)) t
step_live new now s mid t top o en em eo et live b =
    let pushed : t ≡ s ++ o ∷ [] = et ∙ (ap (λ l. l ++ top ∷ []) em ∙ ap (λ x. s ++ x ∷ []) eo) in
    subst (λ (p : PoolView). All (ChildBelow (length p.trees)) t) (sym en) (subst (All (ChildBelow (length new.trees))) (sym pushed) (All-append (ChildBelow (length new.trees)) s (o ∷ []) live (one (ChildBelow (length new.trees)) o b)))
  where
    one : (P : Option NodeId → Type 0) (x : Option NodeId) → P x → All P (x ∷ [])
    one P x p = λ k d l. elim_zero P x p k d l
      where
        elim_zero : (P : Option NodeId → Type 0) (x : Option NodeId) → P x → (k : ℕ) (d : Option NodeId) → k < length (x ∷ []) → P (get_or (x ∷ []) k d)
        elim_zero P x p zero d l = p
        elim_zero P x p (suc k) d l = absurd (omega arith)

pub ruleset takes = (All_front, All_last, All_grows, Grows_length)
