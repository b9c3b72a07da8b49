-- How large a tree is with terms for index variables: each term is an index, or a cell that is in reach.
use Rattle.std.proofs.Common.{◌≡◌, ℕ, ◌+◌, ◌*◌, ◌≤◌, ◌&&◌, Bool, true, false, cond, List, Option, Some, None, refl, ap, subst, arith}
use Rattle.std.specs.Prelude.{option_map}
use Rattle.std.proofs.lemmas.Bool.{and_parts, both_ways}
use Rattle.cv_syntax_trees.specs.declared.head.Head.TheVariants.{Apply, Binder, Branch, Cons, Find, Leaf, Read}
use Rattle.cv_syntax_trees.specs.Tree.{Tree, Empty, Node, same_tree, size, subtree}
use Rattle.cv_syntax_trees.proofs.Equality.{same_tree_exact}
use Rattle.cv_syntax_trees.specs.declared.sites.sort.Sort.TheVariants.{BelowParameter, OfType}
use Rattle.cv_scope_rules.specs.Context.{Context, cell_of, cells_of, known_at}
use Rattle.cv_scope_rules.specs.Phrases.{Term, is_phrase}
use Rattle.cv_scope_rules.specs.Scope.{names_of}
use Rattle.cv_scope_rules.specs.typing.Signature.{Function}
use Rattle.cv_scene.specs.lines.Given.{or_node}
use Rattle.cv_path.proofs.extents.Extents.{size_part}
use Rattle.cv_scene.specs.Scenes.{Scene, or_empty, part_at}
use Rattle.cv_scene.specs.Terms.{is_sort, is_term_at}
use Rattle.cv_steps.specs.Rewriting.{sort_at}
use Rattle.cv_costs.specs.names.Reach.{is_in_scope, is_in_scope_at, is_in_scope_by}
use Rattle.cv_rule_pick.specs.Picking.{Arm, are_indices_at, are_terms_at, only_arm, term_of, with_terms}
use Rattle.cv_rule_pick.proofs.Small.{cell_size, reached_small}

-- the branch is a part of the game

pub arm_size : (t : Tree) (a : Arm) → only_arm t ≡ Some a → 2 + size a.binders + size a.cells + size a.condition + size a.body ≤ size t
unfolding size
arm_size (Node (Find l) (Node Cons (Node Branch us (Node Cons cells (Node Cons c b))) Empty) o) a e =
    let k : (let z : Arm = record { binders = us; cells = cells; condition = c; body = b } in z) ≡ a = cc in
    subst (λ (z : Arm). 2 + size z.binders + size z.cells + size z.condition + size z.body ≤ size (Node (Find l) (Node Cons (Node Branch us (Node Cons cells (Node Cons c b))) Empty) o)) k (omega arith)
arm_size t a e = absurd (cc)

pub part_small : (t : Tree) (p : ℕ) → size (part_at t p) ≤ size t
unfolding size
part_small t p = go (subtree t p) refl
  where
    go : (o : Option Tree) → subtree t p ≡ o → size (or_empty o) ≤ size t
    go None e = omega arith
    go (Some u) e = size_part t p u e

-- terms for index variables

below_only : (o : Option Function) (T : ℕ) → is_sort (option_map (λ (f : Function). OfType f.result) o) (BelowParameter T) ≡ true → ⊥
below_only None T e = both_ways false refl e
below_only (Some f) T e = both_ways false refl e

leaf_small : (x : ℕ) (a b : Tree) → is_phrase Term (Node (Leaf x) a b) ≡ true → size (Node (Leaf x) a b) ≤ 1
unfolding is_phrase size
leaf_small x Empty Empty e = omega arith
leaf_small x Empty (Node k c d) e = absurd (both_ways false refl e)
leaf_small x (Node k c d) b e = absurd (both_ways false refl e)

scoped : (s : Scene) (p : ℕ) (m : Tree) → is_in_scope_at s p m ≡ true → (Γ : Context) × (known_at s.game p ≡ Some Γ) × (is_in_scope (names_of s.declarations s.game) Γ m ≡ true)
scoped s p m e = go (known_at s.game p) refl e
  where
    go : (o : Option Context) → known_at s.game p ≡ o → is_in_scope_by (names_of s.declarations s.game) o m ≡ true → (Γ : Context) × (known_at s.game p ≡ Some Γ) × (is_in_scope (names_of s.declarations s.game) Γ m ≡ true)
    go None f e = absurd (both_ways false refl e)
    go (Some Γ) f e = (Γ, f, e)

index_small : (s : Scene) (p T : ℕ) (m : Tree) → size s.game ≤ 50000 → is_phrase Term m ≡ true → is_sort (sort_at s p m) (BelowParameter T) ≡ true → is_in_scope_at s p m ≡ true → size m ≤ 50001
unfolding size is_in_scope
index_small s p T Empty l e f g = omega arith
index_small s p T (Node (Leaf x) a b) l e f g = omega (arith, leaf_small x a b e)
index_small s p T (Node (Read x) a b) l e f g =
    let z = scoped s p (Node (Read x) a b) g in
    reached_small 50001 s.game p z.0 (Node (Read x) a b) (omega (arith, l)) z.1 (and_parts _ _ z.2).0
index_small s p T (Node (Apply h) a b) l e f g = absurd (below_only _ T f)
index_small s p T (Node h a b) l e f g = absurd (both_ways false refl f)

abbrev pub AreSmall : Tree → Type 0
AreSmall Empty = Unit {0}
AreSmall (Node h m ms) = (size m ≤ 50001) × AreSmall ms

pub terms_small : (s : Scene) (p : ℕ) (us ms : Tree) → size s.game ≤ 50000 → are_terms_at s p ms ≡ true → are_indices_at s p us ms ≡ true → AreSmall ms
terms_small s p us Empty l e f = tt
terms_small s p (Node (Binder x T) a us) (Node h m ms) l e f =
    let q = and_parts (is_term_at s p m) _ e in
    let r = and_parts (is_sort (sort_at s p m) (BelowParameter T) && is_in_scope_at s p m) _ f in
    let o = and_parts (is_sort (sort_at s p m) (BelowParameter T)) _ r.0 in
    (index_small s p T m l (and_parts (is_phrase Term m) _ q.0).0 o.0 o.1, terms_small s p us ms l q.1 r.1)
terms_small s p us (Node h m ms) l e f = absurd (both_ways false refl f)

put_small : (rs : List (ℕ × ℕ)) (us ms t m : Tree) → AreSmall ms → term_of (cells_of rs us) ms t ≡ Some m → (1 ≤ size t) × (size m ≤ 50001)
put_small rs (Node (Binder x T) a us) Empty t m k e = absurd (cc)
put_small rs (Node (Binder x T) a us) (Node h n ms) t m k e = go (same_tree t (cell_of rs x)) refl e (put_small rs us ms t m k.1)
  where
    go : (v : Bool) → same_tree t (cell_of rs x) ≡ v → cond v (Some n) (term_of (cells_of rs us) ms t) ≡ Some m → (term_of (cells_of rs us) ms t ≡ Some m → (1 ≤ size t) × (size m ≤ 50001)) → (1 ≤ size t) × (size m ≤ 50001)
    go true f e i =
        let same : n ≡ m = cc in
        let q = ap size (same_tree_exact t (cell_of rs x) f) in
        (omega (arith, q, cell_size rs x), subst (λ u. size u ≤ 50001) same k.0)
    go false f e i = i e
put_small rs us ms t m k e = absurd (cc)

pub with_small : (rs : List (ℕ × ℕ)) (us ms t : Tree) → AreSmall ms → size (with_terms (cells_of rs us) ms t) ≤ 50001 * size t
unfolding with_terms size
with_small rs us ms Empty k = omega arith
with_small rs us ms (Node h a b) k = go (term_of (cells_of rs us) ms (Node h a b)) refl (with_small rs us ms a k) (with_small rs us ms b k)
  where
    go : (o : Option Tree) → term_of (cells_of rs us) ms (Node h a b) ≡ o → size (with_terms (cells_of rs us) ms a) ≤ 50001 * size a → size (with_terms (cells_of rs us) ms b) ≤ 50001 * size b → size (or_node o h (with_terms (cells_of rs us) ms a) (with_terms (cells_of rs us) ms b)) ≤ 50001 * size (Node h a b)
    go None e l m = omega (arith, l, m)
    go (Some m) e l n = let q = put_small rs us ms (Node h a b) m k e in omega (arith, q.0, q.1)
