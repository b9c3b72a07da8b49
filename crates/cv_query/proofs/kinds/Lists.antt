-- Queries by their number.
use Rattle.std.proofs.Common.{◌≡◌, ℕ, zero, suc, ◌<◌, ◌≤◌, ◌+◌, ◌-◌, List, [], ◌∷◌, length, drop, refl, ap, ap₂, sym, ◌∙◌, arith, Option, Some, None, option_and_then, All}
use Rattle.std.specs.Prelude.{slice_get}
use Rattle.cv_pool.specs.declared.node.NodeId.{NodeId}
use Rattle.cv_pool.specs.KindTree.{KindTree}
use Rattle.cv_syntax.specs.declared.decls.Decl.{Decl}
use Rattle.cv_syntax.specs.Classes.{query_of}
use Rattle.cv_syntax.specs.Declarations.{declarations}
use Rattle.cv_syntax.specs.PoolTrees.{tree_at}
use Rattle.cv_directory.specs.Live.{IsLive}
use Rattle.cv_syntax_trees.specs.Tree.{Tree}
use Rattle.cv_scene.specs.Sights.{from_one}
use Rattle.cv_meaning.specs.Queries.{queries_in}
use Rattle.cv_query_form.proofs.Parts.{queries_past, queries_skip, queries_take, query_below}

other_number : (q : Tree) (qs : List Tree) (left : ℕ) → (left ≡ 1 → ⊥) → from_one (q ∷ qs) left ≡ from_one qs (left - 1)
other_number q qs zero e = refl
other_number q qs (suc zero) e = absurd (e refl)
other_number q qs (suc (suc m)) e = let n : suc m ≡ suc (suc m) - 1 = omega arith in ap (from_one qs) n

pub number_here : (ds : List Decl) (k : ℕ) (o : Option NodeId) (q : NodeId) (left number : ℕ) → o ≡ option_and_then query_of (slice_get ds k) → o ≡ Some q → left ≡ 1 → (trees : List KindTree) → from_one (queries_in (declarations trees (drop k ds))) left ≡ from_one (queries_in (declarations trees ds)) number → Some (tree_at trees (Some q)) ≡ from_one (queries_in (declarations trees ds)) number
number_here ds k o q left number e s l trees h = sym (ap₂ (λ qs n. from_one qs n) (queries_take trees ds k q (sym e ∙ s)) l) ∙ h

pub number_later : (ds : List Decl) (k : ℕ) (o : Option NodeId) (q : NodeId) (left next number : ℕ) → o ≡ option_and_then query_of (slice_get ds k) → o ≡ Some q → (left ≡ 1 → ⊥) → next ≡ left - 1 → (trees : List KindTree) → from_one (queries_in (declarations trees (drop k ds))) left ≡ from_one (queries_in (declarations trees ds)) number
    → from_one (queries_in (declarations trees (drop (k + 1) ds))) next ≡ from_one (queries_in (declarations trees ds)) number
number_later ds k o q left next number e s n m trees h =
    let rest = queries_in (declarations trees (drop (k + 1) ds)) in
    ap (from_one rest) m ∙ (sym (other_number (tree_at trees (Some q)) rest left n) ∙ (ap (λ qs. from_one qs left) (sym (queries_take trees ds k q (sym e ∙ s))) ∙ h))

pub number_skip : (ds : List Decl) (k : ℕ) (o : Option NodeId) (left number : ℕ) → k < length ds → o ≡ option_and_then query_of (slice_get ds k) → o ≡ None → (trees : List KindTree) → from_one (queries_in (declarations trees (drop k ds))) left ≡ from_one (queries_in (declarations trees ds)) number → from_one (queries_in (declarations trees (drop (k + 1) ds))) left ≡ from_one (queries_in (declarations trees ds)) number
number_skip ds k o left number l e n trees h = ap (λ qs. from_one qs left) (sym (queries_skip trees ds k l (sym e ∙ n))) ∙ h

no_number : (left : ℕ) → (let none : Option Tree = None in none) ≡ from_one [] left
no_number zero = refl
no_number (suc m) = refl

pub number_past : (ds : List Decl) (k left number : ℕ) → length ds ≤ k → (trees : List KindTree) → from_one (queries_in (declarations trees (drop k ds))) left ≡ from_one (queries_in (declarations trees ds)) number → None ≡ from_one (queries_in (declarations trees ds)) number
number_past ds k left number l trees h = no_number left ∙ (ap (λ qs. from_one qs left) (sym (queries_past trees ds k l)) ∙ h)

pub query_live : (n : ℕ) (ds : List Decl) (k : ℕ) (o : Option NodeId) (q : NodeId) → o ≡ option_and_then query_of (slice_get ds k) → o ≡ Some q → All (IsLive n) ds → q.0 < n
query_live n ds k o q e s a = query_below n ds k q a (sym e ∙ s)
