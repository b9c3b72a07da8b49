-- A list of branches, from its first one on.
use Rattle.std.proofs.Common.{◌≡◌, ℕ, suc, ◌+◌, ◌≤◌, ◌==◌, if◌then◌else◌, List, [], ◌++◌, Option, Some, None, refl, ap, sym, subst, ◌∙◌, arith}
use Rattle.std.specs.Prelude.{option_map}
use Rattle.std.proofs.lemmas.List.{append_assoc, append-nil}
use Rattle.cv_pool.specs.KindTree.{KindTree}
use Rattle.cv_syntax_trees.specs.declared.head.Head.TheVariants.{Cons, Branch, Binder}
use Rattle.cv_syntax_trees.specs.Tree.{Tree, Empty, Node, size}
use Rattle.cv_syntax.specs.PoolTrees.{tree_at}
use Rattle.cv_meaning.specs.contexts.Inlined.{Caller}
use Rattle.cv_inline.specs.Draws.{Draw, branch_draws, index_draws}
use Rattle.cv_inline_sites.specs.listing.BranchForms.{calls_in, calls_of}
use Rattle.cv_inline_sites.specs.declared.listing.branches.Calls.{Calls}

module _ (c q : ℕ) (s : Caller) where
  -- what is drawn for a branch
  abbrev pub drawn_for_calls : ℕ → ℕ × ℕ → List Draw
  drawn_for_calls k b = if s.bound == b.1 then branch_draws c q s.number k b.0 0 s.replications else []

  abbrev by_first : ℕ → Option ((ℕ × ℕ) × Tree) → List Draw
  by_first k None = []
  by_first k (Some b) = drawn_for_calls k b.0 ++ index_draws c q s (suc k) b.1

  first_branch : (k : ℕ) (t : Tree) → index_draws c q s k t ≡ by_first k (calls_of t)
  unfolding index_draws
  first_branch k Empty = refl
  first_branch k (Node Cons Empty more) = refl
  first_branch k (Node Cons (Node Branch Empty rest) more) = refl
  first_branch k (Node Cons (Node Branch (Node (Binder u n) x y) rest) more) = refl
  first_branch k (Node Cons (Node Branch (Node h x y) rest) more) = refl
  first_branch k (Node Cons (Node h us rest) more) = refl
  first_branch k (Node h a b) = refl

  -- one more branch
  pub branch_more : (before one all : List Draw) (trees : List KindTree) (t : Tree) (k : ℕ) (o : Option Calls) (b : Calls) → option_map (calls_in trees) o ≡ calls_of t → o ≡ Some b → one ≡ before ++ drawn_for_calls k (b.index, b.bound) →
      before ++ index_draws c q s k t ≡ all → one ++ index_draws c q s (k + 1) (tree_at trees b.behind) ≡ all
  branch_more before one all trees t k o b e f g so_far =
      let next : k + 1 ≡ suc k = omega arith in
      ap (λ ds. ds ++ index_draws c q s (k + 1) (tree_at trees b.behind)) g
      ∙ (append_assoc before (drawn_for_calls k (b.index, b.bound)) (index_draws c q s (k + 1) (tree_at trees b.behind))
      ∙ (ap (λ j. before ++ (drawn_for_calls k (b.index, b.bound) ++ index_draws c q s j (tree_at trees b.behind))) next
      ∙ (ap (λ ds. before ++ ds) (sym (first_branch k t ∙ ap (by_first k) (sym e ∙ ap (option_map (calls_in trees)) f))) ∙ so_far)))

  pub branches_end : (before all : List Draw) (trees : List KindTree) (t : Tree) (k : ℕ) (o : Option Calls) → option_map (calls_in trees) o ≡ calls_of t → o ≡ None → before ++ index_draws c q s k t ≡ all → before ≡ all
  branches_end before all trees t k o e f so_far =
      sym (append-nil before) ∙ (ap (λ ds. before ++ ds) (sym (first_branch k t ∙ ap (by_first k) (sym e ∙ ap (option_map (calls_in trees)) f))) ∙ so_far)

-- the branches behind have fewer nodes
abbrev left_by : Option ((ℕ × ℕ) × Tree) → Tree → Type 0
left_by None t = Unit {0}
left_by (Some b) t = size b.1 + 1 ≤ size t

fewer : (t : Tree) → left_by (calls_of t) t
unfolding size
fewer Empty = tt
fewer (Node Cons Empty more) = tt
fewer (Node Cons (Node Branch Empty rest) more) = tt
fewer (Node Cons (Node Branch (Node (Binder u n) x y) rest) more) = omega arith
fewer (Node Cons (Node Branch (Node h x y) rest) more) = tt
fewer (Node Cons (Node h us rest) more) = tt
fewer (Node h a b) = tt

pub fewer_behind : (trees : List KindTree) (t : Tree) (o : Option Calls) (b : Calls) → option_map (calls_in trees) o ≡ calls_of t → o ≡ Some b → size (tree_at trees b.behind) + 1 ≤ size t
fewer_behind trees t o b e f = subst (λ r. left_by r t) (sym e ∙ ap (option_map (calls_in trees)) f) (fewer t)
