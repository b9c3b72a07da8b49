-- The arguments of a site, one by one.
use Rattle.std.proofs.Common.{◌≡◌, ℕ, List, [], ◌∷◌, ◌++◌, Option, None, refl, ap, sym, ◌∙◌}
use Rattle.std.proofs.lemmas.List.{append-nil, append_assoc}
use Rattle.cv_pool.specs.declared.node.NodeId.{NodeId}
use Rattle.cv_pool.specs.KindTree.{KindTree}
use Rattle.cv_syntax_trees.specs.declared.head.Head.{Head}
use Rattle.cv_syntax_trees.specs.declared.head.Head.TheVariants.{Binder}
use Rattle.cv_syntax_trees.specs.Tree.{Tree, Node}
use Rattle.cv_syntax.specs.PoolTrees.{tree_at}
use Rattle.cv_syntax.proofs.Trees.{empty_at}
use Rattle.cv_meaning.specs.Correspondences.{typed_names}
use Rattle.cv_inline.specs.Draws.{Draw, argument_draws}
use Rattle.cv_inline_sites.specs.listing.Listed.{variable_draw}

module _ (site : ℕ) where
  drawn : Tree → List Draw
  drawn t = argument_draws site (typed_names t)

  -- one more binder
  pub argument_more : (before one all : List Draw) (t : Tree) (h : Head) (a b : Tree) (x n : ℕ) → t ≡ Node h a b → h ≡ Binder x n → one ≡ before ++ variable_draw site x ∷ [] →
      before ++ argument_draws site (typed_names t) ≡ all → one ++ argument_draws site (typed_names b) ≡ all
  argument_more before one all t h a b x n e f o so_far =
      ap (λ ds. ds ++ argument_draws site (typed_names b)) o
      ∙ (append_assoc before (variable_draw site x ∷ []) (argument_draws site (typed_names b))
      ∙ (ap (λ u. before ++ argument_draws site (typed_names u)) (sym (e ∙ ap (λ k. Node k a b) f)) ∙ so_far))

  -- no binder stands there
  pub arguments_end : (before all : List Draw) (t : Tree) (h : Head) (a b : Tree) → t ≡ Node h a b → ((x n : ℕ) → h ≡ Binder x n → ⊥) → before ++ argument_draws site (typed_names t) ≡ all → before ≡ all
  arguments_end before all t h a b e other so_far =
      sym (append-nil before) ∙ (ap (λ xs. before ++ argument_draws site xs) (sym (ap typed_names e ∙ ends h a b other)) ∙ so_far) where
        ends : (h : Head) (a b : Tree) → ((x n : ℕ) → h ≡ Binder x n → ⊥) → typed_names (Node h a b) ≡ []
        ends (Binder x n) a b o = absurd (o x n refl)
        ends h a b o = refl

  pub arguments_none : (before all : List Draw) (trees : List KindTree) (at : Option NodeId) → at ≡ None → before ++ argument_draws site (typed_names (tree_at trees at)) ≡ all → before ≡ all
  arguments_none before all trees at e so_far =
      sym (append-nil before) ∙ (ap (λ t. before ++ argument_draws site (typed_names t)) (sym (empty_at trees at e)) ∙ so_far)
