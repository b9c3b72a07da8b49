-- What a next game is made from is that of its reduction.
use Rattle.std.proofs.Common.{◌≡◌, ℕ, List, [], map, Some, ap, ◌∙◌, subst}
use Rattle.cv_pool.specs.KindTree.{KindTree}
use Rattle.cv_pool.specs.declared.node.NodeId.{NodeId}
use Rattle.cv_syntax.specs.PoolTrees.{tree_at}
use Rattle.cv_meaning.specs.contexts.Groups.{Right, side_group}
use Rattle.cv_meaning.specs.contexts.Inlined.{Drawn}
use Rattle.cv_match_terms.specs.declared.patterns.site.Site.{Site}
use Rattle.cv_scene.specs.Reductions.{Reduction, context_of_game}
use Rattle.cv_match_laws.specs.answers.Drawn.{callings, draws, finds}
use Rattle.cv_inline.specs.Draws.{draws_of, label_draws, labels_from, labels_in}
use Rattle.cv_inline.specs.NextGame as game
use Rattle.cv_inline.specs.NextGame.{callings_from, next_in}
use Rattle.cv_inline_draws.specs.names.Fresh.{IsDrawnFor}
use Rattle.cv_steps_laws.specs.crypto.reductions.Tables.{labels}
use Rattle.cv_inline.specs.terms.Drawings.{drawn_in}
use Rattle.cv_inline_walk.specs.Steps.{next_tree}
use Rattle.cv_kernel_crypto.specs.declared.inlining.Inlining.{Inlining}
use Rattle.cv_kernel_crypto.specs.declared.instances.Instances.{Instances}
use Rattle.cv_kernel_crypto.specs.Stages.{HasContext, IsInlining}

module _ (trees : List KindTree) (r : Reduction) (at context : NodeId) (i : Instances) (h : HasContext trees r at context i) where
  -- the sites
  pub callings_same : (functions : List ℕ) → functions ≡ map (λ (s : Site). s.function) i.sites.items
      → callings_from (side_group Right (tree_at trees (Some i.tree))) (tree_at trees (Some context)) 0 functions ≡ callings r
  callings_same functions e =
      ap (λ t. callings_from (side_group Right t) (tree_at trees (Some context)) 0 functions) h.equivalence
      ∙ (ap (λ t. callings_from (side_group Right r.equivalence) t 0 functions) h.context
      ∙ ap (callings_from (side_group Right r.equivalence) (context_of_game r).game 0) (e ∙ h.functions))

  -- what is drawn
  pub drawn_same : (before after : List (List ℕ)) (taken : List ℕ) (cs : List game.Calling) (d : Drawn) → cs ≡ callings r
      → IsDrawnFor before after taken (draws_of (side_group Right r.equivalence) cs) (label_draws cs) (labels_from (labels_in (tree_at trees (Some at))) 1 (label_draws cs)) d
      → IsDrawnFor before after taken (draws r) (finds r) (labels r) d
  drawn_same before after taken cs d e f =
      subst (λ ks. IsDrawnFor before after taken (draws_of (side_group Right r.equivalence) ks) (label_draws ks) (labels_from (labels_in r.scene.game) 1 (label_draws ks)) d) e
      (subst (λ t. IsDrawnFor before after taken (draws_of (side_group Right r.equivalence) cs) (label_draws cs) (labels_from (labels_in t) 1 (label_draws cs)) d) h.game f)

-- the tree that is made from it is the next game
pub next_made : (trees : List KindTree) (r : Reduction) (at context : NodeId) (i : Instances) (n : Inlining) → HasContext trees r at context i → IsInlining trees r n
    → (next_tree trees n.drawing r.key n.callings.items (side_group Right r.equivalence) context ≡ game.next_of (context_of_game r) r.key (drawn_in n.drawing))
next_made trees r at context i n h g =
    ap (λ cs. next_in (record { drawn = drawn_in n.drawing; key = r.key; group = side_group Right r.equivalence; callings = cs }) [] (tree_at trees (Some context))) g.callings
    ∙ ap (next_in (record { drawn = drawn_in n.drawing; key = r.key; group = side_group Right r.equivalence; callings = callings r }) []) h.context
