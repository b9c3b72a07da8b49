-- The context and the next game of a step, as they stand in the pool.
use Rattle.std.proofs.Common.{◌≡◌, ℕ, ◌+◌, ◌<◌, ◌≤◌, List, length, Some, sym, ap, ◌∙◌, subst, arith}
use Rattle.cv_pool.specs.KindTree.{KindTree}
use Rattle.cv_pool.specs.declared.node.NodeId.{NodeId}
use Rattle.cv_pool.specs.PoolView.{PoolView, Grows}
use Rattle.cv_syntax.specs.Classes.{DeclsView}
use Rattle.cv_syntax_trees.specs.Tree.{Tree}
use Rattle.cv_syntax.specs.PoolTrees.{tree_at}
use Rattle.cv_meaning.specs.contexts.Groups.{Right, side_group}
use Rattle.cv_scene_view.specs.Kept.{scene_of}
use Rattle.cv_scene.specs.Reductions.{Reduction, context_of_game}
use Rattle.cv_scene.specs.Scenes.{Scene}
use Rattle.cv_match_laws.specs.answers.Drawn.{draws, finds}
use Rattle.cv_inline.specs.NextGame.{next_of}
use Rattle.cv_inline_draws.specs.names.Fresh.{IsDrawnFor}
use Rattle.cv_steps_laws.specs.crypto.reductions.Tables.{labels}
use Rattle.cv_inline_draws.specs.taken_names.Taken.{taken_names}
use Rattle.cv_meaning.specs.contexts.Inlined.{Drawn}
use Rattle.cv_steps_laws.specs.crypto.Conditions.{equivalence_of}
use Rattle.cv_inline_walk.specs.Made.{IsTreeAt}
use Rattle.cv_inline_walk.specs.Steps.{next_tree}
use Rattle.cv_steps_laws.specs.crypto.Steps.{IsNextGame, reduction_of}
use Rattle.cv_kernel_crypto.specs.declared.inlining.Inlining.{Inlining}
use Rattle.cv_kernel_crypto.specs.declared.instances.Instances.{Instances}
use Rattle.cv_kernel_crypto.specs.Applied.{IsDrawn, IsDrawnWith}
use Rattle.cv_syntax.specs.limits.Limits.{nodes_of}
use Rattle.cv_kernel_crypto.specs.Stages.{AreInstances, HasContext, IsBuiltAt, IsInlining, IsMet}
use Rattle.cv_kernel_crypto.proofs.Reduced.{functions_same}
use Rattle.cv_kernel_crypto.proofs.Growing.{root_grown}
use Rattle.cv_kernel_crypto.proofs.Inlined.{next_made}
use Rattle.cv_kernel_crypto.proofs.Outcomes.{is_context, is_drawn}

module _ (old mid : PoolView) (decls : DeclsView) (game context : NodeId) (x : ℕ) (i : Instances) where
  abbrev s : Scene
  s = scene_of old decls game

  abbrev t : Tree
  t = tree_at old.trees (Some i.tree)

  abbrev r : Reduction
  r = reduction_of s t x

  -- the context stands behind the game
  pub context_stands : Grows old mid → game.0 < length old.trees → AreInstances old.trees s game x i → tree_at mid.trees (Some context) ≡ (context_of_game r).game → HasContext mid.trees r game context i
  context_stands g l a e = record {
    game = root_grown old mid game g l;
    equivalence = root_grown old mid i.tree g a.live;
    context = e;
    functions = functions_same old.trees s t x i.sites.items (Some game) a.sites;
  }

  module _ (n : Inlining) (h : HasContext mid.trees r game context i) (k : IsInlining mid.trees r n) where
    abbrev pub next : Tree
    next = next_tree mid.trees n.drawing x n.callings.items (side_group Right t) context

    pub next_drawn : IsNextGame r next
    next_drawn = record { names = k.drawn.names; labels = labels r; drawn = k.drawn.drawn; game = next_made mid.trees r game context i n h k ∙ k.drawn.game }

    -- it is made behind the context, and both take no more nodes than there is room for
    pub built : (e limit low more : ℕ) (trees after : List KindTree) (root : NodeId) → IsMet old.trees s e x i → IsTreeAt low more next trees root → after ≡ trees
        → length old.trees + nodes_of (context_of_game r).game + nodes_of (tree_at trees (Some root)) ≤ limit → length after ≤ length old.trees + nodes_of (context_of_game r).game + nodes_of (tree_at trees (Some root))
        → IsBuiltAt limit (length old.trees) s e x after root
    built e limit low more trees after root m q same room few =
        let p = ap (λ ts. tree_at ts (Some root)) same in
        let c = ap nodes_of p in
        record {
          context = (context_of_game r).game;
          made = is_context s e x t m.named m.met;
          drawn = subst (λ u. IsDrawn s e x u) (sym (p ∙ q.tree)) (is_drawn s e x t m.named m.met next next_drawn q.small q.shallow);
          room = omega (arith, room, c);
          few = omega (arith, few, c);
        }

-- an equivalence of a name is one
pub one_equivalence : (s : Scene) (e : ℕ) (t u : Tree) → equivalence_of s e ≡ Some t → equivalence_of s e ≡ Some u → t ≡ u
one_equivalence s e t u i j = cc

pub drawn_with : (before after : List (List ℕ)) (own : ℕ) (r : Reduction) (taken : List ℕ) (d : Drawn) → taken ≡ taken_names own r.scene.game → IsDrawnFor before after taken (draws r) (finds r) (labels r) d
    → (made : Tree) → made ≡ next_of (context_of_game r) r.key d → IsDrawnWith before after own r made
drawn_with before after own r taken d e h made g = record { drawn = d; table = subst (λ ns. IsDrawnFor before after ns (draws r) (finds r) (labels r) d) e h; game = g }
