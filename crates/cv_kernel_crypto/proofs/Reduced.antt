-- The context that is made for sites is the one of the reduction.
use Rattle.std.proofs.Common.{◌≡◌, ℕ, ◌+◌, ◌<◌, ◌≤◌, List, [], ◌∷◌, length, map, Option, refl, sym, ap, ◌∙◌, subst, arith}
use Rattle.std.proofs.lemmas.List.{length-map}
use Rattle.cv_pool.specs.KindTree.{KindTree}
use Rattle.cv_pool.specs.declared.node.NodeId.{NodeId}
use Rattle.cv_syntax_trees.specs.Tree.{Tree}
use Rattle.cv_match_terms.specs.declared.patterns.site.Site.{Site}
use Rattle.cv_match_terms.specs.patterns.Sites.{site_in}
use Rattle.cv_scene.specs.Scenes.{Scene}
use Rattle.cv_scene.specs.Contexts.{context_of, matching_of}
use Rattle.cv_scene.specs.Reductions.{context_of_game}
use Rattle.cv_scene.specs.Sites.{sites_of}
use Rattle.cv_scene.specs.Sites as instances
use Rattle.cv_context.specs.Roles.{AreSitesOf, name_at}
use Rattle.cv_match_laws.specs.answers.Answers.{above_names, answer_above}
use Rattle.cv_context_laws.proofs.calls.Alike.{alike_contexts}
use Rattle.cv_steps_laws.specs.crypto.Steps.{first_answer, reduction_of}

module _ (trees : List KindTree) (s : Scene) (e : Tree) (x : ℕ) (sites : List Site) (root : Option NodeId) (a : AreSitesOf trees s e x sites root) where
  count_same : length (sites_of (matching_of s e x)) ≡ length sites
  count_same = ap length (sym a.sites) ∙ length-map sites (site_in trees (matching_of s e x))

  positions : (ss : List Site) → map (λ (c : instances.Site). c.call.position) (map (site_in trees (matching_of s e x)) ss) ≡ map (λ (c : Site). c.function) ss
  positions [] = refl
  positions (c ∷ cs) = ap (λ ks. c.function ∷ ks) (positions cs)

  pub functions_same : map (λ (c : Site). c.function) sites ≡ (context_of_game (reduction_of s e x)).functions
  functions_same = sym (positions sites) ∙ ap (map (λ (c : instances.Site). c.call.position)) a.sites

  answered : above_names s.game ≤ first_answer → (k : ℕ) → first_answer + k ≡ answer_above first_answer s.game k
  answered l k = omega (arith, l)

  pub context_same : (names : List ℕ) → above_names s.game ≤ first_answer → ((k : ℕ) → k < length sites → name_at names k ≡ first_answer + k) → context_of s e x (name_at names) ≡ context_of_game (reduction_of s e x)
  context_same names l f = alike_contexts s e x (name_at names) (answer_above first_answer s.game) (λ k h. f k (subst (λ n. k < n) count_same h) ∙ answered l k)
