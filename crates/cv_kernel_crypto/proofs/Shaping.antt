-- The shape of the context of a step, by the sites that were found for it.
use Rattle.std.proofs.Common.{◌≡◌, ℕ, Bool, true, false, if◌then◌else◌, List, map, Option, Some, None, option_map, refl, ap, sym, ◌∙◌}
use Rattle.cv_pool.specs.KindTree.{KindTree}
use Rattle.cv_pool.specs.declared.node.NodeId.{NodeId}
use Rattle.cv_syntax_trees.specs.Tree.{Tree}
use Rattle.cv_syntax.specs.PoolTrees.{tree_at}
use Rattle.cv_directory.specs.declared.directory.Directory.{Directory}
use Rattle.cv_syntax_trees.specs.sites.Sites.{SitesView, sites_of}
use Rattle.cv_directory.specs.Tables.{seen}
use Rattle.cv_typing.specs.declared.arrays.Arrays.{Arrays}
use Rattle.cv_typing.specs.declared.arrays.Arrays.TheVariants as held
use Rattle.cv_scope_rules.specs.typing.Signature.{OfGame}
use Rattle.cv_typing.specs.Tables.{arrays_of}
use Rattle.cv_scope_rules.specs.Phrases.{IsWellFormed}
use Rattle.cv_scene.specs.Contexts.{matching_of}
use Rattle.cv_scene.specs.Refusals.{Refusal, first_refusal}
use Rattle.cv_scene.specs.Scenes.{Scene}
use Rattle.cv_match_terms.specs.patterns.Sites.{site_in}
use Rattle.cv_match_terms.specs.declared.patterns.site.Site.{Site}
use Rattle.cv_context.specs.products.Shapes.{shape_of}
use Rattle.cv_context.specs.products.ShapesInCode.{IsMatched, shape_in}
use Rattle.cv_context.specs.declared.products.shape.Shape.{Shape}
use Rattle.cv_steps_laws.specs.crypto.Conditions.{equivalence_of, failed, failure_by, failure_with}
use Rattle.cv_kernel_crypto.specs.declared.instances.Instances.{Instances}
use Rattle.cv_kernel_crypto.specs.Stages.{AreInstances, IsMet}

-- the directory of a game's arrays

inside : (v w : SitesView) → OfGame v ≡ OfGame w → v ≡ w
inside v w e = cc

pub directory_is : (a : Arrays) (d : Directory) (v : SitesView) → arrays_of a ≡ OfGame v → a ≡ held.OfGame d → seen d ≡ v
directory_is a d v h i = inside (seen d) v (sym (ap arrays_of i) ∙ h)

-- where no condition fails, nothing speaks against the key
unrefused : (b : Bool) (r : Option Refusal) → (if b then option_map failure_by r else Some (failed 0 0)) ≡ None → r ≡ None
unrefused true None h = refl
unrefused true (Some r) h = absurd (cc)
unrefused false r h = absurd (cc)

pub shape_is : (trees : List KindTree) (s : Scene) (game : NodeId) (e x : ℕ) (i : Instances) (ss : List Site) (view : SitesView) (shape : Shape) → IsWellFormed s.declarations s.game → view ≡ sites_of s.game → AreInstances trees s game x i → IsMet trees s e x i → ss ≡ i.sites.items
    → (IsMatched trees view s (tree_at trees (Some i.tree)) x ss → shape_in shape ≡ shape_of s (tree_at trees (Some i.tree)) x) → option_map (λ t. shape_of s t x) (equivalence_of s e) ≡ Some (shape_in shape)
shape_is trees s game e x i ss view shape w v a m l k =
    let t : Tree = tree_at trees (Some i.tree) in
    let refusal = unrefused _ (first_refusal (matching_of s t x)) (ap (λ o. failure_with s o x) (sym m.named) ∙ m.met) in
    ap (option_map (λ u. shape_of s u x)) m.named ∙ ap Some (sym (k (record { game = w.phrase; directory = v; refusal = refusal; sites = ap (λ cs. map (site_in trees (matching_of s t x)) cs) l ∙ a.sites.sites })))
