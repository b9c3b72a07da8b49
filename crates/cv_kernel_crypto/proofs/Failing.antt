-- The first condition of a step that fails, by what is found of its equivalence and of its key.
use Rattle.std.proofs.Common.{◌≡◌, ℕ, Bool, true, false, ◌||◌, ◌==◌, if◌then◌else◌, List, [], ◌∷◌, map, Option, Some, None, option_map, Result, Ok, Err, refl, ap, subst, sym, ◌∙◌}
use Rattle.std.specs.Prelude.{IfErr, IsErrAnd}
use Rattle.cv_pool.specs.KindTree.{KindTree}
use Rattle.cv_pool.specs.PoolView.{PoolView}
use Rattle.cv_pool.specs.declared.node.NodeId.{NodeId}
use Rattle.cv_syntax.specs.Classes.{DeclsView, declaration_in, equiv_by, equiv_in}
use Rattle.cv_syntax.specs.declared.decls.Decl.{Decl}
use Rattle.cv_syntax.specs.declared.decls.Decl.TheVariants as decl
use Rattle.cv_syntax.specs.Declarations.{declared}
use Rattle.cv_syntax_trees.specs.Tree.{Tree}
use Rattle.cv_syntax.specs.PoolTrees.{tree_at}
use Rattle.cv_scope_rules.specs.typing.Signature.{declaration_of}
use Rattle.cv_scene.specs.Contexts.{matching_of}
use Rattle.cv_scene.specs.Refusals.{Refusal, first_refusal}
use Rattle.cv_scene.specs.Scenes.{names}
use Rattle.cv_scene_view.specs.Kept.{scene_of}
use Rattle.cv_match.specs.declared.fault.MatchFault.{MatchFault}
use Rattle.cv_match.specs.declared.fault.MatchFault.TheVariants as match
use Rattle.cv_match.specs.Matched.{IsFault}
use Rattle.cv_steps_laws.specs.crypto.Conditions.{Failure, equivalence_by, equivalence_of, failed, failure_by, failure_of, failure_with}
use Rattle.cv_kernel_crypto.specs.declared.fault.CryptoFault.{CryptoFault}
use Rattle.cv_kernel_crypto.specs.Faults.{IsRefused, fault_of}

abbrev at_node : List KindTree → NodeId → Tree
at_node trees n = tree_at trees (Some n)

-- the tree of the equivalence that has the name
module _ (trees : List KindTree) where
  unless_named : (b : Bool) (d : Decl) (ds : List Decl) (x : ℕ) → equivalence_by (Some (declared trees d)) ≡ option_map (at_node trees) (equiv_by (Some d)) →
      equivalence_by (declaration_of (map (declared trees) ds) x) ≡ option_map (at_node trees) (equiv_in ds x) →
      equivalence_by (if b then Some (declared trees d) else declaration_of (map (declared trees) ds) x) ≡ option_map (at_node trees) (equiv_by (if b then Some d else declaration_in ds x))
  unless_named true d ds x e h = e
  unless_named false d ds x e h = h

  found : (ds : List Decl) (x : ℕ) → equivalence_by (declaration_of (map (declared trees) ds) x) ≡ option_map (at_node trees) (equiv_in ds x)
  found [] x = refl
  found (decl.Name id class args result ∷ ds) x = unless_named (x == id.0) (decl.Name id class args result) ds x refl (found ds x)
  found (decl.Equation n ∷ ds) x = found ds x
  found (decl.Equiv id n ∷ ds) x = unless_named (x == id.0) (decl.Equiv id n) ds x refl (found ds x)
  found (decl.Query n ∷ ds) x = found ds x

-- so its tree is that of its node
pub node_named : (pool : PoolView) (decls : DeclsView) (game : NodeId) (e : ℕ) (n : NodeId) → equiv_in decls.list e ≡ Some n → equivalence_of (scene_of pool decls game) e ≡ Some (tree_at pool.trees (Some n))
node_named pool decls game e n i = found pool.trees decls.list e ∙ ap (option_map (at_node pool.trees)) i

module _ (pool : PoolView) (decls : DeclsView) (game : NodeId) (e x : ℕ) where
  abbrev failure_here : Option Failure
  failure_here = failure_of (scene_of pool decls game) e x

  known : (o : Option NodeId) → equiv_in decls.list e ≡ o → failure_here ≡ failure_with (scene_of pool decls game) (option_map (at_node pool.trees) o) x
  known o i = ap (λ t. failure_with (scene_of pool decls game) t x) (found pool.trees decls.list e ∙ ap (option_map (at_node pool.trees)) i)

  pub without_equivalence : equiv_in decls.list e ≡ None → failure_here ≡ Some (failed 0 0)
  without_equivalence i = known None i

  abbrev is_there : Bool
  is_there = (scene_of pool decls game).known x || names x (scene_of pool decls game).game

  pub without_variable : (n : NodeId) → equiv_in decls.list e ≡ Some n → is_there ≡ false → failure_here ≡ Some (failed 0 0)
  without_variable n i h = known (Some n) i ∙ ap (λ b. if b then option_map failure_by (first_refusal (matching_of (scene_of pool decls game) (at_node pool.trees n) x)) else Some (failed 0 0)) h

  pub with_both : (n : NodeId) → equiv_in decls.list e ≡ Some n → is_there ≡ true → failure_here ≡ option_map failure_by (first_refusal (matching_of (scene_of pool decls game) (tree_at pool.trees (equiv_in decls.list e)) x))
  with_both n i h =
      known (Some n) i ∙ (ap (λ b. if b then option_map failure_by (first_refusal (matching_of (scene_of pool decls game) (at_node pool.trees n) x)) else Some (failed 0 0)) h
      ∙ ap (λ o. option_map failure_by (first_refusal (matching_of (scene_of pool decls game) (tree_at pool.trees o) x))) (sym i))

-- a fault of matching refuses the step by its refusal
pub refused_by : (r : Option Refusal) (fault : MatchFault) → IsFault r fault → IsRefused (option_map failure_by r) (fault_of fault)
refused_by r match.NotOneSite h = ap (option_map failure_by) h
refused_by r (match.Use p) h = ap (option_map failure_by) h
refused_by r (match.InCondition p) h = ap (option_map failure_by) h
refused_by r (match.CoinUse p) h = ap (option_map failure_by) h
refused_by r (match.KeyInArgument p) h = ap (option_map failure_by) h
refused_by r match.OutOfMemory h = tt

-- a fault that was passed on
pub refused_through : {T : Type 0} (r : Result T CryptoFault) (f : CryptoFault) (o : Option Failure) → IsErrAnd r (λ y. y ≡ f) → IsRefused o f → IfErr r (IsRefused o)
refused_through (Ok x) f o i h = absurd i
refused_through (Err y) f o i h = subst (IsRefused o) (sym i) h
