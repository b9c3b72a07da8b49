-- A game that was tested, and a sequence whose step is settled.
use Rattle.std.proofs.Common.{◌≡◌, ℕ, ◌<◌, ◌^◌, List, length, take, Option, Some, None, is_some, Result, Ok, Err, sym, ap, ◌∙◌, subst}
use Rattle.std.specs.Prelude.{IfSome, OnErr, OnOk}
use Rattle.cv_pool.specs.declared.node.NodeId.{NodeId}
use Rattle.cv_pool.specs.KindTree.{KindTree}
use Rattle.cv_pool.specs.PoolView.{PoolView, Grows}
use Rattle.cv_syntax.specs.Classes.{DeclsView}
use Rattle.cv_syntax.specs.Declarations.{declarations}
use Rattle.cv_syntax_trees.specs.Tree.{size}
use Rattle.cv_syntax.specs.PoolTrees.{tree_at}
use Rattle.cv_directory.specs.Definitions.{entries_of, large_in}
use Rattle.cv_syntax_trees.specs.sites.Sites.{sites_of}
use Rattle.cv_directory.specs.Tables.{entries_in}
use Rattle.cv_kernel_crypto.specs.declared.games.testing.Next.{Next}
use Rattle.cv_scope_rules.specs.typing.Signature.{OfGame}
use Rattle.cv_typing.specs.Tables.{arrays_of, directory_in}
use Rattle.cv_scene.specs.Terms.{is_game}
use Rattle.cv_rule.specs.Prepared.{IsPrepared}
use Rattle.cv_steps_laws.proofs.Keeping.{formed}
use Rattle.cv_kernel.specs.declared.error.PushError.{PushError}
use Rattle.cv_kernel.specs.declared.sequence.Sequence.{Sequence}
use Rattle.cv_kernel.specs.Sequences.{Stands}

same_next : (a b : Next) → Some a ≡ Some b → a ≡ b
same_next a b e = cc

module _ (trees : List KindTree) (decls : DeclsView) (root : NodeId) where
  pub found_prepared : (found : Option Next) (a : Next) → found ≡ Some a → root.0 < length trees → size (tree_at trees (Some root)) < 2 ^ 32 → is_some found ≡ is_game (declarations trees decls.list) (tree_at trees (Some root))
      → IfSome found (λ b. arrays_of b.arrays ≡ OfGame (sites_of (tree_at trees (Some root)))) → IfSome found (λ b. IfSome (directory_in b.arrays) (λ d. entries_in trees d ≡ entries_of (large_in decls.list) (tree_at trees (Some root)))) → IsPrepared trees decls root a.arrays
  found_prepared None a e l s g h k = absurd (cc)
  found_prepared (Some b) a e l s g h k =
      subst (λ (n : Next). IsPrepared trees decls root n.arrays) (same_next b a e)
      (record { live = l; fits = s; formed = formed (declarations trees decls.list) (tree_at trees (Some root)) (sym g); arrays = h; entries = k })

module _ (old advanced settled : PoolView) (d e : DeclsView) (s t : Sequence) where
  pub stands_settled : (r q : Result (Unit {0}) PushError) (n : ℕ) → Stands old.trees d s → n ≡ length old.trees → Grows old advanced → e ≡ d → q ≡ r → OnOk r (Stands advanced.trees e t) → OnErr r (t ≡ s) → OnOk q (settled ≡ advanced) → OnErr q (settled.trees ≡ take n advanced.trees) → Stands settled.trees e t
  stands_settled (Ok u) q n a m g f w h k i j = subst (λ p. Stands p.trees e t) (sym (subst (λ x. OnOk x (settled ≡ advanced)) w i)) h
  stands_settled (Err x) q n a m g f w h k i j =
      let back : settled.trees ≡ take n advanced.trees = subst (λ x. OnErr x (settled.trees ≡ take n advanced.trees)) w j in
      let trees : settled.trees ≡ old.trees = back ∙ (ap (λ l. take l advanced.trees) m ∙ g.kept) in
      subst (λ l. Stands l e t) (sym trees) (subst (λ y. Stands old.trees y t) (sym f) (subst (Stands old.trees d) (sym k) a))
