-- What a cryptographic step that may be made asks of a key, in an accepted file.
use Rattle.std.proofs.Common.{◌≡◌, ℕ, Bool, true, false, length, nat_lt, Option, Some, refl, sym, ap, subst, ◌∙◌}
use Rattle.std.proofs.lemmas.Bool.{and_from, both_ways, not_from_false}
use Rattle.cv_syntax_trees.specs.Tree.{Tree}
use Rattle.cv_meaning.specs.contexts.Groups.{Right, side_group}
use Rattle.cv_scope_rules.specs.declared.position.Position.TheVariants.{Anywhere}
use Rattle.cv_scope_rules.specs.typing.Signature.{is_fixed_in}
use Rattle.cv_context_runs.proofs.instances.Terms.{only_terms}
use Rattle.cv_scene.specs.Contexts.{matching_of}
use Rattle.cv_scene.specs.Refusals.{has_key}
use Rattle.cv_scene.specs.Scenes.{Scene}
use Rattle.cv_scene.specs.Sites.{sites_of}
use Rattle.cv_steps_laws.specs.crypto.Conditions.{equivalence_of}
use Rattle.cv_steps_laws.specs.crypto.Steps.{IsNextGame, is_next, reduction_of}
use Rattle.cv_strategy_rules.specs.Moves.{Crypto, IsMatch}
use Rattle.cv_strategy_moves.specs.Demands.{DemandsOfKey, HasTerms, IsUsedAsKey}
use Rattle.cv_strategy_moves.specs.Uses.{is_read_openly}
use Rattle.cv_strategy_moves.proofs.Choosing.{unfixed}
use Rattle.cv_strategy_moves.proofs.Demanding.{demanded}
use Rattle.cv_strategy_moves.proofs.Open.{read_openly}

same_tree_of : (t u : Tree) → ◌≡◌ {A = Option Tree} (Some t) (Some u) → t ≡ u
same_tree_of t u e = cc

module _ (s : Scene) (e x : ℕ) (tree : Tree) (terms : HasTerms s tree) (there : equivalence_of s e ≡ Some tree) (may : IsMatch s e x) where
  same : may.tree ≡ tree
  same = same_tree_of may.tree tree (sym may.there ∙ there)

  pub read : is_read_openly x Anywhere s.game ≡ true
  read =
      read_openly (matching_of s tree x) (λ t e. only_terms s.declarations (matching_of s tree x) t terms.left e) terms.phrase
      (subst (λ t. nat_lt 0 (length (sites_of (matching_of s t x))) ≡ true) same may.some)

  used : IsUsedAsKey (matching_of s tree x)
  used = subst (λ o. DemandsOfKey s o x) there (demanded s (Crypto e x) may)

  key : has_key (matching_of s tree x) ≡ true
  key = and_from _ _ used.drawn (not_from_false _ used.unasked)

  pub fixed : is_fixed_in s.declarations (side_group Right tree).key.1 ≡ true
  fixed = go (is_fixed_in s.declarations (side_group Right tree).key.1) refl
    where
      go : (b : Bool) → is_fixed_in s.declarations (side_group Right tree).key.1 ≡ b → b ≡ true
      go true f = refl
      go false f =
          let next = subst (λ t. IsNextGame (reduction_of s t x) may.next) same may.drawn in
          absurd (both_ways (is_next s.declarations may.next)
          (ap (is_next s.declarations) next.game ∙ unfixed (reduction_of s tree x) next.names next.labels terms.phrase terms.left key f) may.game)
