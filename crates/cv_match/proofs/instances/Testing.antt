-- Instances, by the body and by what stands for each name.
use Rattle.std.proofs.Common.{◌≡◌, ℕ, refl, ap, ap₂, ◌∙◌}
use Rattle.std.specs.Prelude.{map, ◌&&◌}
use Rattle.cv_syntax_trees.specs.Tree.{Tree}
use Rattle.cv_syntax.proofs.Trees.{tree_of_NoTree}
use Rattle.cv_meaning.specs.Correspondences.{typed_names}
use Rattle.cv_meaning.specs.contexts.Groups.{Function}
use Rattle.cv_scene.specs.Sights.{variable_of}
use Rattle.cv_scene.specs.Instances.{Matching, are_of_types, guess, is_argument_of, is_coin_of, is_instance, is_read_of, term_for}
use Rattle.cv_match_terms.specs.patterns.Searches.{given_by, is_whole}
use Rattle.cv_match.specs.instances.Matchings.{is_typed}

pub instance_parts : (M : Matching) (f : Function) (m : Tree) → (is_whole M.group f m && is_typed M f m) ≡ is_instance M f (guess M.group f m) m
unfolding is_whole is_typed
instance_parts M f m = refl

-- the terms of names, in the order of their tests
pub typed_parts : (M : Matching) (f : Function) (m key coins arguments : Tree) (k : ℕ × ℕ) → k ≡ M.group.key → key ≡ given_by f m k.0 → typed_names coins ≡ f.coins → typed_names arguments ≡ f.arguments → (is_read_of M.key (variable_of key) && (are_of_types (is_coin_of M) (typed_names coins) (map (term_for f.body m) (typed_names coins)) && are_of_types (is_argument_of M) (typed_names arguments) (map (term_for f.body m) (typed_names arguments)))) ≡ is_typed M f m
unfolding is_typed
typed_parts M f m key coins arguments k p q r s =
    ap₂ (λ x y. x && y) (ap (λ t. is_read_of M.key (variable_of t)) (q ∙ ap (λ (l : ℕ × ℕ). given_by f m l.0) p))
    (ap₂ (λ x y. x && y) (ap (λ xs. are_of_types (is_coin_of M) xs (map (term_for f.body m) xs)) r) (ap (λ xs. are_of_types (is_argument_of M) xs (map (term_for f.body m) xs)) s))

pub ruleset whole = (tree_of_NoTree)
