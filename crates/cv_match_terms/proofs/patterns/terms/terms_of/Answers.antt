use Rattle.std.proofs.Common.{ℕ, ap, map, ◌∙◌}
use Rattle.cv_syntax.specs.PoolTrees.{tree_at}
use Rattle.cv_meaning.specs.Correspondences.{typed_names}
use Rattle.cv_meaning.specs.contexts.Groups.{function_of}
use Rattle.cv_scene.specs.Instances.{term_for}
use Rattle.cv_match_terms.specs.patterns.Searches.{given_by}
use Rattle.cv_match_terms.proofs.patterns.Parts.{same_instance}
use Rattle.cv_match_terms.proofs.patterns.terms.terms_of.Goals as goal

pub returns : goal.returns
returns c =
    let trees = c.args.pool.now.trees in
    let f = function_of (tree_at trees c.args.f) in
    let m = tree_at trees c.args.term in
    record {
      terms = same_instance _ _ _ _ _ _ (c.term_of-key.ensures.tree ∙ ap (λ (k : ℕ × ℕ). given_by f m k.0) c.key_of.ensures) (c.in_ok-coins.ensures.terms ∙ ap (λ u. map (term_for f.body m) (typed_names u)) c.coins_of.ensures.tree) (c.in_ok-arguments.ensures.terms ∙ ap (λ u. map (term_for f.body m) (typed_names u)) c.arguments_of.ensures.tree);
      key = c.term_of-key.ensures.live;
      coins = c.in_ok-coins.ensures.live;
      arguments = c.in_ok-arguments.ensures.live;
    }
