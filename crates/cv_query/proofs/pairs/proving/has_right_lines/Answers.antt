use Rattle.std.proofs.Common.{◌≡◌, ℕ, ◌++◌, Bool, true, false, List, map, not, is_some, ap, sym, ◌∙◌}
use Rattle.cv_syntax_trees.specs.Tree.{chain}
use Rattle.cv_syntax.specs.PoolTrees.{tree_at}
use Rattle.cv_scope_rules.specs.Context.{items}
use Rattle.cv_scene.specs.Derivations.{first_bad_line}
use Rattle.cv_scene.specs.Late.{index_term}
use Rattle.cv_scene.specs.Pairs.{pair_at, second_indices}
use Rattle.cv_scene.specs.Scenes.{Scene}
use Rattle.cv_scene.specs.Terms.{above_under, replications_at}
use Rattle.cv_scene_view.specs.Kept.{scene_of}
use Rattle.cv_query.specs.pairs.Proved.{near}
use Rattle.cv_query.proofs.pairs.Tried.{near_at, near_lines}
use Rattle.cv_query.proofs.pairs.proving.has_right_lines.Goals as goal

pub first_bad_of_pair-bad-requires-clause-second : goal.first_bad_of_pair-bad-requires-clause-second
first_bad_of_pair-bad-requires-clause-second c =
    let s : Scene = scene_of c.args.work.now.pool c.args.work.now.decls c.args.game in
    let there = c.requires.rows ∙ (sym (near_at s c.requires.ready.fits c.args.q) ∙ ap (replications_at s) (sym c.near.ensures)) in
    record {
      replications = there;
      raised = c.requires.raised ∙ ap (λ (rs : List (ℕ × ℕ)). chain (map index_term (second_indices c.args.taken.now.raise rs))) there;
      raised_live = c.requires.made.raised;
      given_live = c.requires.made.given;
    }

pub first_bad_of_pair-bad-requires-clause-above : goal.first_bad_of_pair-bad-requires-clause-above
first_bad_of_pair-bad-requires-clause-above c =
    let s : Scene = scene_of c.args.work.now.pool c.args.work.now.decls c.args.game in
    let there = c.requires.rows ∙ (sym (near_at s c.requires.ready.fits c.args.q) ∙ ap (replications_at s) (sym c.near.ensures)) in
    c.in_ok-above.ensures
    ∙ ap (λ (rs : List (ℕ × ℕ)). above_under (replications_at s c.near-place.result ++ rs))
    (c.as_slice.ensures.value ∙ (c.in_ok-seconds.ensures ∙ ap (second_indices c.args.taken.now.raise) there))

turned : (a b : Bool) → a ≡ not b → b ≡ not a
turned a true e = ap not (sym e)
turned a false e = ap not (sym e)

pub returns : goal.returns
returns c =
    let s : Scene = scene_of c.args.work.now.pool c.args.work.now.decls c.args.game in
    let trees = c.args.work.now.pool.trees in
    let k : ℕ = c.args.taken.now.raise in
    let given = items (tree_at trees c.args.made.given) in
    let by = tree_at trees c.args.made.by in
    let ds = c.args.taken.now.distinct.now in
    turned (is_some c.first_bad_of_pair-bad.result) c.is_none.result c.is_none.ensures
    ∙ (ap (λ o. not (is_some o)) c.first_bad_of_pair-bad.ensures
    ∙ (ap (λ (n : ℕ). not (is_some (first_bad_line (pair_at s n c.near.result k given ds) by))) c.near-place.ensures
    ∙ (ap (λ (n : ℕ). not (is_some (first_bad_line (pair_at s (near c.args.p) n k given ds) by))) c.near.ensures
    ∙ ap (λ o. not (is_some o)) (near_lines s c.requires.ready.fits c.args.p c.args.q k given ds by))))
