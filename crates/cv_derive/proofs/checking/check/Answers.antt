use Rattle.std.proofs.Common.{arith, sym, ◌∙◌}
use Rattle.cv_syntax.specs.PoolTrees.{tree_at}
use Rattle.cv_scene.specs.Sights.{sight_at}
use Rattle.cv_scene.specs.lines.Lines.{lines_of}
use Rattle.cv_scene_view.specs.Kept.{scene_of}
use Rattle.cv_derive.proofs.Judging.{few_statements, says_line, says_right, says_targets, verdict_line, verdict_right, verdict_targets}
use Rattle.cv_derive.proofs.Seeing.{seen_from_first}
use Rattle.cv_derive.proofs.checking.check.Goals as goal

pub returns-in-Some-clause-verdict : goal.returns-in-Some-clause-verdict
returns-in-Some-clause-verdict c =
    let trees = c.args.work.now.pool.trees in
    let by = tree_at trees c.args.by in
    let targets = tree_at trees c.args.targets in
    let s = sight_at (scene_of c.args.work.now.pool c.args.work.now.decls c.args.game.root) c.args.place in
    verdict_line s by targets c.first_bad.result (c.first_bad.ensures ∙ sym (seen_from_first s by)) c.in-Some.n c.in-Some.is

pub returns-in-Some-clause-right : goal.returns-in-Some-clause-right
returns-in-Some-clause-right c =
    let trees = c.args.work.now.pool.trees in
    let by = tree_at trees c.args.by in
    let targets = tree_at trees c.args.targets in
    let s = sight_at (scene_of c.args.work.now.pool c.args.work.now.decls c.args.game.root) c.args.place in
    says_right s by targets _ (verdict_line s by targets c.first_bad.result (c.first_bad.ensures ∙ sym (seen_from_first s by)) c.in-Some.n c.in-Some.is)

pub returns-in-Some-clause-line : goal.returns-in-Some-clause-line
returns-in-Some-clause-line c =
    let trees = c.args.work.now.pool.trees in
    let by = tree_at trees c.args.by in
    let targets = tree_at trees c.args.targets in
    let s = sight_at (scene_of c.args.work.now.pool c.args.work.now.decls c.args.game.root) c.args.place in
    says_line s by targets _ (verdict_line s by targets c.first_bad.result (c.first_bad.ensures ∙ sym (seen_from_first s by)) c.in-Some.n c.in-Some.is)

pub returns-in-Some-clause-targets : goal.returns-in-Some-clause-targets
returns-in-Some-clause-targets c =
    let trees = c.args.work.now.pool.trees in
    let by = tree_at trees c.args.by in
    let targets = tree_at trees c.args.targets in
    let s = sight_at (scene_of c.args.work.now.pool c.args.work.now.decls c.args.game.root) c.args.place in
    says_targets s by targets _ (verdict_line s by targets c.first_bad.result (c.first_bad.ensures ∙ sym (seen_from_first s by)) c.in-Some.n c.in-Some.is)

pub returns-then-not-ends_with-clause-verdict : goal.returns-then-not-ends_with-clause-verdict
returns-then-not-ends_with-clause-verdict c =
    let trees = c.args.work.now.pool.trees in
    let by = tree_at trees c.args.by in
    let targets = tree_at trees c.args.targets in
    let s = sight_at (scene_of c.args.work.now.pool c.args.work.now.decls c.args.game.root) c.args.place in
    verdict_targets s by targets c.first_bad.result (c.first_bad.ensures ∙ sym (seen_from_first s by)) c.in_default.is c.ends_with.result c.ends_with.ensures c.if-not-ends_with.true

pub returns-then-not-ends_with-clause-right : goal.returns-then-not-ends_with-clause-right
returns-then-not-ends_with-clause-right c =
    let trees = c.args.work.now.pool.trees in
    let by = tree_at trees c.args.by in
    let targets = tree_at trees c.args.targets in
    let s = sight_at (scene_of c.args.work.now.pool c.args.work.now.decls c.args.game.root) c.args.place in
    says_right s by targets _ (verdict_targets s by targets c.first_bad.result (c.first_bad.ensures ∙ sym (seen_from_first s by)) c.in_default.is c.ends_with.result c.ends_with.ensures c.if-not-ends_with.true)

pub returns-then-not-ends_with-clause-line : goal.returns-then-not-ends_with-clause-line
returns-then-not-ends_with-clause-line c =
    let trees = c.args.work.now.pool.trees in
    let by = tree_at trees c.args.by in
    let targets = tree_at trees c.args.targets in
    let s = sight_at (scene_of c.args.work.now.pool c.args.work.now.decls c.args.game.root) c.args.place in
    says_line s by targets _ (verdict_targets s by targets c.first_bad.result (c.first_bad.ensures ∙ sym (seen_from_first s by)) c.in_default.is c.ends_with.result c.ends_with.ensures c.if-not-ends_with.true)

pub returns-then-not-ends_with-clause-targets : goal.returns-then-not-ends_with-clause-targets
returns-then-not-ends_with-clause-targets c =
    let trees = c.args.work.now.pool.trees in
    let by = tree_at trees c.args.by in
    let targets = tree_at trees c.args.targets in
    let s = sight_at (scene_of c.args.work.now.pool c.args.work.now.decls c.args.game.root) c.args.place in
    says_targets s by targets _ (verdict_targets s by targets c.first_bad.result (c.first_bad.ensures ∙ sym (seen_from_first s by)) c.in_default.is c.ends_with.result c.ends_with.ensures c.if-not-ends_with.true)

pub returns-clause-verdict : goal.returns-clause-verdict
returns-clause-verdict c =
    let trees = c.args.work.now.pool.trees in
    let by = tree_at trees c.args.by in
    let targets = tree_at trees c.args.targets in
    let s = sight_at (scene_of c.args.work.now.pool c.args.work.now.decls c.args.game.root) c.args.place in
    verdict_right s by targets c.first_bad.result (c.first_bad.ensures ∙ sym (seen_from_first s by)) c.in_default.is c.ends_with.result c.ends_with.ensures c.if-not-ends_with.false

pub returns-clause-right : goal.returns-clause-right
returns-clause-right c =
    let trees = c.args.work.now.pool.trees in
    let by = tree_at trees c.args.by in
    let targets = tree_at trees c.args.targets in
    let s = sight_at (scene_of c.args.work.now.pool c.args.work.now.decls c.args.game.root) c.args.place in
    says_right s by targets _ (verdict_right s by targets c.first_bad.result (c.first_bad.ensures ∙ sym (seen_from_first s by)) c.in_default.is c.ends_with.result c.ends_with.ensures c.if-not-ends_with.false)

pub returns-clause-line : goal.returns-clause-line
returns-clause-line c =
    let trees = c.args.work.now.pool.trees in
    let by = tree_at trees c.args.by in
    let targets = tree_at trees c.args.targets in
    let s = sight_at (scene_of c.args.work.now.pool c.args.work.now.decls c.args.game.root) c.args.place in
    says_line s by targets _ (verdict_right s by targets c.first_bad.result (c.first_bad.ensures ∙ sym (seen_from_first s by)) c.in_default.is c.ends_with.result c.ends_with.ensures c.if-not-ends_with.false)

pub returns-clause-targets : goal.returns-clause-targets
returns-clause-targets c =
    let trees = c.args.work.now.pool.trees in
    let by = tree_at trees c.args.by in
    let targets = tree_at trees c.args.targets in
    let s = sight_at (scene_of c.args.work.now.pool c.args.work.now.decls c.args.game.root) c.args.place in
    says_targets s by targets _ (verdict_right s by targets c.first_bad.result (c.first_bad.ensures ∙ sym (seen_from_first s by)) c.in_default.is c.ends_with.result c.ends_with.ensures c.if-not-ends_with.false)

pub ends_with-requires-clause-few : goal.ends_with-requires-clause-few
ends_with-requires-clause-few c =
    let trees = c.args.work.now.pool.trees in
    let by = tree_at trees c.args.by in
    let few = few_statements (lines_of by) in omega (arith, few, c.requires.few)
