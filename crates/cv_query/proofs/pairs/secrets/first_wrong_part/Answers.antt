use Rattle.std.proofs.Common.{ap, map, ◌∙◌}
use Rattle.cv_pool.specs.KindTree.{KindTree}
use Rattle.std.proofs.Common.{List}
use Rattle.cv_syntax.specs.PoolTrees.{tree_at}
use Rattle.cv_scene_view.specs.Kept.{scene_of}
use Rattle.cv_query_certificates.specs.Failures as failures
use Rattle.cv_query_certificates.specs.SecretPairs.{secret_pairs_among}
use Rattle.cv_query_offences.specs.Copies.{copy_seen}
use Rattle.cv_query.proofs.pairs.Copying.{all_gone, all_stopped}
use Rattle.cv_query.proofs.pairs.secrets.first_wrong_part.Goals as goal

pub returns-in-Some-clause-first : goal.returns-in-Some-clause-first
returns-in-Some-clause-first c =
    let old = c.args.work.now in
    let s = scene_of old.pool old.decls c.args.game in
    let all = secret_pairs_among s c.args.raise (map (copy_seen old.pool.trees) c.args.copies.now) in
    all_stopped s c.args.raise old.pool.trees c.args.parts c.walk_copies.new.left.parts all c.in_ok-stopped.stopped c.in-Some.place c.in-Some.is c.in_ok-stopped.ensures.goes

pub returns-in-None-clause-first : goal.returns-in-None-clause-first
returns-in-None-clause-first c =
    let old = c.args.work.now in
    let s = scene_of old.pool old.decls c.args.game in
    let all = secret_pairs_among s c.args.raise (map (copy_seen old.pool.trees) c.args.copies.now) in
    let left = c.walk_copies.new.left.parts in
    all_gone s c.args.raise old.pool.trees c.args.parts left all c.in_ok-stopped.stopped c.first_surplus.result c.in-None.is (c.first_surplus.ensures ∙ ap (λ (ts : List KindTree). failures.first_surplus (tree_at ts left)) c.in_ok-stopped.ensures.before.trees) c.in_ok-stopped.ensures.goes
