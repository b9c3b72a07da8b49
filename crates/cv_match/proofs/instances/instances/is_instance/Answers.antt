use Rattle.cv_syntax.specs.PoolTrees.{tree_at}
use Rattle.cv_meaning.specs.contexts.Groups.{function_of}
use Rattle.cv_match.specs.instances.Matchings.{matching_by}
use Rattle.cv_match_terms.proofs.patterns.Parts.{both_last, test_first}
use Rattle.cv_match.proofs.instances.Testing.{instance_parts}
use Rattle.cv_match.proofs.instances.instances.is_instance.Goals as goal

pub returns-then-is_whole : goal.returns-then-is_whole
returns-then-is_whole c =
    let trees = c.args.work.now.pool.trees in
    both_last _ _ _ _ _ c.is_whole.ensures c.if-is_whole.true c.is_typed.ensures (instance_parts (matching_by c.args.work.now.pool c.args.work.now.decls c.args.search.now) (function_of (tree_at trees c.args.f)) (tree_at trees c.args.term))

pub returns-else-is_whole : goal.returns-else-is_whole
returns-else-is_whole c =
    let trees = c.args.work.now.pool.trees in
    test_first _ _ _ _ c.is_whole.ensures c.if-is_whole.false (instance_parts (matching_by c.args.work.now.pool c.args.work.now.decls c.args.search.now) (function_of (tree_at trees c.args.f)) (tree_at trees c.args.term))
