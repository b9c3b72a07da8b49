use Rattle.std.proofs.Common.{ap, refl}
use Rattle.cv_syntax_trees.specs.Tree.{first, second}
use Rattle.cv_syntax.specs.PoolTrees.{tree_at}
use Rattle.cv_meaning.specs.Correspondences.{typed_names}
use Rattle.cv_meaning.specs.contexts.Groups.{function_of}
use Rattle.cv_match.specs.instances.Matchings.{matching_by}
use Rattle.cv_match_terms.proofs.patterns.Parts.{test_first, test_last, test_second}
use Rattle.cv_match.proofs.instances.Testing.{typed_parts}
use Rattle.cv_match.proofs.instances.instances.is_typed.Goals as goal

pub returns-then-are_coins : goal.returns-then-are_coins
returns-then-are_coins c =
    let trees = c.args.work.now.pool.trees in
    let M = matching_by c.args.work.now.pool c.args.work.now.decls c.args.search.now in
    let f = function_of (tree_at trees c.args.f) in
    let m = tree_at trees c.args.term in
    test_last _ _ _ _ _ _ _ c.is_read.ensures c.if-is_read.true c.are_coins.ensures c.if-are_coins.true c.are_arguments.ensures
    (typed_parts M f m (tree_at trees c.term_of.result) (tree_at trees c.coins_of.result) (tree_at trees c.arguments_of.result) c.key_of-key.result c.key_of-key.ensures c.term_of.ensures.tree (ap typed_names c.coins_of.ensures.tree) (ap typed_names c.arguments_of.ensures.tree))

pub returns-else-are_coins : goal.returns-else-are_coins
returns-else-are_coins c =
    let trees = c.args.work.now.pool.trees in
    let M = matching_by c.args.work.now.pool c.args.work.now.decls c.args.search.now in
    let m = tree_at trees c.args.term in
    test_second _ _ _ _ _ _ c.is_read.ensures c.if-is_read.true c.are_coins.ensures c.if-are_coins.false
    (typed_parts M (function_of (tree_at trees c.args.f)) m (tree_at trees c.term_of.result) (tree_at trees c.coins_of.result) (second (first (tree_at trees c.args.f))) c.key_of-key.result c.key_of-key.ensures c.term_of.ensures.tree (ap typed_names c.coins_of.ensures.tree) refl)

pub returns-else-is_read : goal.returns-else-is_read
returns-else-is_read c =
    let trees = c.args.work.now.pool.trees in
    let M = matching_by c.args.work.now.pool c.args.work.now.decls c.args.search.now in
    let m = tree_at trees c.args.term in
    test_first _ _ _ _ c.is_read.ensures c.if-is_read.false
    (typed_parts M (function_of (tree_at trees c.args.f)) m (tree_at trees c.term_of.result) (first (first (tree_at trees c.args.f))) (second (first (tree_at trees c.args.f))) c.key_of-key.result c.key_of-key.ensures c.term_of.ensures.tree refl refl)
