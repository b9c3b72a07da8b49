use Rattle.std.proofs.Common.{length, map, sym, ◌∙◌, Some}
use Rattle.cv_syntax.specs.Classes.{queries}
use Rattle.cv_syntax.specs.PoolTrees.{tree_at}
use Rattle.cv_script.specs.reader.Scripts.{trees_of}
use Rattle.cv_follow.proofs.Fillings.{block_filled, block_plain}
use Rattle.cv_follow.proofs.filling.follow_block.Goals as goal

pub returns-then-has_word : goal.returns-then-has_word
returns-then-has_word g c =
    let work = c.args.work.now in
    block_filled work c.fill.new.work (tree_at work.pool.trees (Some c.args.game.root)) (trees_of work.pool.trees c.args.script.now) _ c.fill.result (sym c.has_word.ensures ∙ c.if-has_word.true) c.fill.ensures

pub returns-else-has_word : goal.returns-else-has_word
returns-else-has_word g c =
    let work = c.args.work.now in
    let trees = work.pool.trees in
    block_plain (length trees) work c.follow.new.work (tree_at trees (Some c.args.game.root)) (trees_of trees c.args.script.now) (map (λ n. tree_at trees (Some n)) (queries work.decls.list)) _ c.follow.result (sym c.has_word.ensures ∙ c.if-has_word.false) c.follow.ensures
