use Rattle.std.proofs.Common.{subst, All, Some, ◌<◌, ◌∙◌}
use Rattle.cv_syntax.specs.PoolTrees.{tree_at}
use Rattle.cv_rule_array_names.proofs.Drawn.{are_drawn}
use Rattle.cv_rule_array_names.proofs.naming.draw_for.Goals as goal

pub draw_names-requires-clause-taken : goal.draw_names-requires-clause-taken
draw_names-requires-clause-taken c = subst (λ n. All (λ x. x < n) c.as_slice-taken.result.now) c.len-count.ensures.len (c.are_below.ensures.0 c.if-not-are_below.false)

pub draw_names-requires-clause-bases : goal.draw_names-requires-clause-bases
draw_names-requires-clause-bases c = subst (λ n. All (λ x. x < n) c.as_slice-bases.result.now) c.len-count.ensures.len (c.are_below-2.ensures.0 c.if-not-are_below-2.false)

pub returns-clause-drawn : goal.returns-clause-drawn
returns-clause-drawn c =
    are_drawn c.args.names.now c.draw_names.new.names c.args.own (tree_at c.args.pool.now.trees (Some c.args.game)) c.args.x c.args.places.now c.as_slice-taken.result.now c.as_slice-bases.result.now c.in_ok-drawn.drawn.items
    (c.as_slice-taken.ensures.value ∙ c.in_ok-known.ensures) (c.as_slice-bases.ensures.value ∙ c.in_ok-numbers.ensures) c.in_ok-drawn.ensures.texts c.in_ok-drawn.ensures.table c.in_ok-drawn.ensures.live
