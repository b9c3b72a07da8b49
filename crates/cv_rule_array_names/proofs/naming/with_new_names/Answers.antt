use Rattle.std.proofs.Common.{Some, subst, ◌∙◌}
use Rattle.std.specs.Prelude.{IfSome}
use Rattle.cv_rule_array_names.specs.Drawings.{AreDrawnFor}
use Rattle.cv_syntax.specs.PoolTrees.{tree_at}
use Rattle.cv_rule_array_names.proofs.Drawn.{ready_names}
use Rattle.cv_rule_array_names.proofs.naming.with_new_names.Goals as goal

pub returns-clause-ready : goal.returns-clause-ready
returns-clause-ready c =
    let drawn = subst (λ o. IfSome o (λ d. AreDrawnFor c.args.names.now c.draw_for.new.names c.args.own (tree_at c.args.pool.now.trees (Some c.args.game)) c.in-ArrayRename.x.0 d.items)) c.in-Some.is c.in_ok-drawn.ensures.drawn in
    ready_names c.args.pool.now.trees c.args.names.now c.draw_for.new.names c.args.own (tree_at c.args.pool.now.trees (Some c.args.game)) _ c.in_ok-named.named.items c.in-Some.drawn.items (c.in_ok-named.ensures ∙ c.as_slice.ensures.value) drawn
