use Rattle.std.proofs.Common.{Some, refl, ap, sym, ◌∙◌}
use Rattle.cv_syntax.specs.Declarations.{declarations}
use Rattle.cv_syntax_trees.specs.Tree.{first}
use Rattle.cv_syntax.specs.PoolTrees.{tree_at}
use Rattle.cv_scope_rules.specs.typing.Parts.{local_names, query_part}
use Rattle.cv_scope_rules.specs.typing.Signature.{Above, OfNothing}
use Rattle.cv_scope_rules.specs.typing.Typing.{first_fault}
use Rattle.cv_scope_rules.specs.typing.Wants.{Correspondence}
use Rattle.cv_typing.proofs.Bodies.{checked_at}
use Rattle.cv_typing.proofs.parts.check_query.Goals as goal

pub returns : goal.returns
returns c =
    let trees = c.args.pool.now.trees in
    let ds = declarations trees c.args.decls.now.list in
    let t = tree_at trees (Some c.args.tree) in
    let names = c.in_ok-above.ensures ∙ ap local_names (sym (ap first c.read_node-node.ensures.tree)) in
    let same = ap (λ (f : Above). first_fault (record { declarations = ds; arrays = OfNothing }) f Correspondence c.args.from t) names in
    checked_at ds c.args.from (query_part t) _ t c.walk.result same refl c.walk.ensures.typed c.walk.ensures.next c.walk.ensures.fault
