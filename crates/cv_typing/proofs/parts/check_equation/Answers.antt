use Rattle.std.proofs.Common.{Some, ap, ap₂, sym, ◌∙◌}
use Rattle.cv_syntax.specs.Declarations.{declarations}
use Rattle.cv_syntax_trees.specs.Tree.{Tree, first, second}
use Rattle.cv_syntax.specs.PoolTrees.{tree_at}
use Rattle.cv_scope_rules.specs.typing.Parts.{equation_part, local_names}
use Rattle.cv_scope_rules.specs.typing.Signature.{Above, OfNothing, boolean}
use Rattle.cv_scope_rules.specs.typing.Typing.{first_fault}
use Rattle.cv_scope_rules.specs.typing.Wants.{Of}
use Rattle.cv_typing.proofs.Bodies.{checked_at}
use Rattle.cv_typing.proofs.parts.check_equation.Goals as goal

pub returns : goal.returns
returns c =
    let trees = c.args.pool.now.trees in
    let ds = declarations trees c.args.decls.now.list in
    let node = c.read_node-node.result in
    let names = c.in_ok-above.ensures ∙ ap local_names (sym (ap first c.read_node-node.ensures.tree)) in
    let body = sym (ap second c.read_node-node.ensures.tree) in
    let same = ap₂ (λ (f : Above) (t : Tree). first_fault (record { declarations = ds; arrays = OfNothing }) f (Of boolean) c.args.from t) names body in
    checked_at ds c.args.from (equation_part (tree_at trees (Some c.args.tree))) _ (tree_at trees node.second) c.walk.result same body c.walk.ensures.typed c.walk.ensures.next c.walk.ensures.fault
