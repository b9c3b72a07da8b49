use Rattle.std.proofs.Common.{ap, sym, ◌∙◌}
use Rattle.cv_syntax.specs.PoolTrees.{tree_at}
use Rattle.cv_syntax.specs.Postorder.{postorder}
use Rattle.std.proofs.Common.{◌++◌}
use Rattle.cv_syntax.proofs.Trees.{empty_at}
use Rattle.cv_edit_names.specs.Kept.{naming_in}
use Rattle.cv_edit_names.specs.Splitting.{message_with_name, with_name}
use Rattle.cv_edit_names.proofs.Lists.{node_listed, nothing_behind}
use Rattle.cv_edit_names.proofs.terms.list_message.Goals as goal

pub returns-in_default : goal.returns-in_default
returns-in_default c =
    let trees = c.args.pool.now.trees in
    nothing_behind c.args.makes.now.items c.push.new.self.items (message_with_name (naming_in c.args.naming.now) c.args.place (tree_at trees c.args.message)) (ap (message_with_name (naming_in c.args.naming.now) c.args.place) (empty_at trees c.args.message c.in_default.is)) c.in_ok-push.ensures.items

pub returns : goal.returns
returns c =
    let trees = c.args.pool.now.trees in
    let node = c.read_node-node.result in
    let n = naming_in c.args.naming.now in
    let e = ap (tree_at trees) c.in-Some.is ∙ c.read_node-node.ensures.tree in
    node_listed c.args.makes.now.items c.copy.new.makes.items c.list_binders.new.makes.items c.push-2.new.self.items node.head (tree_at trees node.first) (with_name n c.args.place (tree_at trees node.second)) c.in_ok-copy.ensures c.in_ok-list_binders.ensures c.in_ok-push-2.ensures.items
    ∙ ap (λ t. c.args.makes.now.items ++ postorder (message_with_name n c.args.place t)) (sym e)
