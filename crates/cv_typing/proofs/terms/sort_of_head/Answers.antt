use Rattle.std.proofs.Common.{ap, sym, ◌∙◌}
use Rattle.cv_syntax.specs.PoolTrees.{tree_at}
use Rattle.cv_typing.specs.Lookups.{signature_in}
use Rattle.cv_scope_rules.specs.typing.Signature as signature
use Rattle.cv_typing.specs.Tables.{above_of}
use Rattle.cv_typing.proofs.terms.sort_of_head.Goals as goal

pub returns-in-Leaf : goal.returns-in-Leaf
returns-in-Leaf c = c.leaf_sort.ensures c.args.pool.now.trees ∙ sym (ap (λ h. signature.sort_by (signature_in c.args.pool.now.trees c.args.decls.now.list c.args.arrays.now) (above_of c.args.above.now) h (tree_at c.args.pool.now.trees c.args.child)) c.in-Leaf.is)

pub returns-in-Apply : goal.returns-in-Apply
returns-in-Apply c = c.function_sort.ensures c.args.pool.now.trees ∙ sym (ap (λ h. signature.sort_by (signature_in c.args.pool.now.trees c.args.decls.now.list c.args.arrays.now) (above_of c.args.above.now) h (tree_at c.args.pool.now.trees c.args.child)) c.in-Apply.is)
