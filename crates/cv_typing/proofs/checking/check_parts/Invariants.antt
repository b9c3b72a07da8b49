use Rattle.std.proofs.Common.{◌≡◌, ◌+◌, Some}
use Rattle.cv_syntax.specs.Declarations.{declarations}
use Rattle.cv_syntax.specs.PoolTrees.{tree_at}
use Rattle.cv_scope_rules.specs.typing.Parts.{file_parts, first_in}
use Rattle.cv_scope_rules.specs.typing.Refusals.{parts_size}
use Rattle.cv_typing.proofs.Sides.{rest_parts}
use Rattle.cv_typing.proofs.checking.check_parts.Given as goal

abbrev pub invariant-decls : goal.invariant-decls
invariant-decls l = record {
  same : first_in (declarations l.pool.trees l.decls.list) l.place (rest_parts l.pool.trees (declarations l.pool.trees l.decls.list) l.decls.list l.k (tree_at l.pool.trees (Some l.root))) ≡ first_in (declarations l.pool.trees l.decls.list) 0 (file_parts (declarations l.pool.trees l.decls.list) (tree_at l.pool.trees (Some l.root)));
  sum : l.place + parts_size (rest_parts l.pool.trees (declarations l.pool.trees l.decls.list) l.decls.list l.k (tree_at l.pool.trees (Some l.root))) ≡ parts_size (file_parts (declarations l.pool.trees l.decls.list) (tree_at l.pool.trees (Some l.root)));
}
