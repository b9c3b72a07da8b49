use Rattle.std.proofs.Common.{◌≡◌, Some, take}
use Rattle.cv_syntax.specs.PoolTrees.{tree_at}
use Rattle.cv_scope_rules.specs.Behind.{sites_of}
use Rattle.cv_edit_names.specs.Naming.{named_places}
use Rattle.cv_edit_names.proofs.naming.name_places.Given as goal

abbrev pub invariant-names : goal.invariant-names
invariant-names l = l.named.items ≡ named_places (sites_of (tree_at l.pool.trees (Some l.fn.game)) l.x) (take l.k l.names)
