use Rattle.std.proofs.Common.{sym, ◌∙◌}
use Rattle.cv_syntax.specs.PoolTrees.{tree_at}
use Rattle.cv_scope_rules.specs.typing.Parts.{nothing_above}
use Rattle.cv_scope_rules.specs.typing.Signature.{sort_of}
use Rattle.cv_scene.specs.Terms.{signature_in}
use Rattle.cv_settling.proofs.Typed.{no_sort, sort_of_type}
use Rattle.cv_settling.proofs.matching.is_of_type.Goals as goal

pub returns-in-Some : goal.returns-in-Some
returns-in-Some c =
    λ s t. sort_of_type (sort_of (signature_in s) nothing_above (tree_at c.args.table.now.pool.now.trees c.args.term)) c.args.t c.in-Some.u (sym c.in-Some.is ∙ c.type_of.ensures s t)

pub returns-in-None : goal.returns-in-None
returns-in-None c =
    λ s t. no_sort (sort_of (signature_in s) nothing_above (tree_at c.args.table.now.pool.now.trees c.args.term)) c.args.t (sym c.in-None.is ∙ c.type_of.ensures s t)
