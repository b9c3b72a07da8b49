use Rattle.std.proofs.Common.{sym, ◌∙◌}
use Rattle.cv_syntax.specs.PoolTrees.{tree_at}
use Rattle.cv_scope_rules.specs.typing.Parts.{nothing_above}
use Rattle.cv_scope_rules.specs.typing.Signature.{sort_of}
use Rattle.cv_scene.specs.Terms.{signature_in}
use Rattle.cv_settling.proofs.Typed.{large_of, none_large}
use Rattle.cv_settling.proofs.types.is_large.Goals as goal

pub returns-in-Some : goal.returns-in-Some
returns-in-Some c =
    let trees = c.args.table.now.pool.now.trees in
    λ s t.
    c.is_large_type.ensures s trees t.declarations
    ∙ large_of s (sort_of (signature_in s) nothing_above (tree_at trees c.args.term)) c.in-Some.t (sym c.in-Some.is ∙ c.type_of.ensures s t)

pub returns-in-None : goal.returns-in-None
returns-in-None c =
    let trees = c.args.table.now.pool.now.trees in
    λ s t. none_large s (sort_of (signature_in s) nothing_above (tree_at trees c.args.term)) (sym c.in-None.is ∙ c.type_of.ensures s t)
