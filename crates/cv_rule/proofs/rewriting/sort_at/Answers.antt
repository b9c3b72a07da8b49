use Rattle.std.proofs.Common.{ap₂, ◌∙◌}
use Rattle.cv_syntax.specs.Declarations.{declarations}
use Rattle.cv_syntax.specs.PoolTrees.{tree_at}
use Rattle.cv_scope_rules.specs.typing.Signature.{Above, sort_of}
use Rattle.cv_scope_rules.specs.typing.Signature as signature
use Rattle.cv_rule.proofs.rewriting.sort_at.Goals as goal

pub returns : goal.returns
returns c =
    let trees = c.args.work.now.pool.trees in
    let ds = declarations trees c.args.work.now.decls.list in
    c.sort_of_term.ensures ∙ ap₂ (λ (A : signature.Arrays) (f : Above). sort_of (record { declarations = ds; arrays = A }) f (tree_at trees c.args.term)) c.requires.arrays c.in_ok-above.ensures
