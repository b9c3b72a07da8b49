use Rattle.std.proofs.Common.{ap, ◌∙◌}
use Rattle.cv_syntax.specs.PoolTrees.{tree_at}
use Rattle.cv_scope_rules.specs.declared.typing.precedence.Precedence.TheVariants.{Newest}
use Rattle.cv_syntax_trees.specs.declared.sites.sort.Sort.TheVariants.{OfType}
use Rattle.cv_scope_rules.specs.typing.Parts.{with_taken}
use Rattle.cv_scope_rules.specs.typing.Signature.{Above}
use Rattle.cv_scope_rules.specs.typing.Wants.{all_bound}
use Rattle.cv_typing.proofs.Files.{nothing_bound}
use Rattle.cv_typing.proofs.parts.bind_function.Goals as goal

pub returns : goal.returns
returns c =
    let trees = c.args.pool.now.trees in
    let key = ap (λ (f : Above). all_bound Newest f OfType (tree_at trees c.args.key)) (nothing_bound c.new-above.result c.new-above.ensures.empty) in
    c.in_ok-bind_taken.ensures ∙ ap (λ (f : Above). with_taken f (tree_at trees c.args.taken)) (c.in_ok-bind_all.ensures.names ∙ key)
