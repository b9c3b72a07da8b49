use Rattle.std.proofs.Common.{Some, ap, ◌∙◌}
use Rattle.std.specs.Prelude.{option_map}
use Rattle.cv_syntax.specs.PoolTrees.{tree_at}
use Rattle.cv_scene.specs.lines.Truths.{no}
use Rattle.cv_derive_lines.specs.Views.{statement_of}
use Rattle.cv_rule.proofs.Endings.{ends_nowhere, ends_so, ends_with_cell}
use Rattle.cv_rule.proofs.targets.ends_with_falsity.Goals as goal

pub returns-in-Some-Holds : goal.returns-in-Some-Holds
returns-in-Some-Holds c =
    let trees = c.args.pool.now.trees in
    ends_so (tree_at trees c.args.by) no (option_map (statement_of trees) c.last_claim.result) c.last_claim.ensures.claim (tree_at trees c.in-Some-Holds.term) c.is_alone.result (ap (option_map (statement_of trees)) c.in-Some-Holds.is ∙ ap (λ q. Some (statement_of trees q)) c.in-Some-Holds.field-0-is) c.is_alone.ensures

pub returns-in-Some-IsDefined : goal.returns-in-Some-IsDefined
returns-in-Some-IsDefined c =
    let trees = c.args.pool.now.trees in
    ends_with_cell (tree_at trees c.args.by) no (option_map (statement_of trees) c.last_claim.result) c.last_claim.ensures.claim _ (ap (option_map (statement_of trees)) c.in-Some-IsDefined.is ∙ ap (λ q. Some (statement_of trees q)) c.in-Some-IsDefined.field-0-is)

pub returns-in-None : goal.returns-in-None
returns-in-None c =
    let trees = c.args.pool.now.trees in
    ends_nowhere (tree_at trees c.args.by) no (option_map (statement_of trees) c.last_claim.result) c.last_claim.ensures.claim (ap (option_map (statement_of trees)) c.in-None.is)
