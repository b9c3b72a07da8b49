use Rattle.std.proofs.Common.{Some, ap, sym, ◌∙◌}
use Rattle.cv_syntax.proofs.Trees.{empty_at}
use Rattle.cv_query_certificates.specs.Failures.{secret_failure}
use Rattle.cv_query_parts.specs.Views.{scene_of, trees_of}
use Rattle.cv_query.proofs.secrets.secret_checked.Goals as goal

pub returns-in_default-clause-answer : goal.returns-in_default-clause-answer
returns-in_default-clause-answer c = ap Some c.failed.ensures ∙ sym (ap (secret_failure c.args.once (scene_of c.args.view.now) c.args.x) (empty_at (trees_of c.args.view.now) c.args.certificate c.in_default.is))
