use Rattle.std.proofs.Common.{◌≡◌, ◌++◌, List, ap, ◌∙◌}
use Rattle.cv_syntax.specs.Postorder.{postorder}
use Rattle.cv_step_writer.specs.declared.lines.Line.{Line}
use Rattle.cv_step_writer.specs.Derivations.{derivation}
use Rattle.cv_step_writer.proofs.Making.{over_three}
use Rattle.cv_step_writer.proofs.parts.certificates.push_secret_pair.Goals as goal

pub returns : goal.returns
returns c =
    let same : c.deref.result.now ≡ c.args.pair.now.by.items = cc (c.deref.ensures.value) in
    let lines = c.in_ok-push_lines.ensures ∙ ap (λ (ls : List Line). c.push_number-2.new.makes.items ++ postorder (derivation c.args.pool.now.trees ls)) same in
    over_three _ _ _ _ _ _ _ _ _ _ c.in_ok-push_number.ensures c.in_ok-push_number-2.ensures lines c.in_ok-push.ensures.items c.in_ok-push-2.ensures.items
