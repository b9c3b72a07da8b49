use Rattle.std.proofs.Common.{sym, ◌∙◌}
use Rattle.cv_derive_lines.specs.Views.{statement_of}
use Rattle.cv_rule_pick.specs.Wanted.{wanted_of}
use Rattle.cv_rule_pick.proofs.Ends.{is_end_of}
use Rattle.cv_rule_pick.proofs.targets.end_with.Goals as goal

pub returns : goal.returns
returns c =
    let trees = c.args.pool.now.trees in
    c.say_all.ensures ∙ sym (is_end_of (statement_of trees) (wanted_of trees c.args.given) c.args.claims.now c.args.wanted.now c.if-claims-wanted.false)
