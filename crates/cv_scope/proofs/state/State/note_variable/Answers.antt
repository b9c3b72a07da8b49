use Rattle.cv_scope.specs.Held.{last_held}
use Rattle.cv_scope_rules.specs.Sites.{Variable}
use Rattle.cv_scope.proofs.Noting.{one_may, one_noted, plain_site}
use Rattle.cv_scope.proofs.state.State.note_variable.Goals as goal

pub returns-clause-may : goal.returns-clause-may
returns-clause-may c =
    let trees = c.args.pool.now.trees in
    let s = plain_site trees c.args.self.now.replications.items c.args.place (Variable c.args.x) c.in_ok-site.site c.in_ok-site.ensures in
    one_may c.args.self.now.passed (last_held trees c.args.self.now.last (Variable c.args.x)) _ _ c.note_variable.result s c.note_variable.ensures.may

pub returns-clause-noted : goal.returns-clause-noted
returns-clause-noted c =
    let trees = c.args.pool.now.trees in
    let s = plain_site trees c.args.self.now.replications.items c.args.place (Variable c.args.x) c.in_ok-site.site c.in_ok-site.ensures in
    one_noted trees c.args.self.now c.note_variable.new.self _ _ c.note_variable.result s c.note_variable.ensures.noted c.note_variable.ensures.live
