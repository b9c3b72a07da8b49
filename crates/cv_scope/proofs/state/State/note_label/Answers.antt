use Rattle.cv_scope.specs.Held.{last_held}
use Rattle.cv_scope_rules.specs.Sites.{Label}
use Rattle.cv_scope.proofs.Noting.{one_may, one_noted, plain_site}
use Rattle.cv_scope.proofs.state.State.note_label.Goals as goal

pub returns-clause-may : goal.returns-clause-may
returns-clause-may c =
    let trees = c.args.pool.now.trees in
    let s = plain_site trees c.args.self.now.replications.items c.args.place (Label c.args.l) c.in_ok-site.site c.in_ok-site.ensures in
    one_may c.args.self.now.passed (last_held trees c.args.self.now.last (Label c.args.l)) _ _ c.note_label.result s c.note_label.ensures.may

pub returns-clause-noted : goal.returns-clause-noted
returns-clause-noted c =
    let trees = c.args.pool.now.trees in
    let s = plain_site trees c.args.self.now.replications.items c.args.place (Label c.args.l) c.in_ok-site.site c.in_ok-site.ensures in
    one_noted trees c.args.self.now c.note_label.new.self _ _ c.note_label.result s c.note_label.ensures.noted c.note_label.ensures.live
