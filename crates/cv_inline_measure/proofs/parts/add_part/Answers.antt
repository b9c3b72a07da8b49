use Rattle.cv_inline_measure.proofs.Stacking.{push_nothing, push_over}
use Rattle.cv_inline_measure.proofs.parts.add_part.Goals as goal

pub returns-in_ok-push-in-Nothing : goal.returns-in_ok-push-in-Nothing
returns-in_ok-push-in-Nothing c ts h = push_nothing c.args.measure c.args.counts.now.items c.push.new.self.items c.args.part ts c.in-Nothing.is c.in_ok-push-in-Nothing.ensures.items h

pub returns-in_ok-push-in-Over : goal.returns-in_ok-push-in-Over
returns-in_ok-push-in-Over c ts h =
    push_over c.args.measure c.in-Over.head c.take_newest-first.result c.take_newest-second.result c.over_node-node.result c.one_copy.result c.weight.result c.args.counts.now.items c.take_newest-second.new.counts.items c.take_newest-first.new.counts.items c.push-in-Over.new.self.items c.args.part ts
    c.in-Over.is c.take_newest-second.ensures.count c.take_newest-second.ensures.rest c.take_newest-first.ensures.count c.take_newest-first.ensures.rest c.one_copy.ensures c.weight.ensures.weight c.over_node-node.ensures c.in_ok-push-in-Over.ensures.items h
