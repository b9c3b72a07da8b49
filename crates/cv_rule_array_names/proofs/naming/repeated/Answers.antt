use Rattle.cv_rule_array_names.proofs.Drawn.{repeated_put}
use Rattle.cv_rule_array_names.proofs.naming.repeated.Goals as goal

pub places-preserved : goal.places-preserved
places-preserved c = repeated_put c.args.x c.args.places.now c.places.index (record { 0 = c.args.x }) c.places.numbers.items c.push.new.self.items c.places-test.true c.in_ok-push.ensures.items c.places.invariant
