use Rattle.cv_meaning.specs.contexts.Inlined.{index_terms}
use Rattle.cv_inline_walk.proofs.pieces.ByKind.{front_added}
use Rattle.cv_inline_walk.proofs.pieces.kinds.add_front.Goals as goal

pub returns : goal.returns
returns c = λ trees d callings k s there is cells condition.
    front_added trees d callings k c.args.pieces.now.items c.push.new.self.items (record { scope = c.in_ok-copy.copy; other = c.args.choice.other; place = c.args.place; branch = c.args.choice.pair.number; cells = c.args.choice.pair.cells; condition = c.args.choice.pair.condition }) c.args.scope.now s c.in_ok-push.ensures.items (c.in_ok-copy.ensures (index_terms k.replications.items)) there is cells condition
