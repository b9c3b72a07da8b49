use Rattle.cv_meaning.specs.contexts.Inlined.{index_terms}
use Rattle.cv_inline_walk.proofs.pieces.ByKind.{term_added}
use Rattle.cv_inline_walk.proofs.pieces.kinds.add_term.Goals as goal

pub returns : goal.returns
returns c = λ trees d callings k live.
    term_added trees d callings k c.args.pieces.now.items c.push.new.self.items c.in_ok-phrase.phrase c.args.scope.now c.args.term c.in_ok-push.ensures.items c.in_ok-phrase.ensures.term (c.in_ok-phrase.ensures.scope (index_terms k.replications.items)) live
