use Rattle.std.proofs.Common.{◌∷◌, ap, ◌∙◌}
use Rattle.cv_syntax.specs.Postorder.{made}
use Rattle.cv_inline.specs.terms.Stacks.{stack}
use Rattle.cv_inline_walk.specs.Steps.{next_tree}
use Rattle.cv_inline_walk.proofs.parts.parts.Goals as goal

pub returns : goal.returns
unfolding made
returns c = λ g k.
    let t = next_tree c.args.pool.now.trees c.args.drawn.now c.args.key c.args.callings.now g c.args.context in
    c.in_ok-game.ensures g k ∙ ap (λ ms. t ∷ stack ms) c.new-parts.ensures.items
