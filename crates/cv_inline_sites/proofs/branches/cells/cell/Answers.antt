use Rattle.std.proofs.Common.{◌∙◌, ap, sym}
use Rattle.cv_syntax.proofs.Trees.{empty_at}
use Rattle.cv_meaning.specs.contexts.Inlined.{Caller, Drawn, Scope, cell_in_game, in_game, index_terms}
use Rattle.cv_inline.specs.terms.Callers.{caller_in}
use Rattle.cv_inline.specs.terms.Drawings.{drawn_in}
use Rattle.cv_inline.specs.terms.Scopes.{scope_in}
use Rattle.cv_inline_sites.proofs.branches.cells.cell.Goals as goal

pub returns-in_default : goal.returns-in_default
returns-in_default c =
    let trees = c.args.pool.now.trees in
    let d : Drawn = drawn_in c.args.drawn.now in
    let k : Caller = caller_in trees c.args.caller.now in
    let Σ : Scope = scope_in (index_terms c.args.caller.now.replications.items) c.args.scope.now in
    let e = empty_at trees c.args.term c.in_default.is in
    rw (ap (cell_in_game d k Σ) e ∙ ap (in_game d k Σ) (sym e)) c.in_game.ensures
