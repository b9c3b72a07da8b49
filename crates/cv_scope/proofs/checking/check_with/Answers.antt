use Rattle.std.proofs.Common.{ap, sym, subst, length, Some}
use Rattle.std.proofs.lemmas.Result.{err_from_is_err_and}
use Rattle.cv_syntax.specs.Declarations.{declarations}
use Rattle.cv_syntax.specs.PoolTrees.{tree_at}
use Rattle.cv_scope.specs.Held.{names_held, state_held}
use Rattle.cv_scope_rules.specs.Ranges.{EndBy}
use Rattle.cv_scope.proofs.Agreeing.{game_refusal, no_game_fault, refused_game, scoped_game}
use Rattle.cv_scope.proofs.checking.check_with.Goals as goal

pub walk-requires-clause-binders : goal.walk-requires-clause-binders
walk-requires-clause-binders c = c.new-state.ensures.live (length c.args.work.now.pool.trees)

pub walk-requires-clause-passed : goal.walk-requires-clause-passed
walk-requires-clause-passed c = subst (EndBy 0) (sym (ap (λ S. S.passed) (c.new-state.ensures.held c.args.work.now.pool.trees))) tt

pub returns-in_err-walk-clause-fault : goal.returns-in_err-walk-clause-fault
returns-in_err-walk-clause-fault c =
    let trees = c.args.work.now.pool.trees in
    let p = err_from_is_err_and c.from_residual-in_err-walk.result c.from_residual-in_err-walk.ensures.1 in
    rw (p.1, p.2) (refused_game (declarations trees c.args.work.now.decls.list) (tree_at trees (Some c.args.game.root)) (names_held c.in_ok-names.names) (state_held trees c.new-state.result) c.in_err-walk.field-0.0 c.in_ok-names.ensures.names (c.new-state.ensures.held trees) c.in_err-walk.ensures.fault)

pub returns-clause-scoped : goal.returns-clause-scoped
returns-clause-scoped c =
    let trees = c.args.work.now.pool.trees in
    scoped_game (declarations trees c.args.work.now.decls.list) (tree_at trees (Some c.args.game.root)) (names_held c.in_ok-names.names) (state_held trees c.new-state.result) c.in_ok-names.ensures.names (c.new-state.ensures.held trees) c.in_ok-walk.ensures.scoped

pub returns-in_err-walk-clause-found : goal.returns-in_err-walk-clause-found
returns-in_err-walk-clause-found c =
    let trees = c.args.work.now.pool.trees in
    let p = err_from_is_err_and c.from_residual-in_err-walk.result c.from_residual-in_err-walk.ensures.1 in
    rw (p.1, p.2) (game_refusal (declarations trees c.args.work.now.decls.list) (tree_at trees (Some c.args.game.root)) (names_held c.in_ok-names.names) (state_held trees c.new-state.result) c.in_err-walk.field-0.0 c.in_ok-names.ensures.names (c.new-state.ensures.held trees) c.in_err-walk.ensures.fault)

pub returns-clause-none : goal.returns-clause-none
returns-clause-none c =
    let trees = c.args.work.now.pool.trees in
    no_game_fault (declarations trees c.args.work.now.decls.list) (tree_at trees (Some c.args.game.root)) (names_held c.in_ok-names.names) (state_held trees c.new-state.result) c.in_ok-names.ensures.names (c.new-state.ensures.held trees) c.in_ok-walk.ensures.scoped
