use Rattle.std.proofs.Common.{ap, Some, nat_eq, is_some}
use Rattle.cv_syntax.specs.PoolTrees.{tree_at}
use Rattle.cv_scope.proofs.Constants.{names_are}
use Rattle.cv_scope.proofs.names.NameKinds.of.Goals as goal

pub returns-clause-names : goal.returns-clause-names
returns-clause-names c =
    let trees = c.args.pool.now.trees in
    let game = tree_at trees (Some c.args.root) in
    names_are trees c.args.decls.now.list game (record { constants = c.new.result; sites = c.args.sites }) c.note_constants.new.self
    c.in_ok-note_constants.ensures.constants
    (λ x. ap (λ es. is_some (Rattle.std.specs.Map.lookup (nat_eq x) es)) c.new.ensures.empty)
    c.in_ok-note_constants.ensures.sites
    c.requires.sites
