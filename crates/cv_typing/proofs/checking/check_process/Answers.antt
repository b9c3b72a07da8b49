use Rattle.std.proofs.Common.{◌+◌, [], Some, ap₂, sym, ◌∙◌}
use Rattle.std.proofs.lemmas.Result.{err_from_is_err_and}
use Rattle.cv_syntax.specs.Declarations.{declarations}
use Rattle.cv_syntax_trees.specs.Tree.{size}
use Rattle.cv_syntax.specs.PoolTrees.{tree_at}
use Rattle.cv_scope_rules.specs.declared.typing.form.Form.TheVariants.{InProcess}
use Rattle.cv_scope_rules.specs.typing.Parts.{game_part}
use Rattle.cv_scope_rules.specs.typing.Signature.{Above, OfGame}
use Rattle.cv_syntax_trees.specs.sites.Sites.{SitesView}
use Rattle.cv_scope_rules.specs.typing.Typing.{first_fault}
use Rattle.cv_scope_rules.specs.typing.Wants.{Run}
use Rattle.cv_typing.proofs.Files.{nothing_bound, part_refused, part_step, parts_end}
use Rattle.cv_typing.proofs.checking.check_process.Goals as goal

pub returns-in_err-walk-clause-fault : goal.returns-in_err-walk-clause-fault
returns-in_err-walk-clause-fault c =
    let t = tree_at c.args.pool.now.trees (Some c.args.root) in
    let ds = declarations c.args.pool.now.trees c.args.decls.now.list in
    let same = ap₂ (λ (s : SitesView) (f : Above). first_fault (record { declarations = ds; arrays = OfGame s }) f (Run InProcess) c.args.from t) c.requires.sites (nothing_bound c.new-above.result c.new-above.ensures.empty) in
    let p = err_from_is_err_and c.from_residual.result c.from_residual.ensures.1 in
    rw (p.1, p.2) (part_refused ds c.args.from (game_part t) [] _ c.in_err-walk.field-0.0 same c.in_err-walk.ensures.fault)

pub returns-clause-typed : goal.returns-clause-typed
returns-clause-typed c =
    let t = tree_at c.args.pool.now.trees (Some c.args.root) in
    let ds = declarations c.args.pool.now.trees c.args.decls.now.list in
    let same = ap₂ (λ (s : SitesView) (f : Above). first_fault (record { declarations = ds; arrays = OfGame s }) f (Run InProcess) c.args.from t) c.requires.sites (nothing_bound c.new-above.result c.new-above.ensures.empty) in
    part_step ds c.args.from (game_part t) [] (sym same ∙ c.in_ok-walk.ensures.typed) ∙ parts_end ds (c.args.from + size t)
