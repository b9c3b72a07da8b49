use Rattle.std.proofs.Common.{Some, ap, ◌∙◌}
use Rattle.cv_meaning.specs.Interpretation.{is_constant_of}
use Rattle.cv_syntax.specs.Declarations.{declarations}
use Rattle.cv_syntax.specs.PoolTrees.{tree_at}
use Rattle.cv_directory.specs.declared.directory.Directory.{Directory}
use Rattle.cv_directory.specs.Tables.{seen}
use Rattle.cv_typing.specs.declared.arrays.Arrays.TheVariants as held
use Rattle.cv_scope_rules.specs.typing.Signature.{OfGame}
use Rattle.cv_typing.proofs.Files.{nothing_bound}
use Rattle.cv_scope_rules.specs.Rules.{Names}
use Rattle.cv_scope_rules.specs.Phrases.{Inputs, binds_none}
use Rattle.cv_scene.specs.Terms as terms
use Rattle.cv_scene.specs.Terms.{is_there, names_anywhere}
use Rattle.cv_scene_view.proofs.Tests.{both_hold, not_first, not_last, there_in}
use Rattle.cv_scene_view.proofs.games.is_closed.Goals as goal

pub returns-then-not-binds_none-clause-closed : goal.returns-then-not-binds_none-clause-closed
returns-then-not-binds_none-clause-closed c =
    let trees = c.args.work.now.pool.trees in
    let ds = declarations trees c.args.work.now.decls.list in
    let game = tree_at trees (Some c.args.game.root) in
    let binds = c.binds_none.ensures ∙ ap (λ (n : Names). binds_none n.constant game) c.in_ok-names.ensures.names in
    not_first (binds_none (is_constant_of ds) game) (is_there (names_anywhere ds game) Inputs game) c.binds_none.result binds c.if-not-binds_none.true

pub returns-then-not-is_there-clause-closed : goal.returns-then-not-is_there-clause-closed
returns-then-not-is_there-clause-closed c =
    let trees = c.args.work.now.pool.trees in
    let ds = declarations trees c.args.work.now.decls.list in
    let game = tree_at trees (Some c.args.game.root) in
    let binds = c.binds_none.ensures ∙ ap (λ (n : Names). binds_none n.constant game) c.in_ok-names.ensures.names in
    let sites = ap (λ (d : Directory). OfGame (seen d)) (c.into_directory.ensures ∙ c.in_ok-names.ensures.sites) ∙ ap OfGame c.requires.sites in
    let known = there_in ds (held.OfGame c.into_directory.result) c.new-above.result game sites (nothing_bound c.new-above.result c.new-above.ensures.empty) in
    let there = c.is_there.ensures ∙ ap (λ (n : terms.Names). is_there n Inputs game) known in
    not_last (binds_none (is_constant_of ds) game) (is_there (names_anywhere ds game) Inputs game) c.binds_none.result c.is_there.result binds c.if-not-binds_none.false there c.if-not-is_there.true

pub returns-clause-closed : goal.returns-clause-closed
returns-clause-closed c =
    let trees = c.args.work.now.pool.trees in
    let ds = declarations trees c.args.work.now.decls.list in
    let game = tree_at trees (Some c.args.game.root) in
    let binds = c.binds_none.ensures ∙ ap (λ (n : Names). binds_none n.constant game) c.in_ok-names.ensures.names in
    let sites = ap (λ (d : Directory). OfGame (seen d)) (c.into_directory.ensures ∙ c.in_ok-names.ensures.sites) ∙ ap OfGame c.requires.sites in
    let known = there_in ds (held.OfGame c.into_directory.result) c.new-above.result game sites (nothing_bound c.new-above.result c.new-above.ensures.empty) in
    let there = c.is_there.ensures ∙ ap (λ (n : terms.Names). is_there n Inputs game) known in
    both_hold (binds_none (is_constant_of ds) game) (is_there (names_anywhere ds game) Inputs game) c.binds_none.result c.is_there.result binds c.if-not-binds_none.false there c.if-not-is_there.false
