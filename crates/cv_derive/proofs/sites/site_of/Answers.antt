use Rattle.std.proofs.Common.{◌≡◌, ◌+◌, ◌∙◌, arith, sym, ap, Some, None}
use Rattle.std.specs.Prelude.{option_map}
use Rattle.cv_syntax.specs.Declarations.{declarations}
use Rattle.cv_syntax.specs.PoolTrees.{tree_at}
use Rattle.cv_directory.specs.Definitions.{large_in}
use Rattle.cv_directory.specs.Tables.{entries_in}
use Rattle.cv_scene.specs.Sights.{only_site}
use Rattle.cv_scope_rules.specs.Behind.{sites_of}
use Rattle.cv_derive_reasons.specs.cells.Only.{only_place}
use Rattle.cv_derive.proofs.Defining.{live_root, no_process, within_same}
use Rattle.cv_derive.proofs.Only.{behind_root, is_site, no_site, placed, root_there, rooted, site_there, unplaced}
use Rattle.cv_derive.proofs.sites.site_of.Goals as goal

pub returns-in_default : goal.returns-in_default
returns-in_default c =
    let trees = c.args.work.now.pool.trees in
    let game = tree_at trees (Some c.args.game.root) in
    let entries = entries_in trees c.args.directory.now in
    let answer = c.only_definition.ensures trees in
    let is = c.in_default.is in
    let none : None ≡ only_place entries c.in_ok-x.x = cc in
    no_site game (tree_at trees c.args.cell) c.in_ok-x.x c.in_ok-x.ensures (unplaced (declarations trees c.args.work.now.decls.list) (large_in c.args.work.now.decls.list) game c.in_ok-x.x entries c.requires.formed c.requires.entries none)

pub returns-in_err-root : goal.returns-in_err-root
returns-in_err-root c =
    let trees = c.args.work.now.pool.trees in
    let game = tree_at trees (Some c.args.game.root) in
    let entries = entries_in trees c.args.directory.now in
    let only = placed (declarations trees c.args.work.now.decls.list) (large_in c.args.work.now.decls.list) game c.in_ok-x.x entries c.requires.formed c.requires.entries c.in-Some.definition (c.in-Some.ensures trees) in
    absurd (root_there game (only_site (sites_of game c.in_ok-x.x)) (entries.first c.in_ok-x.x) only.0 (ap (option_map (λ k. tree_at trees (Some k))) (sym c.in_err-root.was) ∙ c.node.ensures trees))

pub behind-requires : goal.behind-requires
behind-requires c =
    let trees = c.args.work.now.pool.trees in
    let game = tree_at trees (Some c.args.game.root) in
    let ds = declarations trees c.args.work.now.decls.list in
    let large = large_in c.args.work.now.decls.list in
    let entries = entries_in trees c.args.directory.now in
    let only = placed ds large game c.in_ok-x.x entries c.requires.formed c.requires.entries c.in-Some.definition (c.in-Some.ensures trees) in
    let b = behind_root game (only_site (sites_of game c.in_ok-x.x)) (entries.first c.in_ok-x.x) only.0 c.in-Some.definition only.1 (rooted ds large game c.in_ok-x.x entries c.requires.formed c.requires.entries) (tree_at trees (Some c.in_ok-root.root)) (c.in_ok-root.ensures trees) in
    record { live = live_root trees c.in_ok-root.root b.within b.there; fits = omega (arith, b.small, c.requires.fits) }

pub returns-in_err-within : goal.returns-in_err-within
returns-in_err-within c =
    let trees = c.args.work.now.pool.trees in
    let game = tree_at trees (Some c.args.game.root) in
    let ds = declarations trees c.args.work.now.decls.list in
    let large = large_in c.args.work.now.decls.list in
    let entries = entries_in trees c.args.directory.now in
    let only = placed ds large game c.in_ok-x.x entries c.requires.formed c.requires.entries c.in-Some.definition (c.in-Some.ensures trees) in
    let b = behind_root game (only_site (sites_of game c.in_ok-x.x)) (entries.first c.in_ok-x.x) only.0 c.in-Some.definition only.1 (rooted ds large game c.in_ok-x.x entries c.requires.formed c.requires.entries) (tree_at trees (Some c.in_ok-root.root)) (c.in_ok-root.ensures trees) in
    absurd (no_process (tree_at trees (Some c.in_ok-root.root)) b.within c.behind.result c.behind.ensures c.in_err-within.was b.there)

pub overflow_add-result : goal.overflow_add-result
overflow_add-result c =
    let trees = c.args.work.now.pool.trees in
    let game = tree_at trees (Some c.args.game.root) in
    let ds = declarations trees c.args.work.now.decls.list in
    let large = large_in c.args.work.now.decls.list in
    let entries = entries_in trees c.args.directory.now in
    let only = placed ds large game c.in_ok-x.x entries c.requires.formed c.requires.entries c.in-Some.definition (c.in-Some.ensures trees) in
    let b = behind_root game (only_site (sites_of game c.in_ok-x.x)) (entries.first c.in_ok-x.x) only.0 c.in-Some.definition only.1 (rooted ds large game c.in_ok-x.x entries c.requires.formed c.requires.entries) (tree_at trees (Some c.in_ok-root.root)) (c.in_ok-root.ensures trees) in
    let same = within_same (tree_at trees (Some c.in_ok-root.root)) c.in_ok-within.within b.within c.in_ok-within.ensures b.there in
    omega (arith, b.fits, same, c.requires.fits)

pub returns : goal.returns
returns c =
    let trees = c.args.work.now.pool.trees in
    let game = tree_at trees (Some c.args.game.root) in
    let ds = declarations trees c.args.work.now.decls.list in
    let large = large_in c.args.work.now.decls.list in
    let entries = entries_in trees c.args.directory.now in
    let only = placed ds large game c.in_ok-x.x entries c.requires.formed c.requires.entries c.in-Some.definition (c.in-Some.ensures trees) in
    let b = behind_root game (only_site (sites_of game c.in_ok-x.x)) (entries.first c.in_ok-x.x) only.0 c.in-Some.definition only.1 (rooted ds large game c.in_ok-x.x entries c.requires.formed c.requires.entries) (tree_at trees (Some c.in_ok-root.root)) (c.in_ok-root.ensures trees) in
    let same = within_same (tree_at trees (Some c.in_ok-root.root)) c.in_ok-within.within b.within c.in_ok-within.ensures b.there in
    site_there game (tree_at trees c.args.cell) c.in_ok-x.x c.in_ok-x.ensures _
    (is_site game (only_site (sites_of game c.in_ok-x.x)) (entries.first c.in_ok-x.x) only.0 c.in-Some.definition only.1 (c.in-Some.definition + b.within) (sym b.place) ds _ c.requires.formed (ap (λ w. c.in-Some.definition + w) same) (c.replications_of.ensures trees))
