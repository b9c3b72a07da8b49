use Rattle.std.proofs.Common.{◌++◌, ◌≤◌, ap, ap₂, arith, sym, ◌∙◌, length, subst}
use Rattle.cv_syntax.specs.Postorder.{postorder}
use Rattle.cv_syntax_trees.specs.Tree.{size}
use Rattle.cv_parse_grammar.specs.Filled.{filled}
use Rattle.cv_parse_grammar.specs.Names.{name_fault}
use Rattle.cv_parse_terms.specs.Gives.{uses_of}
use Rattle.cv_parse.specs.Measures.{IsExtent}
use Rattle.cv_parse.specs.Parsed.{range_of}
use Rattle.cv_parse.specs.Nodes.{file_nodes}
use Rattle.cv_parse.proofs.Plants.{built_nodes}
use Rattle.cv_parse.proofs.Parsings.{builds, few_nodes, names_refuse_at, parses, passed_on, read_refuses, room_refuses, size_refuses}
use Rattle.cv_parse.proofs.files.parse.Goals as goal

pub returns-in_err-reading-clause-parses : goal.returns-in_err-reading-clause-parses
returns-in_err-reading-clause-parses c = passed_on c.args.pool.now.limit c.args.signs.now _ _ _ _ c.from_residual.ensures.1 (read_refuses c.args.pool.now.limit c.args.signs.now _ c.in_err-reading.ensures)

pub returns-in_err-check_names-clause-parses : goal.returns-in_err-check_names-clause-parses
returns-in_err-check_names-clause-parses c =
    let limit = c.args.pool.now.limit in
    let signs = c.args.signs.now in
    let r = c.in_ok-reading.reading in
    let d = c.in_ok-reading.ensures in
    passed_on limit signs _ _ _ _ c.from_residual-in_err-check_names.ensures.1 (names_refuse_at limit signs r d _ c.deref.ensures.value _ c.in_err-check_names.ensures.misnamed)

pub returns-in_err-check_size-clause-parses : goal.returns-in_err-check_size-clause-parses
returns-in_err-check_size-clause-parses c =
    let limit = c.args.pool.now.limit in
    let signs = c.args.signs.now in
    let r = c.in_ok-reading.reading in
    let d = c.in_ok-reading.ensures in
    let n = sym (ap (λ us. name_fault (uses_of us)) c.deref.ensures.value) ∙ c.in_ok-check_names.ensures.named in
    let p = c.deref-2.ensures.value ∙ d.hears.process in
    let x : IsExtent (filled d.value.game) c.in_ok-extent.extent = record { nodes = c.in_ok-extent.ensures.nodes d.value.game p; depth = c.in_ok-extent.ensures.depth d.value.game p } in
    passed_on limit signs _ _ _ _ c.from_residual-in_err-check_size.ensures.1 (size_refuses limit signs r d n _ (c.in_err-check_size.ensures.large (filled d.value.game) x))

pub build-requires-clause-builds : goal.build-requires-clause-builds
build-requires-clause-builds c =
    let limit = c.args.pool.now.limit in
    let signs = c.args.signs.now in
    let r = c.in_ok-reading.reading in
    let d = c.in_ok-reading.ensures in
    let n = sym (ap (λ us. name_fault (uses_of us)) c.deref.ensures.value) ∙ c.in_ok-check_names.ensures.named in
    let p = c.deref-2.ensures.value ∙ d.hears.process in
    let s = c.in_ok-check_size.ensures.small (filled d.value.game) (record { nodes = c.in_ok-extent.ensures.nodes d.value.game p; depth = c.in_ok-extent.ensures.depth d.value.game p }) in
    let m = c.deref-5.ensures.value ∙ (c.in_ok-makes.ensures d.value.game (c.deref-4.ensures.value ∙ d.hears.process) ∙ ap (λ l. l ++ postorder (filled d.value.game)) c.deref-3.ensures.value) in
    builds limit signs r d n _ m

pub returns-in_err-root-clause-parses : goal.returns-in_err-root-clause-parses
returns-in_err-root-clause-parses c =
    let limit = c.args.pool.now.limit in
    let signs = c.args.signs.now in
    let r = c.in_ok-reading.reading in
    let d = c.in_ok-reading.ensures in
    let n = sym (ap (λ us. name_fault (uses_of us)) c.deref.ensures.value) ∙ c.in_ok-check_names.ensures.named in
    let p = c.deref-2.ensures.value ∙ d.hears.process in
    let s = c.in_ok-check_size.ensures.small (filled d.value.game) (record { nodes = c.in_ok-extent.ensures.nodes d.value.game p; depth = c.in_ok-extent.ensures.depth d.value.game p }) in
    let m = c.deref-5.ensures.value ∙ (c.in_ok-makes.ensures d.value.game (c.deref-4.ensures.value ∙ d.hears.process) ∙ ap (λ l. l ++ postorder (filled d.value.game)) c.deref-3.ensures.value) in
    passed_on limit signs _ _ _ _ c.from_residual-in_err-root.ensures.1 (room_refuses limit signs r d n s _ m (length c.args.pool.now.trees) (ap length c.requires.trees) _ c.in_err-root.ensures.crowds)

pub returns-clause-parses : goal.returns-clause-parses
returns-clause-parses c =
    let limit = c.args.pool.now.limit in
    let signs = c.args.signs.now in
    let r = c.in_ok-reading.reading in
    let d = c.in_ok-reading.ensures in
    let n = sym (ap (λ us. name_fault (uses_of us)) c.deref.ensures.value) ∙ c.in_ok-check_names.ensures.named in
    let p = c.deref-2.ensures.value ∙ d.hears.process in
    let s = c.in_ok-check_size.ensures.small (filled d.value.game) (record { nodes = c.in_ok-extent.ensures.nodes d.value.game p; depth = c.in_ok-extent.ensures.depth d.value.game p }) in
    let m = c.deref-5.ensures.value ∙ (c.in_ok-makes.ensures d.value.game (c.deref-4.ensures.value ∙ d.hears.process) ∙ ap (λ l. l ++ postorder (filled d.value.game)) c.deref-3.ensures.value) in
    parses limit signs r d n s _ m (length c.args.pool.now.trees) c.in_ok-root.ensures.room c.build.new.pool.trees c.build.new.decls.list _ (c.in_ok-root.ensures.built (builds limit signs r d n _ m)) (c.range.ensures ∙ ap (range_of (length signs)) d.hears.script)

pub returns-clause-fits : goal.returns-clause-fits
returns-clause-fits c =
    let limit = c.args.pool.now.limit in
    let signs = c.args.signs.now in
    let r = c.in_ok-reading.reading in
    let d = c.in_ok-reading.ensures in
    let n = sym (ap (λ us. name_fault (uses_of us)) c.deref.ensures.value) ∙ c.in_ok-check_names.ensures.named in
    let p = c.deref-2.ensures.value ∙ d.hears.process in
    let s = c.in_ok-check_size.ensures.small (filled d.value.game) (record { nodes = c.in_ok-extent.ensures.nodes d.value.game p; depth = c.in_ok-extent.ensures.depth d.value.game p }) in
    let m = c.deref-5.ensures.value ∙ (c.in_ok-makes.ensures d.value.game (c.deref-4.ensures.value ∙ d.hears.process) ∙ ap (λ l. l ++ postorder (filled d.value.game)) c.deref-3.ensures.value) in
    let b = c.in_ok-root.ensures.built (builds limit signs r d n _ m) in
    subst (λ t. size t ≤ 50000) (sym b.game) (few_nodes (filled d.value.game) s)

pub returns-clause-nodes : goal.returns-clause-nodes
returns-clause-nodes c =
    let limit = c.args.pool.now.limit in
    let signs = c.args.signs.now in
    let r = c.in_ok-reading.reading in
    let d = c.in_ok-reading.ensures in
    let n = sym (ap (λ us. name_fault (uses_of us)) c.deref.ensures.value) ∙ c.in_ok-check_names.ensures.named in
    let m = c.deref-5.ensures.value ∙ (c.in_ok-makes.ensures d.value.game (c.deref-4.ensures.value ∙ d.hears.process) ∙ ap (λ l. l ++ postorder (filled d.value.game)) c.deref-3.ensures.value) in
    let made = builds limit signs r d n _ m in
    let b = c.in_ok-root.ensures.built made in
    let few = built_nodes r _ made ∙ sym (ap₂ file_nodes b.declared b.game) in
    let none = ap length c.requires.trees in
    let made = c.build.ensures.nodes in
    omega arith
