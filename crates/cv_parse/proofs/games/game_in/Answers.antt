use Rattle.std.proofs.Common.{◌++◌, ap, length, subst, sym, ◌∙◌}
use Rattle.cv_parse_grammar.specs.Names.{name_fault}
use Rattle.cv_parse_terms.specs.Gives.{uses_of}
use Rattle.cv_parse.specs.Building.{Misnames}
use Rattle.cv_parse.specs.Games.{declared_before}
use Rattle.cv_parse.proofs.Outcomes.{game_reads, names_refuse, only_parts, passed_on, read_refuses, room_refuses, size_refuses}
use Rattle.cv_parse.proofs.games.game_in.Goals as goal

pub returns-in_err-read_game-clause-reads : goal.returns-in_err-read_game-clause-reads
returns-in_err-read_game-clause-reads c =
    passed_on _ _ _ _ c.from_residual-in_err-read_game.ensures.1 (read_refuses c.args.pool.now.limit (length c.args.pool.now.trees) c.args.decls.now.list c.args.signs.now _ c.in_err-read_game.ensures.gives)

pub returns-in_err-check_names-clause-reads : goal.returns-in_err-check_names-clause-reads
returns-in_err-check_names-clause-reads c =
    let noted = c.in_ok-note_declared.ensures ∙ ap (λ us. uses_of us ++ declared_before c.args.decls.now.list) c.new-trail.ensures.uses in
    passed_on _ _ _ _ c.from_residual-in_err-check_names.ensures.1 (names_refuse c.args.pool.now.limit (length c.args.pool.now.trees) c.args.decls.now.list c.args.signs.now _ _ noted c.in_ok-read_game.ensures.gives _ (subst (λ l. Misnames (length c.args.signs.now) (uses_of l) c.in_err-check_names.field-0.0) c.deref.ensures.value c.in_err-check_names.ensures.misnamed))

pub returns-in_err-check_size-clause-reads : goal.returns-in_err-check_size-clause-reads
returns-in_err-check_size-clause-reads c =
    let noted = c.in_ok-note_declared.ensures ∙ ap (λ us. uses_of us ++ declared_before c.args.decls.now.list) c.new-trail.ensures.uses in
    let d = c.in_ok-read_game.ensures.gives in
    let named = ap (λ us. name_fault (uses_of us)) (sym c.deref.ensures.value) ∙ c.in_ok-check_names.ensures.named in
    let parts = only_parts _ _ _ c.new-trail.ensures.makes d.parts in
    passed_on _ _ _ _ c.from_residual-in_err-check_size.ensures.1 (size_refuses c.args.pool.now.limit (length c.args.pool.now.trees) c.args.decls.now.list c.args.signs.now _ _ noted d named _ (c.in_err-check_size.ensures.large d.game (record { nodes = c.in_ok-extent.ensures.nodes d.game (c.deref-2.ensures.value ∙ parts); depth = c.in_ok-extent.ensures.depth d.game (c.deref-2.ensures.value ∙ parts) })))

pub returns-in_err-root-clause-reads : goal.returns-in_err-root-clause-reads
returns-in_err-root-clause-reads c =
    let noted = c.in_ok-note_declared.ensures ∙ ap (λ us. uses_of us ++ declared_before c.args.decls.now.list) c.new-trail.ensures.uses in
    let d = c.in_ok-read_game.ensures.gives in
    let named = ap (λ us. name_fault (uses_of us)) (sym c.deref.ensures.value) ∙ c.in_ok-check_names.ensures.named in
    let parts = only_parts _ _ _ c.new-trail.ensures.makes d.parts in
    let small = c.in_ok-check_size.ensures.small d.game (record { nodes = c.in_ok-extent.ensures.nodes d.game (c.deref-2.ensures.value ∙ parts); depth = c.in_ok-extent.ensures.depth d.game (c.deref-2.ensures.value ∙ parts) }) in
    passed_on _ _ _ _ c.from_residual-in_err-root.ensures.1 (room_refuses c.args.pool.now.limit (length c.args.pool.now.trees) c.args.decls.now.list c.args.signs.now _ _ noted d named small _ (c.in_err-root.ensures.crowds d.game (c.deref-3.ensures.value ∙ parts)))

pub returns-clause-reads : goal.returns-clause-reads
returns-clause-reads c =
    let noted = c.in_ok-note_declared.ensures ∙ ap (λ us. uses_of us ++ declared_before c.args.decls.now.list) c.new-trail.ensures.uses in
    let d = c.in_ok-read_game.ensures.gives in
    let named = ap (λ us. name_fault (uses_of us)) (sym c.deref.ensures.value) ∙ c.in_ok-check_names.ensures.named in
    let parts = only_parts _ _ _ c.new-trail.ensures.makes d.parts in
    let small = c.in_ok-check_size.ensures.small d.game (record { nodes = c.in_ok-extent.ensures.nodes d.game (c.deref-2.ensures.value ∙ parts); depth = c.in_ok-extent.ensures.depth d.game (c.deref-2.ensures.value ∙ parts) }) in
    game_reads c.args.pool.now.limit (length c.args.pool.now.trees) c.args.decls.now.list c.args.signs.now _ _ noted d named small _ (c.in_ok-root.ensures.room d.game (c.deref-3.ensures.value ∙ parts)) (c.in_ok-root.ensures.tree d.game (c.deref-3.ensures.value ∙ parts))
