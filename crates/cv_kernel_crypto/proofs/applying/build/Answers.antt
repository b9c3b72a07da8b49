use Rattle.std.proofs.Common.{◌≡◌, ◌+◌, ◌≤◌, arith, length, subst, sym, Some, Err, ap, ◌∙◌}
use Rattle.cv_syntax.specs.Declarations.{declarations}
use Rattle.cv_syntax.specs.PoolTrees.{tree_at}
use Rattle.cv_meaning.specs.contexts.Groups.{Right, side_group}
use Rattle.cv_scene_view.specs.Kept.{scene_of}
use Rattle.cv_scene.specs.Reductions.{context_of_game}
use Rattle.cv_context.specs.Roles.{AreSitesOf}
use Rattle.cv_context_laws.proofs.calls.Keys.{listed_keys}
use Rattle.cv_inline_draws.specs.callings.Sites.{HasListedKeys}
use Rattle.cv_inline_walk.specs.Made.{IsMade, IsTreeAt}
use Rattle.cv_inline_walk.specs.Steps.{next_tree}
use Rattle.cv_steps_laws.specs.crypto.Steps.{reduction_of}
use Rattle.cv_syntax.specs.limits.Limits.{nodes_of}
use Rattle.cv_inline.specs.terms.Drawings.{drawn_in}
use Rattle.cv_kernel_crypto.specs.Applied.{IsDrawnWith}
use Rattle.cv_kernel_crypto.proofs.Built.{built, context_stands, drawn_with, next, next_drawn, one_equivalence}
use Rattle.cv_kernel_crypto.proofs.Inlined.{next_made}
use Rattle.cv_kernel_crypto.proofs.Named.{answers_above}
use Rattle.cv_kernel_crypto.proofs.Outcomes.{built_through, no_context, no_room, not_made}
use Rattle.cv_kernel_crypto.proofs.applying.build.Goals as goal

pub returns-in_err-context-clause-built : goal.returns-in_err-context-clause-built
returns-in_err-context-clause-built c = λ e m.
    let w = c.args.work.now in
    let s = scene_of w.pool w.decls c.args.game in
    let t = tree_at w.pool.trees (Some c.args.found.now.tree) in
    let above = answers_above w.names w.decls.own s.game c.args.taken.now c.requires.taken in
    let sites = subst (λ ss. AreSitesOf w.pool.trees s t c.args.key ss (Some c.args.game)) (sym c.as_slice-sites.ensures.value) c.requires.found.sites in
    built_through w.pool.limit (length w.pool.trees) s e c.args.key c.context_for.new.pool.trees _ _ c.from_residual.ensures.1
    (no_context s e c.args.key t m.named m.met w.pool.limit (length w.pool.trees) c.in_err-context.field-0.0 (λ n i. c.in_err-context.ensures.full n (ap Err i) s t sites above))

pub inlining_for-requires-clause-keys : goal.inlining_for-requires-clause-keys
inlining_for-requires-clause-keys c =
    let w = c.args.work.now in
    let s = scene_of w.pool w.decls c.args.game in
    let t = tree_at w.pool.trees (Some c.args.found.now.tree) in
    let above = answers_above w.names w.decls.own s.game c.args.taken.now c.requires.taken in
    let sites = subst (λ ss. AreSitesOf w.pool.trees s t c.args.key ss (Some c.args.game)) (sym c.as_slice-sites.ensures.value) c.requires.found.sites in
    subst HasListedKeys (sym (c.in_ok-context.ensures.tree s t sites above)) (listed_keys (reduction_of s t c.args.key) c.requires.formed.phrase)

pub returns-in_err-root-clause-built : goal.returns-in_err-root-clause-built
returns-in_err-root-clause-built c = λ e m.
    let w = c.args.work.now in
    let mid = c.context_for.new.pool in
    let i = c.args.found.now in
    let s = scene_of w.pool w.decls c.args.game in
    let t = tree_at w.pool.trees (Some i.tree) in
    let above = answers_above w.names w.decls.own s.game c.args.taken.now c.requires.taken in
    let sites = subst (λ ss. AreSitesOf w.pool.trees s t c.args.key ss (Some c.args.game)) (sym c.as_slice-sites.ensures.value) c.requires.found.sites in
    let n = c.in_ok-inlining.inlining in
    let h = context_stands w.pool mid w.decls c.args.game c.in_ok-context.context c.args.key i c.in_ok-context.ensures.grows c.requires.live c.requires.found (c.in_ok-context.ensures.tree s t sites above) in
    let k = c.in_ok-inlining.ensures.inlining (declarations w.pool.trees w.decls.list) w.decls.own s.game t c.args.key h c.requires.taken in
    let x = next w.pool mid w.decls c.args.game c.in_ok-context.context c.args.key i n h k in
    let few : length mid.trees ≤ length w.pool.trees + nodes_of (context_of_game (reduction_of s t c.args.key)).game = omega (arith, c.live-before.ensures, c.in_ok-room.ensures.room, c.in_ok-room.ensures.few, ap nodes_of h.context) in
    let by_sites = subst (λ cs. IsMade mid.limit (length mid.trees) (next_tree mid.trees n.drawing c.args.key cs (side_group Right t) c.in_ok-context.context) c.next_game.new.pool.trees (Err c.in_err-root.field-0.0)) c.as_slice.ensures.value (c.in_err-root.ensures.made (side_group Right t) k.key) in
    let made = subst (λ l. IsMade l (length mid.trees) x c.next_game.new.pool.trees (Err c.in_err-root.field-0.0)) c.in_ok-context.ensures.limit by_sites in
    built_through w.pool.limit (length w.pool.trees) s e c.args.key c.next_game.new.pool.trees _ _ c.from_residual-in_err-root.ensures.1
    (not_made s e c.args.key t m.named m.met x (next_drawn w.pool mid w.decls c.args.game c.in_ok-context.context c.args.key i n h k) w.pool.limit (length w.pool.trees) (length mid.trees) c.next_game.new.pool.trees c.in_err-root.field-0.0 few made)

pub returns-in_err-check_room-clause-built : goal.returns-in_err-check_room-clause-built
returns-in_err-check_room-clause-built c = λ e m.
    let w = c.args.work.now in
    let mid = c.context_for.new.pool in
    let i = c.args.found.now in
    let s = scene_of w.pool w.decls c.args.game in
    let t = tree_at w.pool.trees (Some i.tree) in
    let above = answers_above w.names w.decls.own s.game c.args.taken.now c.requires.taken in
    let sites = subst (λ ss. AreSitesOf w.pool.trees s t c.args.key ss (Some c.args.game)) (sym c.as_slice-sites.ensures.value) c.requires.found.sites in
    let n = c.in_ok-inlining.inlining in
    let h = context_stands w.pool mid w.decls c.args.game c.in_ok-context.context c.args.key i c.in_ok-context.ensures.grows c.requires.live c.requires.found (c.in_ok-context.ensures.tree s t sites above) in
    let k = c.in_ok-inlining.ensures.inlining (declarations w.pool.trees w.decls.list) w.decls.own s.game t c.args.key h c.requires.taken in
    let q = subst (λ cs. IsTreeAt mid.limit (length mid.trees) (next_tree mid.trees n.drawing c.args.key cs (side_group Right t) c.in_ok-context.context) c.next_game.new.pool.trees c.in_ok-root.root) c.as_slice.ensures.value (c.in_ok-root.ensures.made (side_group Right t) k.key) in
    let nodes = nodes_of (context_of_game (reduction_of s t c.args.key)).game in
    let all : length w.pool.trees + nodes + c.in_ok-room.room ≡ 4294967295 = omega (arith, c.live-before.ensures, c.in_ok-room.ensures.room, ap nodes_of h.context) in
    let limit : c.next_game.new.pool.limit ≡ w.pool.limit = c.in_ok-root.ensures.limit ∙ c.in_ok-context.ensures.limit in
    let f = c.in_err-check_room.ensures in
    built_through w.pool.limit (length w.pool.trees) s e c.args.key c.check_room.new.pool.trees _ _ c.from_residual-in_err-check_room.ensures.1
    (no_room s e c.args.key t m.named m.met (next w.pool mid w.decls c.args.game c.in_ok-context.context c.args.key i n h k) (next_drawn w.pool mid w.decls c.args.game c.in_ok-context.context c.args.key i n h k) w.pool.limit (length w.pool.trees) c.in_err-check_room.field-0.0 q.small q.shallow
    (λ l j. (f.asks l (ap Err j) ∙ ap nodes_of q.tree, omega (arith, f.over l (length w.pool.trees + nodes) (ap Err j) all, limit))))

pub returns-clause-built : goal.returns-clause-built
returns-clause-built c = λ e m.
    let w = c.args.work.now in
    let mid = c.context_for.new.pool in
    let i = c.args.found.now in
    let s = scene_of w.pool w.decls c.args.game in
    let t = tree_at w.pool.trees (Some i.tree) in
    let above = answers_above w.names w.decls.own s.game c.args.taken.now c.requires.taken in
    let sites = subst (λ ss. AreSitesOf w.pool.trees s t c.args.key ss (Some c.args.game)) (sym c.as_slice-sites.ensures.value) c.requires.found.sites in
    let n = c.in_ok-inlining.inlining in
    let h = context_stands w.pool mid w.decls c.args.game c.in_ok-context.context c.args.key i c.in_ok-context.ensures.grows c.requires.live c.requires.found (c.in_ok-context.ensures.tree s t sites above) in
    let k = c.in_ok-inlining.ensures.inlining (declarations w.pool.trees w.decls.list) w.decls.own s.game t c.args.key h c.requires.taken in
    let q = subst (λ cs. IsTreeAt mid.limit (length mid.trees) (next_tree mid.trees n.drawing c.args.key cs (side_group Right t) c.in_ok-context.context) c.next_game.new.pool.trees c.in_ok-root.root) c.as_slice.ensures.value (c.in_ok-root.ensures.made (side_group Right t) k.key) in
    let nodes = nodes_of (context_of_game (reduction_of s t c.args.key)).game in
    let all : length w.pool.trees + nodes + c.in_ok-room.room ≡ 4294967295 = omega (arith, c.live-before.ensures, c.in_ok-room.ensures.room, ap nodes_of h.context) in
    let limit : c.next_game.new.pool.limit ≡ w.pool.limit = c.in_ok-root.ensures.limit ∙ c.in_ok-context.ensures.limit in
    let f = c.in_ok-check_room.ensures in
    built w.pool mid w.decls c.args.game c.in_ok-context.context c.args.key i n h k e w.pool.limit mid.limit (length mid.trees) c.next_game.new.pool.trees c.check_room.new.pool.trees c.in_ok-root.root m q f.kept
    (omega (arith, f.room (length w.pool.trees + nodes) all, limit)) (f.few (length w.pool.trees + nodes) all)

pub returns-clause-drawn : goal.returns-clause-drawn
returns-clause-drawn c = λ e m u j.
    let w = c.args.work.now in
    let mid = c.context_for.new.pool in
    let i = c.args.found.now in
    let s = scene_of w.pool w.decls c.args.game in
    let t = tree_at w.pool.trees (Some i.tree) in
    let r = reduction_of s t c.args.key in
    let above = answers_above w.names w.decls.own s.game c.args.taken.now c.requires.taken in
    let sites = subst (λ ss. AreSitesOf w.pool.trees s t c.args.key ss (Some c.args.game)) (sym c.as_slice-sites.ensures.value) c.requires.found.sites in
    let n = c.in_ok-inlining.inlining in
    let h = context_stands w.pool mid w.decls c.args.game c.in_ok-context.context c.args.key i c.in_ok-context.ensures.grows c.requires.live c.requires.found (c.in_ok-context.ensures.tree s t sites above) in
    let k = c.in_ok-inlining.ensures.inlining (declarations w.pool.trees w.decls.list) w.decls.own s.game t c.args.key h c.requires.taken in
    let q = subst (λ cs. IsTreeAt mid.limit (length mid.trees) (next_tree mid.trees n.drawing c.args.key cs (side_group Right t) c.in_ok-context.context) c.next_game.new.pool.trees c.in_ok-root.root) c.as_slice.ensures.value (c.in_ok-root.ensures.made (side_group Right t) k.key) in
    let f = c.in_ok-check_room.ensures in
    subst (λ v. IsDrawnWith w.names c.inlining_for.new.names w.decls.own (reduction_of s v c.args.key) (tree_at c.check_room.new.pool.trees (Some c.in_ok-root.root))) (one_equivalence s e t u m.named j)
    (drawn_with w.names c.inlining_for.new.names w.decls.own r c.args.taken.now (drawn_in n.drawing) c.requires.taken.all (c.in_ok-inlining.ensures.drawn r h) (tree_at c.check_room.new.pool.trees (Some c.in_ok-root.root))
    (ap (λ ts. tree_at ts (Some c.in_ok-root.root)) f.kept ∙ (q.tree ∙ next_made mid.trees r c.args.game c.in_ok-context.context i n h k)))
