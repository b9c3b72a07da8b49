use Rattle.std.proofs.Common.{ℕ, ◌<◌, ◌≤◌, [], ◌∷◌, ◌∙◌, All, Some, None, ap, arith, length, option_map, refl, rules, subst, sym}
use Rattle.std.specs.Prelude.{slice_get}
use Rattle.std.proofs.lemmas.Option.{slice_get_past, slice_get_read}
use Rattle.std.proofs.lemmas.Result.{IfOk-equal}
use Rattle.cv_syntax.specs.Postorder.{joined}
use Rattle.cv_syntax_trees.specs.Tree.{second}
use Rattle.cv_syntax.specs.PoolTrees.{tree_at}
use Rattle.cv_syntax.proofs.Trees.{empty_at, node_at}
use Rattle.cv_inline.specs.NextGame.{call_in_game, next_in, numbered}
use Rattle.cv_inline.specs.terms.Drawings.{drawn_in}
use Rattle.cv_inline.specs.terms.Stacks.{stack}
use Rattle.cv_inline_sites.specs.listing.Callings.{calling_in, callings_in}
use Rattle.cv_inline_walk.specs.pieces.Pieces.{IsLivePiece, piece_over, pieced}
use Rattle.cv_inline_sites.specs.results.Outcomes.{IsLiveOutcome, term_of}
use Rattle.cv_inline_walk.specs.declared.forms.Form.TheVariants as form
use Rattle.cv_inline_walk.specs.declared.step.Call.{Call}
use Rattle.cv_inline_walk.specs.Forms.{first_in}
use Rattle.cv_inline_walk.specs.Steps.{calls_of, goes_on, live_in, results_of}
use Rattle.cv_inline_walk.proofs.Nodes.{next_Empty, next_by, over_node}
use Rattle.cv_inline_walk.proofs.PieceParts.{at_result, call_made, no_site, of_each, pieced_all, pieced_more, pieced_none}
use Rattle.cv_inline_walk.proofs.game.+game.Goals as goal

pub game-returns-in_default : goal.game-returns-in_default
game-returns-in_default t c = λ g k.
    let s = c.args.step.now in
    let trees = s.pool.now.trees in
    rw (next_Empty (calls_of s g) (results_of s c.args.results.now) (tree_at trees c.args.part) (empty_at trees c.args.part c.in_default.is)) c.nothing.ensures

pub game-returns-in-Call : goal.game-returns-in-Call
game-returns-in-Call t c = λ g k.
    let s = c.args.step.now in
    let trees = s.pool.now.trees in
    let node = c.read_node-node.result in
    rw (next_by (calls_of s g) (results_of s c.args.results.now) (tree_at trees c.args.part) node.head (tree_at trees node.first) (tree_at trees node.second) (form.Call c.in-Call.x c.in-Call.l) (node_at trees c.args.part c.in-Some.n node c.in-Some.is c.read_node-node.ensures.tree) c.in-Call.ensures) (c.add_call.ensures g k)

pub game-returns-in_ok-copy-in-Name-2 : goal.game-returns-in_ok-copy-in-Name-2
game-returns-in_ok-copy-in-Name-2 t c = λ g k.
    let s = c.args.step.now in
    let trees = s.pool.now.trees in
    let i = calls_of s g in
    let rs = results_of s c.args.results.now in
    let node = c.read_node-node.result in
    let a = tree_at trees node.first in
    let b = tree_at trees node.second in
    let whole = tree_at trees c.args.part in
    let old = stack c.args.parts.now.items in
    let under = stack c.copy-in-Name.new.parts.items in
    IfOk-equal c.put.result (stack c.put.new.parts.items) (joined c.head_in-head.result under) (next_in i rs whole ∷ old) c.put.ensures
    (over_node i rs whole node.head c.head_in-head.result a b a b form.Name old (stack c.copy.new.parts.items) under (node_at trees c.args.part c.in-Some.n node c.in-Some.is c.read_node-node.ensures.tree) c.in-Name.ensures (c.head_in-head.ensures g k) refl c.in_ok-copy-in-Name.ensures c.in_ok-copy-in-Name-2.ensures)

pub game-returns-in_ok-game-in-Over : goal.game-returns-in_ok-game-in-Over
game-returns-in_ok-game-in-Over t c = λ g k.
    let s = c.args.step.now in
    let trees = s.pool.now.trees in
    let i = calls_of s g in
    let rs = results_of s c.args.results.now in
    let node = c.read_node-node.result in
    let a = tree_at trees node.first in
    let b = tree_at trees node.second in
    let whole = tree_at trees c.args.part in
    let old = stack c.args.parts.now.items in
    let under = stack c.game.new.parts.items in
    IfOk-equal c.put-in-Over.result (stack c.put-in-Over.new.parts.items) (joined c.head_in-head.result under) (next_in i rs whole ∷ old) c.put-in-Over.ensures
    (over_node i rs whole node.head c.head_in-head.result a b (first_in i rs c.in-Over.form a) (next_in i [] b) (form.Over c.in-Over.form) old (stack c.add_first.new.parts.items) under (node_at trees c.args.part c.in-Some.n node c.in-Some.is c.read_node-node.ensures.tree) c.in-Over.ensures (c.head_in-head.ensures g k) refl (c.in_ok-add_first-in-Over.ensures g k) (c.in_ok-game-in-Over.ensures g k))

pub add_first-returns-in-Game : goal.add_first-returns-in-Game
add_first-returns-in-Game t c = λ g k.
    let s = c.args.step.now in
    let i = calls_of s g in
    let rs = results_of s c.args.results.now in
    let part = tree_at s.pool.now.trees c.args.part in
    let old = stack c.args.parts.now.items in
    IfOk-equal c.game.result (stack c.game.new.parts.items) (next_in i [] part ∷ old) (first_in i rs c.args.form part ∷ old) (c.game.ensures g k) (ap (λ f. first_in i rs f part ∷ old) (sym c.in-Game.is))

pub add_call-returns-in_default : goal.add_call-returns-in_default
add_call-returns-in_default t c = λ g k.
    let s = c.args.step.now in
    let trees = s.pool.now.trees in
    let d = drawn_in s.drawn.now in
    let i = calls_of s g in
    let call : Call = record { answer = c.args.answer; site = c.place_of_site.result; rest = c.args.node.second } in
    let follows = goes_on s g c.args.results.now call in
    let site = slice_get s.callings.now c.place_of_site.result in
    let n = numbered c.args.number (callings_in trees s.callings.now) in
    let arguments = second (tree_at trees c.args.node.first) in
    let old = stack c.args.parts.now.items in
    IfOk-equal c.go_on.result (stack c.go_on.new.parts.items) (follows (term_of trees d site [] None) ∷ old) (call_in_game i n arguments follows ∷ old) (c.go_on.ensures g k)
    (ap (λ m. m ∷ old) (no_site i follows trees d site n arguments (c.place_of_site.ensures trees) (slice_get_past s.callings.now c.place_of_site.result c.in_default.ensures.lookup.3)))

pub add_call-pieces-init : goal.add_call-pieces-init
add_call-pieces-init t c = λ g k.
    let s = c.args.step.now in
    let call : Call = record { answer = c.args.answer; site = c.place_of_site.result; rest = c.args.node.second } in
    sym (pieced_none s.pool.now.trees (drawn_in s.drawn.now) s.callings.now c.in-Some.calling.now.caller (goes_on s g c.args.results.now call) (stack c.args.parts.now.items))

pub add_call-add_piece-requires : goal.add_call-add_piece-requires
add_call-add_piece-requires t c =
    let s = c.args.step.now in
    let found = c.in-Some.ensures.lookup in
    let items = c.as_slice-piece-items.result.now in
    let within : c.pieces.piece-index < length items = omega arith in
    (search rules, (c.requires.step, (c.requires.results, (c.requires.second, (slice_get_read s.callings.now (length s.callings.now) c.place_of_site.result c.in-Some.calling.now refl found.3.0 found.1, of_each (IsLivePiece (live_in s) (length s.callings.now)) items c.in_ok-pieces.pieces.items c.pieces.piece-index c.piece-item.result c.in_ok-pieces.ensures.live c.as_slice-piece-items.ensures.value within c.piece-item.is)))))

pub add_call-pieces-preserved : goal.add_call-pieces-preserved
add_call-pieces-preserved t c = λ g k.
    let s = c.args.step.now in
    let call : Call = record { answer = c.args.answer; site = c.place_of_site.result; rest = c.args.node.second } in
    let items = c.as_slice-piece-items.result.now in
    let within : c.pieces.piece-index < length items = omega arith in
    pieced_more s.pool.now.trees (drawn_in s.drawn.now) s.callings.now c.in-Some.calling.now.caller (goes_on s g c.args.results.now call) (stack c.args.parts.now.items) (stack c.pieces.parts.items) (stack c.add_piece.new.parts.items) items c.pieces.piece-index c.piece-item.result c.piece-item.result within c.piece-item.is (c.in_ok-add_piece.ensures g k) (c.pieces.invariant g k)

pub add_call-returns : goal.add_call-returns
add_call-returns t c = λ g k.
    let s = c.args.step.now in
    let trees = s.pool.now.trees in
    let i = calls_of s g in
    let call : Call = record { answer = c.args.answer; site = c.place_of_site.result; rest = c.args.node.second } in
    let follows = goes_on s g c.args.results.now call in
    let old = stack c.args.parts.now.items in
    let calling = c.in-Some.calling.now in
    let items = c.as_slice-piece-items.result.now in
    let found = c.in-Some.ensures.lookup in
    let all : length items ≤ c.pieces.piece-index = omega arith in
    let there = slice_get_read s.callings.now (length s.callings.now) c.place_of_site.result calling refl found.3.0 found.1 in
    let site = sym (ap (option_map (calling_in trees)) there) ∙ c.place_of_site.ensures trees in
    let made = c.in_ok-pieces.ensures.pieced s.key g (ap (λ (p : ℕ × ℕ). p.0) k) follows old in
    let every = pieced_all trees (drawn_in s.drawn.now) s.callings.now calling.caller follows old (stack c.pieces.parts.items) c.in_ok-pieces.pieces.items items c.pieces.piece-index (c.pieces.invariant g k) all c.as_slice-piece-items.ensures.value in
    call_made i follows (stack c.pieces.parts.items) (pieced trees (drawn_in s.drawn.now) s.callings.now calling.caller follows old c.in_ok-pieces.pieces.items) old (Some (calling_in trees calling)) (numbered c.args.number (callings_in trees s.callings.now)) (tree_at trees c.second_of-arguments.result) (second (tree_at trees c.args.node.first)) every made site c.second_of-arguments.ensures.tree

pub add_piece-returns-in-Result : goal.add_piece-returns-in-Result
add_piece-returns-in-Result t c = λ g k.
    let s = c.args.step.now in
    let trees = s.pool.now.trees in
    let d = drawn_in s.drawn.now in
    let follows = goes_on s g c.args.results.now c.args.call in
    let site = slice_get s.callings.now c.args.call.site in
    let entries = c.as_slice-in-Result.result.now in
    let phrase = c.in-Result.phrase in
    let old = stack c.args.parts.now.items in
    IfOk-equal c.go_on.result (stack c.go_on.new.parts.items) (follows (term_of trees d site entries phrase.term) ∷ old) (piece_over trees d s.callings.now c.args.calling.now.caller follows c.args.piece.now old) (c.go_on.ensures g k)
    (at_result trees d s.callings.now site c.args.calling.now follows entries phrase c.args.piece.now old c.requires.site c.as_slice-in-Result.ensures.value c.in-Result.is)

pub go_on-game-requires : goal.go_on-game-requires
go_on-game-requires t c =
    let live = live_in c.args.step.now in
    (search rules, (c.requires.step, (subst (All (IsLiveOutcome live)) (sym c.as_slice.ensures.value) (c.in_ok-more.ensures.live live c.requires.results c.requires.term), c.requires.rest)))
