use Rattle.std.proofs.Common.{◌∷◌, ◌∙◌, ap, sym, option_map, Some, None}
use Rattle.std.proofs.lemmas.Result.{IfOk-equal}
use Rattle.cv_syntax_trees.specs.declared.head.Head.TheVariants.{Eq}
use Rattle.cv_syntax.specs.Postorder.{joined}
use Rattle.cv_syntax.specs.PoolTrees.{tree_at}
use Rattle.cv_syntax.proofs.Trees.{empty_at, node_at}
use Rattle.cv_meaning.specs.contexts.Inlined as bodies
use Rattle.cv_meaning.specs.contexts.Inlined.{Caller, Drawn, Scope, array_in_game, call_in, index_terms}
use Rattle.cv_inline.specs.terms.Callers.{caller_in}
use Rattle.cv_inline.specs.terms.Drawings.{drawn_in}
use Rattle.cv_inline.specs.terms.Scopes.{called_at, pair_by, scope_in}
use Rattle.cv_inline.specs.terms.Stacks.{stack}
use Rattle.cv_inline.proofs.terms.InGame.{in_game_Empty, in_game_Eq, in_game_Leaf, in_game_Read, in_game_other}
use Rattle.cv_inline.proofs.terms.Pushes.{over_two}
use Rattle.cv_inline.proofs.terms.terms.+in_game.Goals as goal

pub returns-in_default : goal.returns-in_default
returns-in_default t c =
    let trees = c.args.pool.now.trees in
    rw (in_game_Empty (drawn_in c.args.drawn.now) (caller_in trees c.args.caller.now) (scope_in (index_terms c.args.caller.now.replications.items) c.args.scope.now) (tree_at trees c.args.term) (empty_at trees c.args.term c.in_default.is)) c.nothing.ensures

pub returns-in-Leaf : goal.returns-in-Leaf
returns-in-Leaf t c =
    let trees = c.args.pool.now.trees in
    let node = c.read_node-node.result in
    rw (in_game_Leaf (drawn_in c.args.drawn.now) (caller_in trees c.args.caller.now) (scope_in (index_terms c.args.caller.now.replications.items) c.args.scope.now) (tree_at trees c.args.term) node.head (tree_at trees node.first) (tree_at trees node.second) c.in-Leaf.x (node_at trees c.args.term c.in-Some.n node c.in-Some.is c.read_node-node.ensures.tree) c.in-Leaf.is) c.leaf.ensures

pub returns-in-Read : goal.returns-in-Read
returns-in-Read t c =
    let trees = c.args.pool.now.trees in
    let node = c.read_node-node.result in
    let here = index_terms c.args.caller.now.replications.items in
    let Σ : Scope = scope_in here c.args.scope.now in
    let d : Drawn = drawn_in c.args.drawn.now in
    let e = in_game_Read d (caller_in trees c.args.caller.now) Σ (tree_at trees c.args.term) node.head (tree_at trees node.first) (tree_at trees node.second) c.in-Read.v (node_at trees c.args.term c.in-Some.n node c.in-Some.is c.read_node-node.ensures.tree) c.in-Read.is in
    rw (e ∙ ap (array_in_game d c.in-Read.v) (sym (c.call_in-call.ensures here ∙ ap (call_in Σ) c.first_of.ensures.tree))) c.array.ensures

pub returns-in-Some-calls_in : goal.returns-in-Some-calls_in
returns-in-Some-calls_in t c =
    let trees = c.args.pool.now.trees in
    let node = c.read_node-node.result in
    let here = index_terms c.args.caller.now.replications.items in
    let Σ : Scope = scope_in here c.args.scope.now in
    let e = in_game_Eq (drawn_in c.args.drawn.now) (caller_in trees c.args.caller.now) Σ (tree_at trees c.args.term) node.head (tree_at trees node.first) (tree_at trees node.second) (Some (called_at here c.in-Some-calls_in.left, called_at here c.in-Some-calls_in.right)) (node_at trees c.args.term c.in-Some.n node c.in-Some.is c.read_node-node.ensures.tree) c.in-Eq.is (sym (ap (option_map (pair_by here)) c.in-Some-calls_in.is) ∙ c.calls_in.ensures here) in
    rw e c.same_call.ensures

pub returns-in_ok-in_game-in-None-2 : goal.returns-in_ok-in_game-in-None-2
returns-in_ok-in_game-in-None-2 t c =
    let trees = c.args.pool.now.trees in
    let node = c.read_node-node.result in
    let here = index_terms c.args.caller.now.replications.items in
    let Σ : Scope = scope_in here c.args.scope.now in
    let d : Drawn = drawn_in c.args.drawn.now in
    let k : Caller = caller_in trees c.args.caller.now in
    let e = in_game_Eq d k Σ (tree_at trees c.args.term) node.head (tree_at trees node.first) (tree_at trees node.second) None (node_at trees c.args.term c.in-Some.n node c.in-Some.is c.read_node-node.ensures.tree) c.in-Eq.is (sym (ap (option_map (pair_by here)) c.in-None.is) ∙ c.calls_in.ensures here) in
    IfOk-equal c.put.result (stack c.put.new.parts.items) (joined Eq (stack c.in_game-in-None.new.parts.items)) (bodies.in_game d k Σ (tree_at trees c.args.term) ∷ stack c.args.parts.now.items) c.put.ensures
    (over_two Eq (stack c.args.parts.now.items) (stack c.in_game.new.parts.items) (stack c.in_game-in-None.new.parts.items) (bodies.in_game d k Σ (tree_at trees node.first)) (bodies.in_game d k Σ (tree_at trees node.second)) (bodies.in_game d k Σ (tree_at trees c.args.term)) c.in_ok-in_game-in-None.ensures c.in_ok-in_game-in-None-2.ensures e)

pub returns-in_ok-in_game-in_default-head-2 : goal.returns-in_ok-in_game-in_default-head-2
returns-in_ok-in_game-in_default-head-2 t c =
    let trees = c.args.pool.now.trees in
    let node = c.read_node-node.result in
    let here = index_terms c.args.caller.now.replications.items in
    let Σ : Scope = scope_in here c.args.scope.now in
    let d : Drawn = drawn_in c.args.drawn.now in
    let k : Caller = caller_in trees c.args.caller.now in
    let no = c.in_default-head in
    let e = in_game_other d k Σ (tree_at trees c.args.term) node.head (tree_at trees node.first) (tree_at trees node.second) (node_at trees c.args.term c.in-Some.n node c.in-Some.is c.read_node-node.ensures.tree) no.not-Leaf no.not-Read no.not-Eq in
    IfOk-equal c.put-in_default-head.result (stack c.put-in_default-head.new.parts.items) (joined node.head (stack c.in_game-in_default-head-2.new.parts.items)) (bodies.in_game d k Σ (tree_at trees c.args.term) ∷ stack c.args.parts.now.items) c.put-in_default-head.ensures
    (over_two node.head (stack c.args.parts.now.items) (stack c.in_game-in_default-head.new.parts.items) (stack c.in_game-in_default-head-2.new.parts.items) (bodies.in_game d k Σ (tree_at trees node.first)) (bodies.in_game d k Σ (tree_at trees node.second)) (bodies.in_game d k Σ (tree_at trees c.args.term)) c.in_ok-in_game-in_default-head.ensures c.in_ok-in_game-in_default-head-2.ensures e)
