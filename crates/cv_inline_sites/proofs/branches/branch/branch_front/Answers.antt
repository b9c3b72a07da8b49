use Rattle.std.proofs.Common.{◌≡◌, ℕ, ◌∷◌, List, ap, map}
use Rattle.std.proofs.lemmas.Result.{IfOk-weaker}
use Rattle.cv_syntax_trees.specs.Tree.{Tree}
use Rattle.cv_syntax.specs.PoolTrees.{tree_at}
use Rattle.cv_meaning.specs.contexts.Inlined.{Caller, Drawn, Scope, all_equal, in_game, index_terms, moved}
use Rattle.cv_inline.specs.terms.Callers.{caller_in}
use Rattle.cv_inline.specs.terms.Drawings.{drawn_in}
use Rattle.cv_inline.specs.terms.Scopes.{scope_in}
use Rattle.cv_inline.specs.terms.Stacks.{stack}
use Rattle.cv_inline_sites.specs.branches.Cells.{cell_tree}
use Rattle.cv_inline_sites.specs.branches.Moves.{front, moves_by}
use Rattle.cv_inline_sites.proofs.branches.Fronts.{front_is}
use Rattle.cv_inline_sites.proofs.branches.branch.branch_front.Goals as goal

pub returns : goal.returns
returns c name same =
    let trees = c.args.pool.now.trees in
    let d : Drawn = drawn_in c.args.drawn.now in
    let k : Caller = caller_in trees c.args.caller.now in
    let s : Caller = caller_in trees c.args.other.now in
    let Σ : Scope = scope_in (index_terms c.args.caller.now.replications.items) c.args.scope.now in
    let rs : List (ℕ × ℕ) = c.as_slice-others.result.now in
    let ms : List (ℕ × Tree) = moves_by (index_terms k.replications) rs c.args.indices.now in
    IfOk-weaker c.condition.result
    (λ x. stack c.condition.new.parts.items ≡ all_equal (moved ms s.key) k.key (in_game d k Σ (tree_at trees c.args.term)) ∷ stack c.moved_cells.new.parts.items)
    (λ x. stack c.condition.new.parts.items ≡ front d k Σ name s (tree_at trees c.args.list) (tree_at trees c.args.term) (stack c.args.parts.now.items))
    (λ x e. front_is d k Σ name s (tree_at trees c.args.list) (tree_at trees c.args.term) rs c.args.indices.now (map (cell_tree trees) c.as_slice.result.now) (map (cell_tree trees) c.in_ok-cells.cells.items) (stack c.args.parts.now.items) (stack c.binders.new.parts.items) (stack c.moved_cells.new.parts.items) (stack c.condition.new.parts.items) c.as_slice-others.ensures.value same (ap (map (cell_tree trees)) c.as_slice.ensures.value) c.in_ok-cells.ensures.cells c.in_ok-binders.ensures c.in_ok-moved_cells.ensures e)
    c.condition.ensures
