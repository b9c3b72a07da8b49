use Rattle.std.proofs.Common.{◌≡◌, ℕ, true, false, length, ap, sym, ◌∙◌}
use Rattle.cv_syntax.specs.PoolTrees.{tree_at}
use Rattle.cv_syntax.proofs.Trees.{child_live, empty_at, node_at}
use Rattle.cv_group_rules.specs.Rules as rule
use Rattle.cv_group.proofs.shapes.Steps as step
use Rattle.cv_group.proofs.shapes.Taking as taking
use Rattle.cv_group.specs.shapes.Shapes.{are_taken, without}
use Rattle.std.proofs.Common.{rules}
use Rattle.cv_syntax.specs.NameSets.{is_in, is_outside}
use Rattle.cv_syntax_trees.specs.Tree.{first}
use Rattle.cv_meaning.specs.contexts.Groups.{bound_of}
use Rattle.std.proofs.Math.Path.{fun_ext}
use Rattle.std.specs.Prelude.{not}
use Rattle.cv_group.proofs.shapes.shapes.have_distinct_bounds.Goals as goal

pub list-init : goal.list-init
list-init c =
    let none : (x : ℕ) → is_in c.new-seen.result x ≡ false = λ x. search rules in
    let free : is_outside c.new-seen.result ≡ taking.all_free = fun_ext (λ x. ap not (none x)) in
    record {
      live = c.requires;
      same = ap (λ f. are_taken f (rule.bounds (tree_at c.args.pool.now.trees c.args.functions))) free ∙ taking.taken_distinct (rule.bounds (tree_at c.args.pool.now.trees c.args.functions));
    }

pub list-preserved : goal.list-preserved
list-preserved c =
    let trees = c.args.pool.now.trees in
    let node = c.read_node-node.result in
    let bounds = step.bounds_step (tree_at trees c.list.at) node.head (tree_at trees node.first) (tree_at trees node.second) (node_at trees c.list.at c.in-Some.k node c.in-Some.is c.read_node-node.ensures.tree) in
    let b = bound_of (first (tree_at trees node.first)) in
    let same : c.bound_at.result ≡ b = (c.bound_at.ensures ∙ ap bound_of c.first_of.ensures.tree) in
    let fresh : is_outside c.list.seen b ≡ true = ap (is_outside c.list.seen) (sym same) ∙ (sym c.in_ok-insert.ensures.added ∙ c.if-not-branch.false) in
    record {
      live = child_live (length trees) c.list.at c.in-Some.k node.second c.in-Some.is c.list.invariant.live c.read_node-node.ensures.second;
      same = ap (λ f. are_taken f (rule.bounds (tree_at trees node.second))) (taking.noted c.bound_at.result c.list.seen c.insert.new.self c.in_ok-insert.ensures.updates ∙ ap (without (is_outside c.list.seen)) same) ∙ step.and_true _ _ _ _ (ap (are_taken (is_outside c.list.seen)) bounds) c.list.invariant.same fresh;
    }

pub returns-then-not-branch : goal.returns-then-not-branch
returns-then-not-branch c =
    let trees = c.args.pool.now.trees in
    let node = c.read_node-node.result in
    let bounds = step.bounds_step (tree_at trees c.list.at) node.head (tree_at trees node.first) (tree_at trees node.second) (node_at trees c.list.at c.in-Some.k node c.in-Some.is c.read_node-node.ensures.tree) in
    let b = bound_of (first (tree_at trees node.first)) in
    let same : c.bound_at.result ≡ b = (c.bound_at.ensures ∙ ap bound_of c.first_of.ensures.tree) in
    let taken : is_outside c.list.seen b ≡ false = ap (is_outside c.list.seen) (sym same) ∙ (sym c.in_ok-insert.ensures.added ∙ c.if-not-branch.true) in
    step.and_false _ _ _ _ (ap (are_taken (is_outside c.list.seen)) bounds) c.list.invariant.same taken

pub returns : goal.returns
returns c = sym (ap (are_taken (is_outside c.list.seen)) (step.bounds_end (tree_at c.args.pool.now.trees c.list.at) (empty_at c.args.pool.now.trees c.list.at c.in_default.is))) ∙ c.list.invariant.same
