use Rattle.std.proofs.Common.{◌≡◌, ◌+◌, ◌*◌, ◌≤◌, ◌++◌, ℕ, List, [], ◌∷◌, Some, map, rules, arith, ap, sym, ◌∙◌, length}
use Rattle.std.specs.Prelude.{option_map}
use Rattle.cv_syntax_trees.specs.declared.head.Head.TheVariants.{Branch, Cons}
use Rattle.cv_syntax_trees.specs.Tree.{Tree, second_place, size}
use Rattle.cv_syntax.specs.PoolTrees.{tree_at}
use Rattle.cv_syntax.specs.Postorder.{postorder}
use Rattle.cv_syntax.specs.Walks.{above}
use Rattle.cv_syntax.specs.declared.make.Make.TheVariants as make
use Rattle.cv_syntax.proofs.Trees.{child_live, empty_at}
use Rattle.cv_syntax.proofs.Walking.{above_child, above_some, size_node}
use Rattle.cv_syntax.proofs.listing.Lists.{on_ok}
use Rattle.cv_edit_names.specs.Cells.{cells_in, first_unnamed, with_names}
use Rattle.cv_edit_names.specs.Kept.{around_in, copies_in, copy_in, naming_in}
use Rattle.cv_edit_names.specs.Parts.{around_second, split_first, split_head}
use Rattle.cv_edit_names.specs.Splitting.{behind, copies_for, looking_for, names_known, split_branches, split_in, with_name}
use Rattle.cv_edit_names.proofs.BranchSizes.{place_of_body, size_branches_of}
use Rattle.cv_edit_names.proofs.Lists.{all_listed, branch_listed, links_same, more_listed, node_listed, nothing_behind}
use Rattle.cv_edit_names.proofs.Nodes.{branches_link, branches_other, split_node, split_nothing}
use Rattle.cv_edit_names.proofs.splitting.+list_split.Goals as goal

pub list_branch-list_split-requires : goal.list_branch-list_split-requires
list_branch-list_split-requires u c =
    let trees = c.args.pool.now.trees in
    let b = c.args.branch.now in
    (search (rules, arith), (c.requires.looked, (c.requires.live.body, omega (arith, c.requires.fits, c.body_place-below.ensures, place_of_body c.args.place (tree_at trees b.indices) (tree_at trees b.cells) (tree_at trees b.condition), size_branches_of trees b))))

pub list_branch-returns : goal.list_branch-returns
list_branch-returns u c =
    let trees = c.args.pool.now.trees in
    let b = c.args.branch.now in
    let n = naming_in c.args.naming.now in
    let e = around_in trees c.args.naming.now.variable c.args.around.now in
    branch_listed c.args.makes.now.items c.list_binders.new.makes.items c.list_named.new.makes.items c.list_named-2.new.makes.items c.list_split.new.makes.items c.push.new.self.items c.push-2.new.self.items c.push-3.new.self.items
    (with_name n c.args.place (tree_at trees b.indices)) (with_names (names_known e) (tree_at trees b.cells)) (with_names (names_known e) (tree_at trees b.condition)) (split_in n e _ (tree_at trees b.body))
    c.in_ok-list_binders.ensures c.in_ok-list_named.ensures c.in_ok-list_named-2.ensures
    (c.in_ok-list_split.ensures ∙ ap (λ p. c.list_named-2.new.makes.items ++ postorder (split_in n e p (tree_at trees b.body))) c.body_place-below.ensures)
    c.in_ok-push.ensures.items c.in_ok-push-2.ensures.items c.in_ok-push-3.ensures.items

pub list_branches-size_below-requires-clause-fits : goal.list_branches-size_below-requires-clause-fits
list_branches-size_below-requires-clause-fits u c = omega (arith, c.requires.fits, c.branches.invariant.fits, ap size c.in-Some.ensures.tree, size_branches_of c.args.pool.now.trees c.in-Some.branch)

pub list_branches-overflow_add-here : goal.list_branches-overflow_add-here
list_branches-overflow_add-here u c =
    let trees = c.args.pool.now.trees in
    let b = c.in-Some.branch in
    omega (arith, c.requires.fits, c.branches.invariant.fits, ap size c.in-Some.ensures.tree, size_branches_of trees b, c.body_place.ensures, place_of_body c.branches.here (tree_at trees b.indices) (tree_at trees b.cells) (tree_at trees b.condition), c.size_below.ensures)

pub list_branches-branches-preserved : goal.list_branches-branches-preserved
list_branches-branches-preserved u c =
    let trees = c.args.pool.now.trees in
    let b = c.in-Some.branch in
    let us = tree_at trees b.indices in
    let cells = tree_at trees b.cells in
    let g = tree_at trees b.condition in
    let body = tree_at trees b.body in
    let more = tree_at trees b.more in
    let n = naming_in c.args.naming.now in
    let e = around_in trees c.args.naming.now.variable c.args.around.now in
    let here = c.branches.here in
    let next = c.body_place.result + c.size_below.result in
    let z = place_of_body here us cells g in
    record {
      below = omega (arith, c.branches.invariant.below, c.in-Some.ensures.below.more);
      live = c.in-Some.ensures.live.more;
      fits = omega (arith, c.branches.invariant.fits, ap size c.in-Some.ensures.tree, size_branches_of trees b, c.body_place.ensures, z, c.size_below.ensures);
      listed = (
        _,
        more_listed c.args.makes.now.items c.branches.makes.items c.list_copies.new.makes.items c.branches.links.items c.list_copies.new.links.items _ (split_branches n e here (tree_at trees c.branches.at)) (split_branches n e next more) c.branches.invariant.listed.0 (copies_in trees n e here b) c.branches.invariant.listed.1
            (branches_link n e here next (tree_at trees c.branches.at) us cells g body more c.in-Some.ensures.tree (omega (arith, c.body_place.ensures, c.size_below.ensures)))
            c.in_ok-list_copies.ensures.makes c.in_ok-list_copies.ensures.links,
      );
    }

pub list_branches-returns : goal.list_branches-returns
list_branches-returns u c =
    let trees = c.args.pool.now.trees in
    let n = naming_in c.args.naming.now in
    let e = around_in trees c.args.naming.now.variable c.args.around.now in
    let here = c.branches.here in
    let t = tree_at trees c.branches.at in
    on_ok c.close.result
    (λ f. all_listed c.args.makes.now.items c.branches.makes.items c.copy.new.makes.items c.close.new.makes.items c.branches.links.items _ (split_branches n e here t) c.branches.invariant.listed.0 c.branches.invariant.listed.1
    (c.in_ok-copy.ensures ∙ ap (λ s. c.branches.makes.items ++ postorder s) (sym (branches_other n e here t c.in_default.ensures.none))) f)
    c.close.ensures

pub list_copies-returns-in-Some-clause-links : goal.list_copies-returns-in-Some-clause-links
list_copies-returns-in-Some-clause-links u c =
    let trees = c.args.pool.now.trees in
    let x = c.args.naming.now.variable in
    let b = c.args.branch.now in
    let n = naming_in c.args.naming.now in
    let p = c.args.place in
    let d = behind n p Branch (tree_at trees b.indices) (around_in trees x c.args.around.now) in
    let cells = cells_in x (tree_at trees b.cells) in
    let cell = tree_at trees c.in-Some.cell in
    let found : first_unnamed d.looked_for cells ≡ Some cell =
    ap (λ e. first_unnamed e.looked_for cells) (sym c.behind-inside.ensures.around) ∙ (sym c.first_unnamed.ensures.cell ∙ ap (option_map (tree_at trees)) c.in-Some.is) in
    on_ok c.list_each.result
    (λ f. f ∙ ap (λ hs. c.args.links.now.items ++ hs) (sym (ap (λ ds. map (λ (t : Tree). Cons) (map (copy_in trees n p b) ds)) (ap (copies_for n d) found) ∙ links_same (copy_in trees n p b) (looking_for d cell) c.args.naming.now.names.now)))
    c.list_each.ensures.links

pub list_split-returns-in_default : goal.list_split-returns-in_default
list_split-returns-in_default u c =
    let trees = c.args.pool.now.trees in
    let n = naming_in c.args.naming.now in
    let e = around_in trees c.args.naming.now.variable c.args.around.now in
    let t = tree_at trees c.args.start in
    nothing_behind c.args.makes.now.items c.push.new.self.items (split_in n e c.args.place t) (split_nothing n e c.args.place t (empty_at trees c.args.start c.in_default.is)) c.in_ok-push.ensures.items

pub list_split-list_first-requires : goal.list_split-list_first-requires
list_split-list_first-requires u c =
    let trees = c.args.pool.now.trees in
    let node = c.read_node-node.result in
    let e = ap (tree_at trees) c.in-Some.is ∙ c.read_node-node.ensures.tree in
    let z = size_node (tree_at trees c.args.start) node.head (tree_at trees node.first) (tree_at trees node.second) e in
    let less : 4 * above node.first + 2 ≤ 4 * above c.args.start = omega (arith, above_some c.args.start c.in-Some.n c.in-Some.is, above_child c.in-Some.n.0 node.first c.read_node-node.ensures.first) in
    (search (rules, arith), (c.requires.looked, (child_live (length trees) c.args.start c.in-Some.n node.first c.in-Some.is c.requires.live c.read_node-node.ensures.first, omega (arith, c.requires.fits, z))))

pub list_split-list_second-requires : goal.list_split-list_second-requires
list_split-list_second-requires u c =
    let trees = c.args.pool.now.trees in
    let node = c.read_node-node.result in
    let e = ap (tree_at trees) c.in-Some.is ∙ c.read_node-node.ensures.tree in
    let z = size_node (tree_at trees c.args.start) node.head (tree_at trees node.first) (tree_at trees node.second) e in
    let less : 4 * above node.second + 2 ≤ 4 * above c.args.start = omega (arith, above_some c.args.start c.in-Some.n c.in-Some.is, above_child c.in-Some.n.0 node.second c.read_node-node.ensures.second) in
    (search (rules, arith), (c.requires.looked, (child_live (length trees) c.args.start c.in-Some.n node.first c.in-Some.is c.requires.live c.read_node-node.ensures.first, (child_live (length trees) c.args.start c.in-Some.n node.second c.in-Some.is c.requires.live c.read_node-node.ensures.second, omega (arith, c.requires.fits, z)))))

pub list_split-returns : goal.list_split-returns
list_split-returns u c =
    let trees = c.args.pool.now.trees in
    let node = c.read_node-node.result in
    let n = naming_in c.args.naming.now in
    let e = around_in trees c.args.naming.now.variable c.args.around.now in
    let p = c.args.place in
    let a = tree_at trees node.first in
    let b = tree_at trees node.second in
    let same = ap (tree_at trees) c.in-Some.is ∙ c.read_node-node.ensures.tree in
    node_listed c.args.makes.now.items c.list_first.new.makes.items c.list_second.new.makes.items c.push-2.new.self.items (split_head n p node.head) (split_first n e p node.head a) (split_in n (around_second n p node.head a e) (second_place p node.head a) b)
    c.in_ok-list_first.ensures c.in_ok-list_second.ensures (c.in_ok-push-2.ensures.items ∙ ap (λ h. c.list_second.new.makes.items ++ make.Over h ∷ []) c.split_head.ensures)
    ∙ ap (λ t. c.args.makes.now.items ++ postorder t) (sym (split_node n e p (tree_at trees c.args.start) node.head a b same))
