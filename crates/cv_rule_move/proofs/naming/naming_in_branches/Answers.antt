use Rattle.std.proofs.Common.{arith, ◌∙◌, length}
use Rattle.cv_syntax.specs.PoolTrees.{tree_at}
use Rattle.cv_syntax.proofs.Trees.{child_live, empty_at, node_at}
use Rattle.cv_rule_move.proofs.FirstPlaces.{arm_size, link_size, named_later, no_arms}
use Rattle.cv_rule_move.proofs.naming.naming_in_branches.Goals as goal

pub naming_in_branch-requires-clause-fits : goal.naming_in_branch-requires-clause-fits
naming_in_branch-requires-clause-fits c =
    let trees = c.args.pool.now.trees in
    let link = c.read_node-link.result in
    let b = c.in-Some-branch_in.branch in
    let e = node_at trees c.branches.at c.in-Some.n link c.in-Some.is c.read_node-link.ensures.tree in
    let f = c.in-Some-branch_in.ensures.branch in
    omega (
      arith,
      c.requires.fits,
      c.branches.invariant.sum,
      link_size c.args.x c.branches.place (tree_at trees c.branches.at) link.head (tree_at trees link.first) (tree_at trees link.second) (tree_at trees b.first) (tree_at trees b.second) e f,
      arm_size c.args.x c.branches.place (tree_at trees c.branches.at) link.head (tree_at trees link.first) (tree_at trees link.second) (tree_at trees b.first) (tree_at trees b.second) e f,
    )

pub size_below-place-requires-clause-fits : goal.size_below-place-requires-clause-fits
size_below-place-requires-clause-fits c =
    let trees = c.args.pool.now.trees in
    let link = c.read_node-link.result in
    let b = c.in-Some-branch_in.branch in
    let e = node_at trees c.branches.at c.in-Some.n link c.in-Some.is c.read_node-link.ensures.tree in
    omega (
      arith,
      c.requires.fits,
      c.branches.invariant.sum,
      link_size c.args.x c.branches.place (tree_at trees c.branches.at) link.head (tree_at trees link.first) (tree_at trees link.second) (tree_at trees b.first) (tree_at trees b.second) e c.in-Some-branch_in.ensures.branch,
    )

pub overflow_add-place : goal.overflow_add-place
overflow_add-place c =
    let trees = c.args.pool.now.trees in
    let link = c.read_node-link.result in
    let b = c.in-Some-branch_in.branch in
    let e = node_at trees c.branches.at c.in-Some.n link c.in-Some.is c.read_node-link.ensures.tree in
    omega (
      arith,
      c.requires.fits,
      c.branches.invariant.sum,
      c.size_below-place.ensures,
      link_size c.args.x c.branches.place (tree_at trees c.branches.at) link.head (tree_at trees link.first) (tree_at trees link.second) (tree_at trees b.first) (tree_at trees b.second) e c.in-Some-branch_in.ensures.branch,
    )

pub branches-preserved : goal.branches-preserved
branches-preserved c =
    let trees = c.args.pool.now.trees in
    let link = c.read_node-link.result in
    let b = c.in-Some-branch_in.branch in
    let e = node_at trees c.branches.at c.in-Some.n link c.in-Some.is c.read_node-link.ensures.tree in
    let f = c.in-Some-branch_in.ensures.branch in
    record {
      live = child_live (length trees) c.branches.at c.in-Some.n link.second c.in-Some.is c.branches.invariant.live c.read_node-link.ensures.second;
      sum = omega (
        arith,
        c.branches.invariant.sum,
        c.size_below-place.ensures,
        link_size c.args.x c.branches.place (tree_at trees c.branches.at) link.head (tree_at trees link.first) (tree_at trees link.second) (tree_at trees b.first) (tree_at trees b.second) e f,
      );
      same =
          named_later c.args.x c.branches.place (tree_at trees c.branches.at) link.head (tree_at trees link.first) (tree_at trees link.second) (tree_at trees b.first) (tree_at trees b.second) e f
          c.in_default-naming_in_branch.ensures c.size_below-place.result c.size_below-place.ensures
          ∙ c.branches.invariant.same;
    }

pub returns : goal.returns
returns c = no_arms c.args.x c.branches.place (tree_at c.args.pool.now.trees c.branches.at) (empty_at c.args.pool.now.trees c.branches.at c.in_default.is) ∙ c.branches.invariant.same
