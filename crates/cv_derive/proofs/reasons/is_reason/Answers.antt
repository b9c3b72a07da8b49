use Rattle.cv_syntax_trees.specs.declared.head.Head.TheVariants.{ByCong, ByData, ByEquation, ByLate}
use Rattle.cv_syntax.specs.PoolTrees.{tree_at}
use Rattle.cv_derive_lines.specs.citing.Bookmarks.{visible_to}
use Rattle.cv_derive.specs.Seen.{assumed_of, sight_of, trees_of}
use Rattle.cv_derive.proofs.Reasoning.{reason_by, reason_follows, seen}
use Rattle.std.proofs.Common.{refl}
use Rattle.cv_derive.proofs.reasons.is_reason.Goals as goal

pub returns-in-ByEquation : goal.returns-in-ByEquation
returns-in-ByEquation c =
    let s = c.args.s.now in
    let trees = trees_of s in
    let node = c.in-Some.node in
    reason_by (sight_of s) (assumed_of trees c.args.assumed) (visible_to trees c.args.citing.now) (tree_at trees c.args.term) (tree_at trees c.args.reason) node.head ByEquation (tree_at trees node.first) (tree_at trees node.second) c.is_instance.result c.in-Some.ensures.node c.in-ByEquation.is (c.is_instance.ensures (sight_of s) (seen s c.requires.sees))

pub returns-in-ByCong : goal.returns-in-ByCong
returns-in-ByCong c =
    let s = c.args.s.now in
    let trees = trees_of s in
    let node = c.in-Some.node in
    reason_by (sight_of s) (assumed_of trees c.args.assumed) (visible_to trees c.args.citing.now) (tree_at trees c.args.term) (tree_at trees c.args.reason) node.head ByCong (tree_at trees node.first) (tree_at trees node.second) c.is_congruent.result c.in-Some.ensures.node c.in-ByCong.is (c.is_congruent.ensures (sight_of s) c.requires.sees.above)

pub returns-in-ByData : goal.returns-in-ByData
returns-in-ByData c =
    let s = c.args.s.now in
    let trees = trees_of s in
    let node = c.in-Some.node in
    reason_by (sight_of s) (assumed_of trees c.args.assumed) (visible_to trees c.args.citing.now) (tree_at trees c.args.term) (tree_at trees c.args.reason) node.head ByData (tree_at trees node.first) (tree_at trees node.second) c.is_injective.result c.in-Some.ensures.node c.in-ByData.is (c.is_injective.ensures (sight_of s) refl)

pub returns-in-ByLate : goal.returns-in-ByLate
returns-in-ByLate c =
    let s = c.args.s.now in
    let trees = trees_of s in
    let node = c.in-Some.node in
    reason_by (sight_of s) (assumed_of trees c.args.assumed) (visible_to trees c.args.citing.now) (tree_at trees c.args.term) (tree_at trees c.args.reason) node.head ByLate (tree_at trees node.first) (tree_at trees node.second) c.is_early.result c.in-Some.ensures.node c.in-ByLate.is c.is_early.ensures

pub returns-in_default-head : goal.returns-in_default-head
returns-in_default-head c =
    let s = c.args.s.now in
    let trees = trees_of s in
    let node = c.in-Some.node in
    reason_follows (sight_of s) (assumed_of trees c.args.assumed) (visible_to trees c.args.citing.now) (tree_at trees c.args.term) (tree_at trees c.args.reason) node.head (tree_at trees node.first) (tree_at trees node.second) c.follows.result c.in-Some.ensures.node c.follows.ensures c.in_default-head.not-ByFact c.in_default-head.not-BySite c.in_default-head.not-ByEquation c.in_default-head.not-ByCong c.in_default-head.not-ByData c.in_default-head.not-ByGiven c.in_default-head.not-ByLate c.in_default-head.not-ByOtherFact c.in_default-head.not-BySame c.in_default-head.not-ByDistinct
