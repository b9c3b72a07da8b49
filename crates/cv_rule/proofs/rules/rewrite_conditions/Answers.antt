use Rattle.std.proofs.Common.{Some, sym, ◌∙◌}
use Rattle.cv_syntax.specs.PoolTrees.{tree_at}
use Rattle.cv_scene_view.specs.Kept.{scene_of}
use Rattle.cv_rule.proofs.Rowed.{has_sort, is_equality, no_end, no_line, no_place, no_sort, rewritable, rewrite_holds}
use Rattle.cv_rule.proofs.rules.rewrite_conditions.Goals as goal

pub returns-then-not-is_rewritable : goal.returns-then-not-is_rewritable
returns-then-not-is_rewritable c =
    let trees = c.args.work.now.pool.trees in
    let s = scene_of c.args.work.now.pool c.args.work.now.decls c.args.game in
    let p = c.args.place in
    let m = tree_at trees (Some c.args.term) in
    let by = tree_at trees c.args.by in
    let old = tree_at trees c.part_at-old.result in
    let o = c.part_at-old.ensures.part in
    let S = c.in_ok-sort.sort in
    let q = c.in_ok-sort.ensures in
    let a = rewritable s p m by old o S q c.is_rewritable.result c.is_rewritable.ensures in
    no_place s p m by c.is_rewritable.result a c.if-not-is_rewritable.true

pub returns-then-not-has_sort_of : goal.returns-then-not-has_sort_of
returns-then-not-has_sort_of c =
    let trees = c.args.work.now.pool.trees in
    let s = scene_of c.args.work.now.pool c.args.work.now.decls c.args.game in
    let p = c.args.place in
    let m = tree_at trees (Some c.args.term) in
    let by = tree_at trees c.args.by in
    let old = tree_at trees c.part_at-old.result in
    let o = c.part_at-old.ensures.part in
    let S = c.in_ok-sort.sort in
    let q = c.in_ok-sort.ensures in
    let a = rewritable s p m by old o S q c.is_rewritable.result c.is_rewritable.ensures in
    let b = has_sort s p m by old o S q c.has_sort_of.result c.in_ok-new.new c.in_ok-new.ensures c.has_sort_of.ensures in
    no_sort s p m by c.is_rewritable.result a c.if-not-is_rewritable.false c.has_sort_of.result b c.if-not-has_sort_of.true

pub returns-in-Some : goal.returns-in-Some
returns-in-Some c =
    let trees = c.args.work.now.pool.trees in
    let s = scene_of c.args.work.now.pool c.args.work.now.decls c.args.game in
    let p = c.args.place in
    let m = tree_at trees (Some c.args.term) in
    let by = tree_at trees c.args.by in
    let old = tree_at trees c.part_at-old.result in
    let o = c.part_at-old.ensures.part in
    let S = c.in_ok-sort.sort in
    let q = c.in_ok-sort.ensures in
    let a = rewritable s p m by old o S q c.is_rewritable.result c.is_rewritable.ensures in
    let b = has_sort s p m by old o S q c.has_sort_of.result c.in_ok-new.new c.in_ok-new.ensures c.has_sort_of.ensures in
    no_line s p m by c.is_rewritable.result a c.if-not-is_rewritable.false c.has_sort_of.result b c.if-not-has_sort_of.false c.in-Some.line (sym c.in-Some.is ∙ c.in_ok-line.ensures)

pub returns-then-not-ends_with_equality : goal.returns-then-not-ends_with_equality
returns-then-not-ends_with_equality c =
    let trees = c.args.work.now.pool.trees in
    let s = scene_of c.args.work.now.pool c.args.work.now.decls c.args.game in
    let p = c.args.place in
    let m = tree_at trees (Some c.args.term) in
    let by = tree_at trees c.args.by in
    let old = tree_at trees c.part_at-old.result in
    let o = c.part_at-old.ensures.part in
    let S = c.in_ok-sort.sort in
    let q = c.in_ok-sort.ensures in
    let a = rewritable s p m by old o S q c.is_rewritable.result c.is_rewritable.ensures in
    let b = has_sort s p m by old o S q c.has_sort_of.result c.in_ok-new.new c.in_ok-new.ensures c.has_sort_of.ensures in
    let e = is_equality s p m by old o S q c.ends_with_equality.result c.ends_with_equality.ensures in
    let k = sym c.in_default.is ∙ c.in_ok-line.ensures in
    no_end s p m by c.is_rewritable.result a c.if-not-is_rewritable.false c.has_sort_of.result b c.if-not-has_sort_of.false k c.ends_with_equality.result e c.if-not-ends_with_equality.true

pub returns : goal.returns
returns c =
    let trees = c.args.work.now.pool.trees in
    let s = scene_of c.args.work.now.pool c.args.work.now.decls c.args.game in
    let p = c.args.place in
    let m = tree_at trees (Some c.args.term) in
    let by = tree_at trees c.args.by in
    let old = tree_at trees c.part_at-old.result in
    let o = c.part_at-old.ensures.part in
    let S = c.in_ok-sort.sort in
    let q = c.in_ok-sort.ensures in
    let a = rewritable s p m by old o S q c.is_rewritable.result c.is_rewritable.ensures in
    let b = has_sort s p m by old o S q c.has_sort_of.result c.in_ok-new.new c.in_ok-new.ensures c.has_sort_of.ensures in
    let e = is_equality s p m by old o S q c.ends_with_equality.result c.ends_with_equality.ensures in
    let k = sym c.in_default.is ∙ c.in_ok-line.ensures in
    rewrite_holds s p m by c.is_rewritable.result a c.if-not-is_rewritable.false c.has_sort_of.result b c.if-not-has_sort_of.false k c.ends_with_equality.result e c.if-not-ends_with_equality.false
