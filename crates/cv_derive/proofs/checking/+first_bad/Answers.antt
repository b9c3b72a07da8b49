use Rattle.std.proofs.Common.{rules, ◌+◌, ◌<◌, arith, ap, ap₂, length, refl, ◌∙◌}
use Rattle.cv_syntax.specs.PoolTrees.{tree_at}
use Rattle.cv_syntax.specs.Walks.{above}
use Rattle.cv_syntax.proofs.Trees.{child_above, child_live, empty_at}
use Rattle.cv_syntax.proofs.Walking.{above_child, above_some}
use Rattle.cv_scene.specs.lines.Lines.{lines_of}
use Rattle.cv_derive_lines.specs.declared.lines.Line.TheVariants as line
use Rattle.cv_derive_lines.specs.declared.lines.Claim.TheVariants as claim
use Rattle.cv_derive_lines.specs.Views.{statement_of}
use Rattle.cv_derive_lines.proofs.Fronts.{count_by, count_cases}
use Rattle.cv_derive_lines.proofs.citing.Serving.{serves_at, serves_first, serves_inside, serves_line, serves_next, serves_rest, serves_second}
use Rattle.cv_derive.specs.Seen.{assumed_of, sight_of, trees_of}
use Rattle.cv_derive.proofs.Judging.{bad_none, by_at, by_bad, by_good, cases_at, first_block, second_block, split_bad, split_good}
use Rattle.cv_derive.proofs.checking.+first_bad.Goals as goal

pub lines-init : goal.lines-init
lines-init t c =
    let trees = trees_of c.args.s.now in
    let all = lines_of (tree_at trees c.args.s.now.lines) in
    record {
      live = c.requires.live;
      less = omega arith;
      serves = serves_inside trees all c.args.around.now c.args.start c.inside-kept.result (lines_of (tree_at trees c.args.lines)) (λ m a. c.inside-kept.ensures trees all m a) c.requires.serves;
      same = refl;
    }

pub is_right_line-requires-clause-kept : goal.is_right_line-requires-clause-kept
is_right_line-requires-clause-kept t c =
    let trees = trees_of c.args.s.now in
    let node = c.read_node-node.result in
    let all = lines_of (tree_at trees c.args.s.now.lines) in
    serves_line trees all c.lines.kept c.lines.kept c.lines.n c.in-By.claim node.second (c.in-By.ensures.live (length trees) (child_live (length trees) c.lines.at c.in-Some.k node.first c.in-Some.is c.lines.invariant.live c.read_node-node.ensures.first)).0 (child_live (length trees) c.lines.at c.in-Some.k node.second c.in-Some.is c.lines.invariant.live c.read_node-node.ensures.second) (tree_at trees c.in-By.reason) (serves_at trees all c.lines.kept c.lines.n c.lines.at c.in-Some.k node (line.By c.in-By.claim c.in-By.reason) c.in-Some.is c.read_node-node.ensures.tree c.in-By.ensures.line c.lines.invariant.serves)

pub is_right_line-requires-clause-claim : goal.is_right_line-requires-clause-claim
is_right_line-requires-clause-claim t c =
    let trees = trees_of c.args.s.now in
    (c.in-By.ensures.live (length trees) (child_live (length trees) c.lines.at c.in-Some.k c.read_node-node.result.first c.in-Some.is c.lines.invariant.live c.read_node-node.ensures.first)).0

pub is_right_line-requires-clause-reason : goal.is_right_line-requires-clause-reason
is_right_line-requires-clause-reason t c =
    let trees = trees_of c.args.s.now in
    (c.in-By.ensures.live (length trees) (child_live (length trees) c.lines.at c.in-Some.k c.read_node-node.result.first c.in-Some.is c.lines.invariant.live c.read_node-node.ensures.first)).1

pub returns-then-not-is_right_line : goal.returns-then-not-is_right_line
returns-then-not-is_right_line t c =
    let trees = trees_of c.args.s.now in
    let node = c.read_node-node.result in
    let all = lines_of (tree_at trees c.args.s.now.lines) in
    let s = sight_of c.args.s.now in
    let g = assumed_of trees c.args.assumed in
    let rest = lines_of (tree_at trees node.second) in
    by_bad all s g c.lines.n (statement_of trees c.in-By.claim) (tree_at trees c.in-By.reason) rest c.is_right_line.result c.is_right_line.ensures c.if-not-is_right_line.true ∙ (by_at all s g c.lines.n trees c.lines.at c.in-Some.k c.read_node-node.result (line.By c.in-By.claim c.in-By.reason) c.in-Some.is c.read_node-node.ensures.tree c.in-By.ensures.line c.in-By.claim c.in-By.reason refl ∙ c.lines.invariant.same)

pub overflow_add-n : goal.overflow_add-n
overflow_add-n t c =
    let trees = trees_of c.args.s.now in
    let counted = count_by trees c.lines.at c.in-Some.k c.read_node-node.result (line.By c.in-By.claim c.in-By.reason) c.in-Some.is c.read_node-node.ensures.tree c.in-By.ensures.line c.in-By.claim c.in-By.reason refl in
    omega (arith, counted, c.lines.invariant.serves.fits)

pub lines-preserved-else-not-is_right_line : goal.lines-preserved-else-not-is_right_line
lines-preserved-else-not-is_right_line t c =
    let trees = trees_of c.args.s.now in
    let node = c.read_node-node.result in
    let all = lines_of (tree_at trees c.args.s.now.lines) in
    let s = sight_of c.args.s.now in
    let g = assumed_of trees c.args.assumed in
    let rest = lines_of (tree_at trees node.second) in
    let counted = count_by trees c.lines.at c.in-Some.k c.read_node-node.result (line.By c.in-By.claim c.in-By.reason) c.in-Some.is c.read_node-node.ensures.tree c.in-By.ensures.line c.in-By.claim c.in-By.reason refl in
    record {
      live = child_live (length trees) c.lines.at c.in-Some.k node.second c.in-Some.is c.lines.invariant.live c.read_node-node.ensures.second;
      less = child_above _ c.lines.at c.in-Some.k node.second c.in-Some.is c.lines.invariant.less c.read_node-node.ensures.second;
      serves = serves_next trees all c.lines.kept _ c.lines.n c.in-By.claim node.second (c.in-By.ensures.live (length trees) (child_live (length trees) c.lines.at c.in-Some.k node.first c.in-Some.is c.lines.invariant.live c.read_node-node.ensures.first)).0 (child_live (length trees) c.lines.at c.in-Some.k node.second c.in-Some.is c.lines.invariant.live c.read_node-node.ensures.second) (tree_at trees c.in-By.reason) (serves_at trees all c.lines.kept c.lines.n c.lines.at c.in-Some.k node (line.By c.in-By.claim c.in-By.reason) c.in-Some.is c.read_node-node.ensures.tree c.in-By.ensures.line c.lines.invariant.serves) (λ m a i. c.keep.ensures trees all m a i);
      same = by_good all s g c.lines.n (statement_of trees c.in-By.claim) (tree_at trees c.in-By.reason) rest c.is_right_line.result c.is_right_line.ensures c.if-not-is_right_line.false ∙ (by_at all s g c.lines.n trees c.lines.at c.in-Some.k c.read_node-node.result (line.By c.in-By.claim c.in-By.reason) c.in-Some.is c.read_node-node.ensures.tree c.in-By.ensures.line c.in-By.claim c.in-By.reason refl ∙ c.lines.invariant.same);
    }

pub count-requires-clause-live : goal.count-requires-clause-live
count-requires-clause-live t c =
    let trees = trees_of c.args.s.now in
    (c.in-Cases.ensures.live (length trees) (child_live (length trees) c.lines.at c.in-Some.k c.read_node-node.result.first c.in-Some.is c.lines.invariant.live c.read_node-node.ensures.first)).1

pub count-requires-clause-fits : goal.count-requires-clause-fits
count-requires-clause-fits t c =
    let trees = trees_of c.args.s.now in
    let counted = count_cases trees c.lines.at c.in-Some.k c.read_node-node.result (line.Cases c.in-Cases.condition c.in-Cases.first c.in-Cases.second c.in-Cases.conclusion) c.in-Some.is c.read_node-node.ensures.tree c.in-Cases.ensures.line c.in-Cases.condition c.in-Cases.first c.in-Cases.second c.in-Cases.conclusion refl in
    omega (arith, counted, c.lines.invariant.serves.fits)

pub overflow_add-middle : goal.overflow_add-middle
overflow_add-middle t c =
    let trees = trees_of c.args.s.now in
    let counted = count_cases trees c.lines.at c.in-Some.k c.read_node-node.result (line.Cases c.in-Cases.condition c.in-Cases.first c.in-Cases.second c.in-Cases.conclusion) c.in-Some.is c.read_node-node.ensures.tree c.in-Cases.ensures.line c.in-Cases.condition c.in-Cases.first c.in-Cases.second c.in-Cases.conclusion refl in
    omega (arith, counted, c.lines.invariant.serves.fits, c.count.ensures)

pub count-requires-in-Cases-clause-live : goal.count-requires-in-Cases-clause-live
count-requires-in-Cases-clause-live t c =
    let trees = trees_of c.args.s.now in
    (c.in-Cases.ensures.live (length trees) (child_live (length trees) c.lines.at c.in-Some.k c.read_node-node.result.first c.in-Some.is c.lines.invariant.live c.read_node-node.ensures.first)).2

pub count-requires-in-Cases-clause-fits : goal.count-requires-in-Cases-clause-fits
count-requires-in-Cases-clause-fits t c =
    let trees = trees_of c.args.s.now in
    let counted = count_cases trees c.lines.at c.in-Some.k c.read_node-node.result (line.Cases c.in-Cases.condition c.in-Cases.first c.in-Cases.second c.in-Cases.conclusion) c.in-Some.is c.read_node-node.ensures.tree c.in-Cases.ensures.line c.in-Cases.condition c.in-Cases.first c.in-Cases.second c.in-Cases.conclusion refl in
    omega (arith, counted, c.lines.invariant.serves.fits)

pub overflow_add-end : goal.overflow_add-end
overflow_add-end t c =
    let trees = trees_of c.args.s.now in
    let counted = count_cases trees c.lines.at c.in-Some.k c.read_node-node.result (line.Cases c.in-Cases.condition c.in-Cases.first c.in-Cases.second c.in-Cases.conclusion) c.in-Some.is c.read_node-node.ensures.tree c.in-Cases.ensures.line c.in-Cases.condition c.in-Cases.first c.in-Cases.second c.in-Cases.conclusion refl in
    omega (arith, counted, c.lines.invariant.serves.fits, c.count.ensures, c.count-in-Cases.ensures)

pub first_bad-requires : goal.first_bad-requires
first_bad-requires t c =
    let trees = trees_of c.args.s.now in
    let served = serves_at trees (lines_of (tree_at trees c.args.s.now.lines)) c.lines.kept c.lines.n c.lines.at c.in-Some.k c.read_node-node.result (line.Cases c.in-Cases.condition c.in-Cases.first c.in-Cases.second c.in-Cases.conclusion) c.in-Some.is c.read_node-node.ensures.tree c.in-Cases.ensures.line c.lines.invariant.serves in
    let l = c.in-Cases.ensures.live c.in-Some.k.0 c.read_node-node.ensures.first in
    let known = above_some c.lines.at c.in-Some.k c.in-Some.is in
    let part = above_child c.in-Some.k.0 c.in-Cases.first l.1 in
    let less : above c.in-Cases.first < above c.args.lines = omega (arith, known, part, c.lines.invariant.less) in
    (search rules, (c.requires.sees, ((c.in-Cases.ensures.live (length trees) (child_live (length trees) c.lines.at c.in-Some.k c.read_node-node.result.first c.in-Some.is c.lines.invariant.live c.read_node-node.ensures.first)).0, ((c.in-Cases.ensures.live (length trees) (child_live (length trees) c.lines.at c.in-Some.k c.read_node-node.result.first c.in-Some.is c.lines.invariant.live c.read_node-node.ensures.first)).1, serves_first trees (lines_of (tree_at trees c.args.s.now.lines)) c.lines.kept c.lines.n (tree_at trees c.in-Cases.condition) (lines_of (tree_at trees c.in-Cases.first)) (lines_of (tree_at trees c.in-Cases.second)) (tree_at trees c.in-Cases.conclusion) (lines_of (tree_at trees c.read_node-node.result.second)) served c.lines.kept (λ m a. a)))))

pub first_bad-requires-in-Cases : goal.first_bad-requires-in-Cases
first_bad-requires-in-Cases t c =
    let trees = trees_of c.args.s.now in
    let served = serves_at trees (lines_of (tree_at trees c.args.s.now.lines)) c.lines.kept c.lines.n c.lines.at c.in-Some.k c.read_node-node.result (line.Cases c.in-Cases.condition c.in-Cases.first c.in-Cases.second c.in-Cases.conclusion) c.in-Some.is c.read_node-node.ensures.tree c.in-Cases.ensures.line c.lines.invariant.serves in
    let l = c.in-Cases.ensures.live c.in-Some.k.0 c.read_node-node.ensures.first in
    let known = above_some c.lines.at c.in-Some.k c.in-Some.is in
    let part = above_child c.in-Some.k.0 c.in-Cases.second l.2 in
    let less : above c.in-Cases.second < above c.args.lines = omega (arith, known, part, c.lines.invariant.less) in
    (search rules, (c.requires.sees, ((c.in-Cases.ensures.live (length trees) (child_live (length trees) c.lines.at c.in-Some.k c.read_node-node.result.first c.in-Some.is c.lines.invariant.live c.read_node-node.ensures.first)).0, ((c.in-Cases.ensures.live (length trees) (child_live (length trees) c.lines.at c.in-Some.k c.read_node-node.result.first c.in-Some.is c.lines.invariant.live c.read_node-node.ensures.first)).2, serves_second trees (lines_of (tree_at trees c.args.s.now.lines)) c.lines.kept c.lines.n (tree_at trees c.in-Cases.condition) (lines_of (tree_at trees c.in-Cases.first)) (lines_of (tree_at trees c.in-Cases.second)) (tree_at trees c.in-Cases.conclusion) (lines_of (tree_at trees c.read_node-node.result.second)) served c.lines.kept (λ m a. a) (c.lines.n + c.count.result) (ap (λ x. c.lines.n + x) c.count.ensures)))))

pub is_right_split-requires-clause-condition : goal.is_right_split-requires-clause-condition
is_right_split-requires-clause-condition t c =
    let trees = trees_of c.args.s.now in
    (c.in-Cases.ensures.live (length trees) (child_live (length trees) c.lines.at c.in-Some.k c.read_node-node.result.first c.in-Some.is c.lines.invariant.live c.read_node-node.ensures.first)).0

pub is_right_split-requires-clause-first : goal.is_right_split-requires-clause-first
is_right_split-requires-clause-first t c =
    let trees = trees_of c.args.s.now in
    (c.in-Cases.ensures.live (length trees) (child_live (length trees) c.lines.at c.in-Some.k c.read_node-node.result.first c.in-Some.is c.lines.invariant.live c.read_node-node.ensures.first)).1

pub is_right_split-requires-clause-second : goal.is_right_split-requires-clause-second
is_right_split-requires-clause-second t c =
    let trees = trees_of c.args.s.now in
    (c.in-Cases.ensures.live (length trees) (child_live (length trees) c.lines.at c.in-Some.k c.read_node-node.result.first c.in-Some.is c.lines.invariant.live c.read_node-node.ensures.first)).2

pub is_right_split-requires-clause-conclusion : goal.is_right_split-requires-clause-conclusion
is_right_split-requires-clause-conclusion t c =
    let trees = trees_of c.args.s.now in
    (c.in-Cases.ensures.live (length trees) (child_live (length trees) c.lines.at c.in-Some.k c.read_node-node.result.first c.in-Some.is c.lines.invariant.live c.read_node-node.ensures.first)).3

pub returns-in-Some-first_bad : goal.returns-in-Some-first_bad
returns-in-Some-first_bad t c =
    let trees = trees_of c.args.s.now in
    let node = c.read_node-node.result in
    let all = lines_of (tree_at trees c.args.s.now.lines) in
    let s = sight_of c.args.s.now in
    let g = assumed_of trees c.args.assumed in
    let rest = lines_of (tree_at trees node.second) in
    first_block all s g c.lines.n (tree_at trees c.in-Cases.condition) (lines_of (tree_at trees c.in-Cases.first)) (lines_of (tree_at trees c.in-Cases.second)) (tree_at trees c.in-Cases.conclusion) rest c.first_bad.result c.first_bad.ensures c.in-Some-first_bad.bad c.in-Some-first_bad.is ∙ (cases_at all s g c.lines.n trees c.lines.at c.in-Some.k c.read_node-node.result (line.Cases c.in-Cases.condition c.in-Cases.first c.in-Cases.second c.in-Cases.conclusion) c.in-Some.is c.read_node-node.ensures.tree c.in-Cases.ensures.line c.in-Cases.condition c.in-Cases.first c.in-Cases.second c.in-Cases.conclusion refl ∙ c.lines.invariant.same)

pub returns-in-Some-first_bad-2 : goal.returns-in-Some-first_bad-2
returns-in-Some-first_bad-2 t c =
    let trees = trees_of c.args.s.now in
    let node = c.read_node-node.result in
    let all = lines_of (tree_at trees c.args.s.now.lines) in
    let s = sight_of c.args.s.now in
    let g = assumed_of trees c.args.assumed in
    let rest = lines_of (tree_at trees node.second) in
    second_block all s g c.lines.n (tree_at trees c.in-Cases.condition) (lines_of (tree_at trees c.in-Cases.first)) (lines_of (tree_at trees c.in-Cases.second)) (tree_at trees c.in-Cases.conclusion) rest c.first_bad.result c.first_bad.ensures c.in_default-first_bad.is (c.lines.n + c.count.result) (ap (λ x. c.lines.n + x) c.count.ensures) c.first_bad-in-Cases.result c.first_bad-in-Cases.ensures c.in-Some-first_bad-2.bad c.in-Some-first_bad-2.is ∙ (cases_at all s g c.lines.n trees c.lines.at c.in-Some.k c.read_node-node.result (line.Cases c.in-Cases.condition c.in-Cases.first c.in-Cases.second c.in-Cases.conclusion) c.in-Some.is c.read_node-node.ensures.tree c.in-Cases.ensures.line c.in-Cases.condition c.in-Cases.first c.in-Cases.second c.in-Cases.conclusion refl ∙ c.lines.invariant.same)

pub returns-then-not-is_right_split : goal.returns-then-not-is_right_split
returns-then-not-is_right_split t c =
    let trees = trees_of c.args.s.now in
    let node = c.read_node-node.result in
    let all = lines_of (tree_at trees c.args.s.now.lines) in
    let s = sight_of c.args.s.now in
    let g = assumed_of trees c.args.assumed in
    let rest = lines_of (tree_at trees node.second) in
    split_bad all s g c.lines.n (tree_at trees c.in-Cases.condition) (lines_of (tree_at trees c.in-Cases.first)) (lines_of (tree_at trees c.in-Cases.second)) (tree_at trees c.in-Cases.conclusion) rest c.first_bad.result c.first_bad.ensures c.in_default-first_bad.is (c.lines.n + c.count.result) (ap (λ x. c.lines.n + x) c.count.ensures) c.first_bad-in-Cases.result c.first_bad-in-Cases.ensures c.in_default-first_bad-2.is (c.lines.n + c.count.result + c.count-in-Cases.result) (ap (λ x. c.lines.n + c.count.result + x) c.count-in-Cases.ensures) c.is_right_split.result c.is_right_split.ensures c.if-not-is_right_split.true ∙ (cases_at all s g c.lines.n trees c.lines.at c.in-Some.k c.read_node-node.result (line.Cases c.in-Cases.condition c.in-Cases.first c.in-Cases.second c.in-Cases.conclusion) c.in-Some.is c.read_node-node.ensures.tree c.in-Cases.ensures.line c.in-Cases.condition c.in-Cases.first c.in-Cases.second c.in-Cases.conclusion refl ∙ c.lines.invariant.same)

pub overflow_add-n-in-Cases : goal.overflow_add-n-in-Cases
overflow_add-n-in-Cases t c =
    let trees = trees_of c.args.s.now in
    let counted = count_cases trees c.lines.at c.in-Some.k c.read_node-node.result (line.Cases c.in-Cases.condition c.in-Cases.first c.in-Cases.second c.in-Cases.conclusion) c.in-Some.is c.read_node-node.ensures.tree c.in-Cases.ensures.line c.in-Cases.condition c.in-Cases.first c.in-Cases.second c.in-Cases.conclusion refl in
    omega (arith, counted, c.lines.invariant.serves.fits, c.count.ensures, c.count-in-Cases.ensures)

pub lines-preserved : goal.lines-preserved
lines-preserved t c =
    let trees = trees_of c.args.s.now in
    let node = c.read_node-node.result in
    let all = lines_of (tree_at trees c.args.s.now.lines) in
    let s = sight_of c.args.s.now in
    let g = assumed_of trees c.args.assumed in
    let rest = lines_of (tree_at trees node.second) in
    let counted = count_cases trees c.lines.at c.in-Some.k c.read_node-node.result (line.Cases c.in-Cases.condition c.in-Cases.first c.in-Cases.second c.in-Cases.conclusion) c.in-Some.is c.read_node-node.ensures.tree c.in-Cases.ensures.line c.in-Cases.condition c.in-Cases.first c.in-Cases.second c.in-Cases.conclusion refl in
    let served = serves_at trees (lines_of (tree_at trees c.args.s.now.lines)) c.lines.kept c.lines.n c.lines.at c.in-Some.k c.read_node-node.result (line.Cases c.in-Cases.condition c.in-Cases.first c.in-Cases.second c.in-Cases.conclusion) c.in-Some.is c.read_node-node.ensures.tree c.in-Cases.ensures.line c.lines.invariant.serves in
    record {
      live = child_live (length trees) c.lines.at c.in-Some.k node.second c.in-Some.is c.lines.invariant.live c.read_node-node.ensures.second;
      less = child_above _ c.lines.at c.in-Some.k node.second c.in-Some.is c.lines.invariant.less c.read_node-node.ensures.second;
      serves = serves_rest trees all c.lines.kept _ c.lines.n (tree_at trees c.in-Cases.condition) (lines_of (tree_at trees c.in-Cases.first)) (lines_of (tree_at trees c.in-Cases.second)) (claim.Holds c.in-Cases.conclusion) (tree_at trees c.in-Cases.conclusion) node.second (c.in-Cases.ensures.live (length trees) (child_live (length trees) c.lines.at c.in-Some.k node.first c.in-Some.is c.lines.invariant.live c.read_node-node.ensures.first)).3 (child_live (length trees) c.lines.at c.in-Some.k node.second c.in-Some.is c.lines.invariant.live c.read_node-node.ensures.second) refl served (c.lines.n + c.count.result + c.count-in-Cases.result) (ap₂ (λ x y. c.lines.n + x + y) c.count.ensures c.count-in-Cases.ensures) (λ m a i. c.keep-in-Cases.ensures trees all m a i);
      same = split_good all s g c.lines.n (tree_at trees c.in-Cases.condition) (lines_of (tree_at trees c.in-Cases.first)) (lines_of (tree_at trees c.in-Cases.second)) (tree_at trees c.in-Cases.conclusion) rest c.first_bad.result c.first_bad.ensures c.in_default-first_bad.is (c.lines.n + c.count.result) (ap (λ x. c.lines.n + x) c.count.ensures) c.first_bad-in-Cases.result c.first_bad-in-Cases.ensures c.in_default-first_bad-2.is (c.lines.n + c.count.result + c.count-in-Cases.result) (ap (λ x. c.lines.n + c.count.result + x) c.count-in-Cases.ensures) c.is_right_split.result c.is_right_split.ensures c.if-not-is_right_split.false ∙ (cases_at all s g c.lines.n trees c.lines.at c.in-Some.k c.read_node-node.result (line.Cases c.in-Cases.condition c.in-Cases.first c.in-Cases.second c.in-Cases.conclusion) c.in-Some.is c.read_node-node.ensures.tree c.in-Cases.ensures.line c.in-Cases.condition c.in-Cases.first c.in-Cases.second c.in-Cases.conclusion refl ∙ c.lines.invariant.same);
    }

pub returns : goal.returns
returns t c =
    let trees = trees_of c.args.s.now in
    let all = lines_of (tree_at trees c.args.s.now.lines) in
    let s = sight_of c.args.s.now in
    let g = assumed_of trees c.args.assumed in
    bad_none all s g c.lines.n (tree_at trees c.lines.at) (empty_at trees c.lines.at c.in_default.is) ∙ c.lines.invariant.same
