use Rattle.std.proofs.Common.{◌≡◌, ◌≤◌, ◌<◌, ◌∷◌, Some, suc, drop, length, refl, ap, sym, arith, ◌∙◌}
use Rattle.cv_syntax.specs.PoolTrees.{tree_at}
use Rattle.cv_syntax.proofs.Trees.{empty_at}
use Rattle.cv_scene.specs.lines.Ends.{is_end, same_statements}
use Rattle.cv_scene.specs.lines.Lines.{IsDefined, lines_of, statements}
use Rattle.cv_query_entries.specs.terms.Parts.{part_tree}
use Rattle.cv_query_entries.specs.ends.Said.{said_equal}
use Rattle.cv_query_entries.proofs.ends.Ending.{end_last, too_few}
use Rattle.cv_query_entries.proofs.ends.Lines.{nothing_said, said_behind}
use Rattle.cv_query_entries.proofs.ends.ends.ends_with_cell.Goals as goal

pub returns-in_default : goal.returns-in_default
returns-in_default c =
    let trees = c.args.pool.now.trees in
    let ts = statements (lines_of (tree_at trees c.args.by)) in
    let us = said_equal (part_tree trees c.args.left.now c.args.ms) (part_tree trees c.args.right.now c.args.ns) in
    let z : length ts ≡ 0 = ap length (nothing_said (tree_at trees c.args.by) (empty_at trees c.args.by c.in_default.is)) in
    let l : length ts < suc (length us) = omega (arith, z) in
    sym (too_few ts (IsDefined (tree_at trees c.args.cell) ∷ us) l)

pub returns-in_default-behind_equations : goal.returns-in_default-behind_equations
returns-in_default-behind_equations c =
    let trees = c.args.pool.now.trees in
    let line = c.read_node-line.result in
    let ts = statements (lines_of (tree_at trees c.args.by)) in
    let us = said_equal (part_tree trees c.args.left.now c.args.ms) (part_tree trees c.args.right.now c.args.ns) in
    let n : length ts ≡ suc (length (statements (lines_of (tree_at trees line.second)))) = ap length (said_behind trees c.args.by c.in-Some.k line c.in-Some.is c.read_node-line.ensures.tree) in
    let f = c.in_default-behind_equations.ensures.few refl in
    let l : length ts < suc (length us) = omega (arith, n, f) in
    sym (too_few ts (IsDefined (tree_at trees c.args.cell) ∷ us) l)

pub returns : goal.returns
returns c =
    let trees = c.args.pool.now.trees in
    let line = c.read_node-line.result in
    let ts = statements (lines_of (tree_at trees (Some c.in-Some.k))) in
    let us = said_equal (part_tree trees c.args.left.now c.args.ms) (part_tree trees c.args.right.now c.args.ns) in
    let said = said_behind trees (Some c.in-Some.k) c.in-Some.k line refl c.read_node-line.ensures.tree in
    let n : length ts ≡ suc (length (statements (lines_of (tree_at trees line.second)))) = ap length said in
    let l : suc (length us) ≤ length ts = omega (arith, n, c.in-Some-behind_equations.ensures.enough) in
    c.say_cell.ensures
    ∙ (ap (λ ls. same_statements ls (IsDefined (tree_at trees c.args.cell) ∷ us)) (c.last_lines-last.ensures.lines (suc (length us)) (c.in-Some-behind_equations.ensures.rest ∙ sym (ap (drop (suc (length us))) said)) l)
    ∙ (sym (end_last ts (IsDefined (tree_at trees c.args.cell) ∷ us) l) ∙ ap (λ o. is_end (statements (lines_of (tree_at trees o))) (IsDefined (tree_at trees c.args.cell) ∷ us)) (sym c.in-Some.is)))
