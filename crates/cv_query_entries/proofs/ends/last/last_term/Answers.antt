use Rattle.std.proofs.Common.{◌≡◌, ◌≤◌, ◌∷◌, [], Some, suc, refl, drop, length, ap, sym, arith, ◌∙◌}
use Rattle.cv_syntax.specs.PoolTrees.{tree_at}
use Rattle.cv_syntax.proofs.Trees.{child_live, empty_at}
use Rattle.cv_scene.specs.lines.Ends.{is_end, same_statement}
use Rattle.cv_scene.specs.lines.Lines.{Holds, lines_of, statements}
use Rattle.cv_derive_lines.specs.Views.{statement_of}
use Rattle.cv_query_entries.proofs.ends.Ending.{no_end, nothing_last, one_last}
use Rattle.cv_query_entries.proofs.ends.Lines.{nothing_said, said_at, said_behind}
use Rattle.cv_query_entries.proofs.ends.last.last_term.Goals as goal

pub returns-in_default-clause-term : goal.returns-in_default-clause-term
returns-in_default-clause-term c = λ t.
    let trees = c.args.pool.now.trees in
    no_end (statements (lines_of (tree_at trees c.args.lines))) (Holds t) (nothing_said (tree_at trees c.args.lines) (empty_at trees c.args.lines c.in_default.is))

pub returns-in_default-last_lines-clause-term : goal.returns-in_default-last_lines-clause-term
returns-in_default-last_lines-clause-term c = λ t.
    let trees = c.args.pool.now.trees in
    let first = c.read_node-first.result in
    let ts = statements (lines_of (tree_at trees (Some c.in-Some.n))) in
    let said = said_behind trees (Some c.in-Some.n) c.in-Some.n first refl c.read_node-first.ensures.tree in
    let n : length ts ≡ suc (length (statements (lines_of (tree_at trees first.second)))) = ap length said in
    let l : 1 ≤ length ts = omega (arith, n) in
    nothing_last ts (Holds t) (statements (lines_of (tree_at trees c.last_lines.result))) l (c.last_lines.ensures.lines 1 (sym (ap (drop 1) said)) l) (nothing_said (tree_at trees c.last_lines.result) (empty_at trees c.last_lines.result c.in_default-last_lines.is))
    ∙ ap (λ o. is_end (statements (lines_of (tree_at trees o))) (Holds t ∷ [])) (sym c.in-Some.is)

pub returns-in-Holds-clause-term : goal.returns-in-Holds-clause-term
returns-in-Holds-clause-term c = λ t.
    let trees = c.args.pool.now.trees in
    let first = c.read_node-first.result in
    let last = c.read_node-last.result in
    let ts = statements (lines_of (tree_at trees (Some c.in-Some.n))) in
    let said = said_behind trees (Some c.in-Some.n) c.in-Some.n first refl c.read_node-first.ensures.tree in
    let n : length ts ≡ suc (length (statements (lines_of (tree_at trees first.second)))) = ap length said in
    let l : 1 ≤ length ts = omega (arith, n) in
    sym (ap (λ k. same_statement (statement_of trees k) (Holds t)) c.in-Holds.is)
    ∙ (one_last ts (Holds t) (statements (lines_of (tree_at trees c.last_lines.result))) l (c.last_lines.ensures.lines 1 (sym (ap (drop 1) said)) l) (statement_of trees c.claim_of.result) (statements (lines_of (tree_at trees last.second)))
    (said_at trees c.last_lines.result c.in-Some-last_lines.k last c.in-Some-last_lines.is c.read_node-last.ensures.tree c.line_of.result c.claim_of.result c.line_of.ensures.line c.claim_of.ensures.claim)
    ∙ ap (λ o. is_end (statements (lines_of (tree_at trees o))) (Holds t ∷ [])) (sym c.in-Some.is))

pub returns-in-Holds-clause-live : goal.returns-in-Holds-clause-live
returns-in-Holds-clause-live c =
    let n = length c.args.pool.now.trees in
    c.in-Holds.ensures.live n (c.line_of.ensures.live n (child_live n c.last_lines.result c.in-Some-last_lines.k c.read_node-last.result.first c.in-Some-last_lines.is c.last_lines.ensures.live c.read_node-last.ensures.first))

pub returns-in-IsDefined-clause-term : goal.returns-in-IsDefined-clause-term
returns-in-IsDefined-clause-term c = λ t.
    let trees = c.args.pool.now.trees in
    let first = c.read_node-first.result in
    let last = c.read_node-last.result in
    let ts = statements (lines_of (tree_at trees (Some c.in-Some.n))) in
    let said = said_behind trees (Some c.in-Some.n) c.in-Some.n first refl c.read_node-first.ensures.tree in
    let n : length ts ≡ suc (length (statements (lines_of (tree_at trees first.second)))) = ap length said in
    let l : 1 ≤ length ts = omega (arith, n) in
    sym (ap (λ k. same_statement (statement_of trees k) (Holds t)) c.in-IsDefined.is)
    ∙ (one_last ts (Holds t) (statements (lines_of (tree_at trees c.last_lines.result))) l (c.last_lines.ensures.lines 1 (sym (ap (drop 1) said)) l) (statement_of trees c.claim_of.result) (statements (lines_of (tree_at trees last.second)))
    (said_at trees c.last_lines.result c.in-Some-last_lines.k last c.in-Some-last_lines.is c.read_node-last.ensures.tree c.line_of.result c.claim_of.result c.line_of.ensures.line c.claim_of.ensures.claim)
    ∙ ap (λ o. is_end (statements (lines_of (tree_at trees o))) (Holds t ∷ [])) (sym c.in-Some.is))
