use Rattle.std.proofs.Common.{ap, append-nil, length, map, sym, ◌++◌, ◌∙◌}
use Rattle.std.proofs.lemmas.List.Elements.{All-push, All-same}
use Rattle.cv_syntax.specs.PoolTrees.{tree_at}
use Rattle.cv_syntax.proofs.Trees.{child_live, empty_at}
use Rattle.cv_derive_lines.specs.Views.{IsClaimBelow, statement_of}
use Rattle.cv_rule_pick.proofs.Saying.{claim_at, none_said, said_more}
use Rattle.cv_rule_pick.proofs.targets.claims.Goals as goal

pub lines-preserved : goal.lines-preserved
lines-preserved c =
    let trees = c.args.pool.now.trees in
    let node = c.read_node-node.result in
    let here = claim_at trees c.lines.at c.in-Some.k node c.line_of.result c.claim_of.result c.in-Some.is c.read_node-node.ensures.tree c.line_of.ensures.line c.claim_of.ensures.claim in
    let live = c.claim_of.ensures.live (length trees) (c.line_of.ensures.live (length trees) (child_live (length trees) c.lines.at c.in-Some.k node.first c.in-Some.is c.lines.invariant.live c.read_node-node.ensures.first)) in
    record {
      live = child_live (length trees) c.lines.at c.in-Some.k node.second c.in-Some.is c.lines.invariant.live c.read_node-node.ensures.second;
      below = All-same (IsClaimBelow (length trees)) _ _ c.in_ok-push.ensures.items (All-push (IsClaimBelow (length trees)) c.lines.claims.items c.claim_of.result c.lines.invariant.below live);
      said = said_more (statement_of trees) c.lines.claims.items c.push.new.self.items c.claim_of.result _ _ c.in_ok-push.ensures.items (ap (λ l. map (statement_of trees) c.lines.claims.items ++ l) here ∙ c.lines.invariant.said);
    }

pub returns-clause-said : goal.returns-clause-said
returns-clause-said c =
    let trees = c.args.pool.now.trees in
    let said = map (statement_of trees) c.lines.claims.items in
    sym (append-nil said) ∙ (ap (λ l. said ++ l) (sym (none_said (tree_at trees c.lines.at) (empty_at trees c.lines.at c.in_default.is))) ∙ c.lines.invariant.said)
