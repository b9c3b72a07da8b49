use Rattle.std.proofs.Common.{ap}
use Rattle.cv_syntax.specs.PoolTrees.{tree_at}
use Rattle.cv_scene.specs.lines.Lines.{Holds, IsDefined}
use Rattle.cv_derive_lines.specs.Views.{statement_of}
use Rattle.cv_derive_lines.specs.citing.Bookmarks.{visible_to}
use Rattle.cv_derive.specs.Seen.{assumed_of, sight_of, trees_of}
use Rattle.cv_derive.proofs.Reasoning.{seen, typed_line, untyped_line}
use Rattle.cv_derive.proofs.reasons.is_right.Goals as goal

pub returns-then-not-is_typed_claim : goal.returns-then-not-is_typed_claim
returns-then-not-is_typed_claim c =
    let s = c.args.s.now in
    let trees = trees_of s in
    untyped_line (sight_of s) (assumed_of trees c.args.assumed) (visible_to trees c.args.citing.now) (statement_of trees c.args.claim) (tree_at trees c.args.reason) c.is_typed_claim.result (c.is_typed_claim.ensures (sight_of s) (seen s c.requires.sees)) c.if-not-is_typed_claim.true

pub returns-in-Holds : goal.returns-in-Holds
returns-in-Holds c =
    let s = c.args.s.now in
    let trees = trees_of s in
    typed_line (sight_of s) (assumed_of trees c.args.assumed) (visible_to trees c.args.citing.now) (statement_of trees c.args.claim) (Holds (tree_at trees c.in-Holds.term)) (tree_at trees c.args.reason) c.is_typed_claim.result c.is_reason.result (c.is_typed_claim.ensures (sight_of s) (seen s c.requires.sees)) c.if-not-is_typed_claim.false (ap (statement_of trees) c.in-Holds.is) c.is_reason.ensures

pub returns-in-IsDefined : goal.returns-in-IsDefined
returns-in-IsDefined c =
    let s = c.args.s.now in
    let trees = trees_of s in
    typed_line (sight_of s) (assumed_of trees c.args.assumed) (visible_to trees c.args.citing.now) (statement_of trees c.args.claim) (IsDefined (tree_at trees c.in-IsDefined.cell)) (tree_at trees c.args.reason) c.is_typed_claim.result c.is_reason_of_cell.result (c.is_typed_claim.ensures (sight_of s) (seen s c.requires.sees)) c.if-not-is_typed_claim.false (ap (statement_of trees) c.in-IsDefined.is) c.is_reason_of_cell.ensures
