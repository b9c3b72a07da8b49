use Rattle.std.proofs.Common.{arith}
use Rattle.cv_edit_names.proofs.branches.branch_at.Goals as goal

pub returns-clause-below : goal.returns-clause-below
returns-clause-below c = record {
  body = omega (arith, c.in_ok-link.ensures.live.first_below, c.in_ok-branch.ensures.live.second_below, c.in_ok-cells.ensures.live.second_below, c.in_ok-condition.ensures.live.second_below);
  more = c.in_ok-link.ensures.live.second_below;
}
