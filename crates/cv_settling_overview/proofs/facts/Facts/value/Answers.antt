use Rattle.std.proofs.Common.{refl}
use Rattle.cv_syntax.specs.PoolTrees.{tree_at}
use Rattle.cv_settling_overview.specs.Facts.{numbered}
use Rattle.std.specs.Prelude.{Some}
use Rattle.cv_settling_overview.proofs.Reading.{value_gone, value_is, value_only}
use Rattle.cv_settling_overview.proofs.facts.Facts.value.Goals as goal

pub returns-in_err-read-clause-only : goal.returns-in_err-read-clause-only
returns-in_err-read-clause-only c = λ single rs i x count m l live e.
    let trees = c.args.pool.now.trees in
    let node = c.in_ok-node.node in
    absurd (value_gone rs c.args.self.now.indices.items x count (numbered trees (Some m)) (tree_at trees (Some c.args.n)) node.head (tree_at trees node.first) (tree_at trees node.second) i l c.in_ok-node.ensures.tree e c.in_err-read.ensures)

pub returns-clause-some : goal.returns-clause-some
returns-clause-some c = (
  refl,
  λ rs i.
      let trees = c.args.pool.now.trees in
      let node = c.in_ok-node.node in
      value_is trees rs c.args.self.now.indices.items c.in_ok-read.read c.in-Some.term node.second (tree_at trees (Some c.args.n)) node.head (tree_at trees node.first) i c.in_ok-read.ensures c.in-Some.is c.in-Eq.is c.in_ok-node.ensures.tree,
)

pub returns-clause-only : goal.returns-clause-only
returns-clause-only c = λ single rs i x count m l live e.
    let trees = c.args.pool.now.trees in
    let node = c.in_ok-node.node in
    value_only trees rs c.args.self.now.indices.items c.in_ok-read.read c.args.n c.in-Some.term node.second (tree_at trees (Some c.args.n)) node.head (tree_at trees node.first) i c.in_ok-read.ensures c.in-Some.is c.in_ok-node.ensures.tree c.in_ok-node.ensures.live c.in_ok-node.ensures.second single x count m l live e
