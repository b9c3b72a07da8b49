use Rattle.std.proofs.Common.{arith}
use Rattle.cv_query_parts.specs.pairs.Routes.{IsIndexBelow}
use Rattle.cv_query_parts.proofs.pairs.Meeting.{one_more, own_done, own_more}
use Rattle.cv_query_parts.proofs.pairs.routes.own_indices.Goals as goal

pub rows-preserved : goal.rows-preserved
rows-preserved c = record {
  found = λ n. one_more (IsIndexBelow n) c.rows.found.items c.push.new.self.items _ (c.rows.invariant.found n) tt c.in_ok-push.ensures.items;
  same = λ trees. own_more trees c.args.rows.now c.rows.k c.rows.found.items c.push.new.self.items _ c.rows-test.true c.in_ok-push.ensures.items (c.rows.invariant.same trees);
}

pub returns-clause-trees : goal.returns-clause-trees
returns-clause-trees c = λ trees. own_done trees c.args.rows.now c.rows.k c.rows.found.items _ (omega arith) (c.rows.invariant.same trees)
