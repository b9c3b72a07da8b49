use Rattle.std.proofs.Common.{◌∙◌, arith, sym}
use Rattle.cv_costs.specs.Factors.{with_parameter}
use Rattle.cv_costs.proofs.Factors.{grown, passed, placed, put_end}
use Rattle.cv_costs.proofs.products.add_parameter.Goals as goal

pub returns-then-n-x : goal.returns-then-n-x
returns-then-n-x c =
    grown c.args.order.now c.args.n c.factors.factors.items (with_parameter c.args.order.now c.args.n c.args.factors.now.items) c.factors.k c.factors.invariant.goes c.index.result.now (omega arith) c.index.ensures (omega arith) c.index_mut.result.now c.index_mut.ensures.value

pub returns-then-is_before : goal.returns-then-is_before
returns-then-is_before c =
    placed c.args.order.now c.args.n c.factors.factors.items (with_parameter c.args.order.now c.args.n c.args.factors.now.items) c.factors.k c.factors.invariant.goes c.index.result.now (omega arith) c.index.ensures (omega arith) (sym c.is_before.ensures ∙ c.if-is_before.true) c.insert.new.self.items c.in_ok-insert.ensures.items

pub factors-preserved : goal.factors-preserved
factors-preserved c = record {
  same = c.factors.invariant.same;
  goes = passed c.args.order.now c.args.n c.factors.factors.items (with_parameter c.args.order.now c.args.n c.args.factors.now.items) c.factors.k c.factors.invariant.goes c.index.result.now (omega arith) c.index.ensures (omega arith) (sym c.is_before.ensures ∙ c.if-is_before.false);
}

pub returns : goal.returns
returns c =
    c.in_ok-push.ensures.items ∙ put_end c.args.order.now c.args.n c.factors.factors.items (with_parameter c.args.order.now c.args.n c.args.factors.now.items) c.factors.k c.factors.invariant.goes (omega arith)
