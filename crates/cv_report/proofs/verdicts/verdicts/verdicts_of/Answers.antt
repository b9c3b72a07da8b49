use Rattle.std.proofs.Common.{◌≡◌, ◌+◌, ◌++◌, drop, suc, arith, ap, length, sym, ◌∙◌}
use Rattle.cv_bound.specs.closings.Queries.{sum_in}
use Rattle.cv_syntax.specs.Classes.{queries}
use Rattle.cv_report.specs.verdicts.Verdicts.{verdict_by, verdicts_by}
use Rattle.cv_report.proofs.verdicts.OneByOne.{no_query, some_query, verdict_put, verdict_skip}
use Rattle.cv_report.proofs.verdicts.verdicts.verdicts_of.Goals as goal

pub decls-preserved-then-is_none : goal.decls-preserved-then-is_none
decls-preserved-then-is_none c =
    let i = c.decls.invariant in
    let list = c.args.decls.now.list in
    record {
      verdicts = verdict_skip (sum_in c.args.closed.now) c.decls.number list c.decls.k c.decls.verdicts.items _ (omega (arith, c.decls-test.true, c.len-k-end.ensures)) (sym c.query_at.ensures ∙ no_query _ _ c.is_none.ensures c.if-is_none.true) i.verdicts;
      number = (let n = i.number in omega arith);
      few = (let n = i.few in omega arith);
    }

pub decls-preserved : goal.decls-preserved
decls-preserved c =
    let i = c.decls.invariant in
    let list = c.args.decls.now.list in
    let q = some_query _ _ c.is_none.ensures c.if-is_none.false in
    let next : c.decls.number + 1 ≡ suc c.decls.number = omega arith in
    let put = c.in_ok-push.ensures.items in
    record {
      verdicts = ap (λ m. c.push.new.self.items ++ verdicts_by (sum_in c.args.closed.now) m (queries (drop (c.decls.k + 1) list))) (ap suc next) ∙ verdict_put (sum_in c.args.closed.now) c.decls.number list c.decls.k q.0 c.decls.verdicts.items c.push.new.self.items _ _ (sym c.query_at.ensures ∙ q.1) (c.in_ok-verdict_of.ensures ∙ ap verdict_by (c.sum.ensures ∙ ap (sum_in c.args.closed.now) next)) put i.verdicts;
      number = (let n = i.number in omega arith);
      few = (let n = i.few in let l = ap length put in omega arith);
    }
