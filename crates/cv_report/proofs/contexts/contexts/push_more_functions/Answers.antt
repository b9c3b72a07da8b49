use Rattle.std.proofs.Common.{◌++◌, ◌∙◌, ap, codes, arith}
use Rattle.cv_context.specs.products.ShapesInCode.{calls_in}
use Rattle.cv_report.specs.contexts.Contexts.{calls_text}
use Rattle.cv_report.proofs.contexts.Marked.{marked_goes, viewed_end}
use Rattle.cv_report.proofs.contexts.contexts.push_more_functions.Goals as goal

pub calls-preserved : goal.calls-preserved
calls-preserved c =
    marked_goes (codes ", ") (λ x. calls_text c.args.names.now c.args.order.now (calls_in x)) c.args.calls.now c.calls.k c.index-calls-k.result c.args.out.now.items c.calls.out.items c.extend_from_slice.new.self.items c.push_calls.new.out.items (omega arith) c.calls.invariant c.in_ok-extend_from_slice.ensures.items
    (c.in_ok-push_calls.ensures ∙ ap (λ x. c.extend_from_slice.new.self.items ++ calls_text c.args.names.now c.args.order.now (calls_in x)) c.index-calls-k.is)

pub returns : goal.returns
returns c =
    viewed_end (λ x. codes ", " ++ calls_text c.args.names.now c.args.order.now x) calls_in c.args.calls.now c.calls.k c.args.out.now.items c.calls.out.items (omega arith) c.calls.invariant
