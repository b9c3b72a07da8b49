use Rattle.std.proofs.Common.{◌+◌, arith, ap, ◌∙◌}
use Rattle.cv_parse.specs.Weights.{capped}
use Rattle.cv_parse.proofs.Sizes.{measured_depth, measured_next, measured_nodes}
use Rattle.cv_parse.proofs.measuring.measure.Goals as goal

pub parts-preserved : goal.parts-preserved
parts-preserved c = measured_next c.args.makes.now c.parts.make-index c.parts.nodes _ c.parts.depths.items _ c.parts.invariant c.parts-test.true (c.saturating_add-nodes.ensures ∙ ap (λ n. capped (c.parts.nodes + n)) c.part_size.ensures) c.in_ok-put.ensures

pub returns-clause-nodes : goal.returns-clause-nodes
returns-clause-nodes c = λ t e. measured_nodes c.args.makes.now c.parts.make-index c.parts.nodes c.parts.depths.items t c.parts.invariant c.parts-test.false e

pub returns-clause-depth : goal.returns-clause-depth
returns-clause-depth c = λ t e. c.unwrap_or.ensures ∙ measured_depth c.args.makes.now c.parts.make-index c.parts.nodes c.parts.depths.items _ _ t c.parts.invariant c.parts-test.false e c.pop.ensures.items (λ l. c.pop.ensures.variant.1 (omega arith))
