use Rattle.std.proofs.Common.{◌-◌, ◌^◌, get_or, refl, arith, ◌∙◌, lit≤}
use Rattle.cv_syntax.specs.declared.make.Make.TheVariants.{Nothing}
use Rattle.cv_parse_names.specs.indices.Current.{numbers_of}
use Rattle.cv_parse_names.proofs.indices.Weighing.{counts_first, counts_step, counts_end, rises_first, rises_step, rises_end}
use Rattle.cv_parse_names.proofs.indices.Stacking.{nothing_descends, opened_descends}
use Rattle.cv_parse_names.proofs.indices.measuring.measure.Goals as goal

pub parts-init : goal.parts-init
parts-init c = record {
  within = omega arith;
  descends = nothing_descends c.new-current.result c.new-stack.result.items c.new-stack.ensures.items;
  counts = λ t e. counts_first (numbers_of c.in_ok-sites.sites) (2 ^ 64 - 1) c.args.makes.now t c.new-current.result c.new-stack.result.items c.new-stack.ensures.items e;
  rises = λ t e. rises_first (numbers_of c.in_ok-sites.sites) (2 ^ 64 - 1) c.args.makes.now t c.new-current.result c.new-stack.result.items c.new-aboves.result.items c.new-stack.ensures.items c.new-aboves.ensures.items e;
}

pub parts-preserved : goal.parts-preserved
parts-preserved c =
    let make = get_or c.args.makes.now (c.parts.at - 1) Nothing in
    let popped = c.next_context-context.ensures c.parts.current c.parts.invariant.descends in
    record {
      within = omega arith;
      descends = opened_descends c.parts.current c.open.new.current c.parts.stack.items c.next_context-context.new.stack.items c.open.new.stack.items c.next_context-context.result make popped c.in_ok-open.ensures.stack c.in_ok-open.ensures.current;
      counts = λ t e.
          counts_step (numbers_of c.in_ok-sites.sites) (2 ^ 64 - 1) c.args.makes.now (c.parts.at - 1) c.parts.at t c.parts.current c.open.new.current c.parts.stack.items c.next_context-context.new.stack.items c.open.new.stack.items c.next_context-context.result make
          c.parts.nodes c.weigh-weight.result.nodes c.saturating_add-nodes.result (omega arith) (omega arith) refl popped c.in_ok-open.ensures.stack c.in_ok-open.ensures.current c.weigh-weight.ensures.nodes c.saturating_add-nodes.ensures (c.parts.invariant.counts t e);
      rises = λ t e.
          rises_step (numbers_of c.in_ok-sites.sites) (2 ^ 64 - 1) c.args.makes.now (c.parts.at - 1) c.parts.at t c.parts.current c.open.new.current c.parts.stack.items c.next_context-context.new.stack.items c.open.new.stack.items c.next_context-context.result make
          c.parts.aboves.items c.next_above.new.aboves.items c.open_twice.new.aboves.items c.next_above.result c.saturating_add-below.result c.weigh-weight.result.depth c.parts.depth c.max-depth.result
          (omega arith) (omega arith) refl popped c.in_ok-open.ensures.stack c.in_ok-open.ensures.current c.next_above.ensures.first c.next_above.ensures.others c.in_ok-open_twice.ensures c.weigh-weight.ensures.depth c.saturating_add-below.ensures c.max-depth.ensures (c.parts.invariant.rises t e);
    }

pub returns-clause-nodes : goal.returns-clause-nodes
returns-clause-nodes c = λ t e. c.saturated.ensures ∙ counts_end (numbers_of c.in_ok-sites.sites) (2 ^ 64 - 1) 4294967295 c.args.makes.now c.parts.at t c.parts.current c.parts.stack.items c.parts.nodes (omega arith) (lit≤ tt) (c.in_ok-sites.ensures t e) (c.parts.invariant.counts t e)

pub returns-clause-depth : goal.returns-clause-depth
returns-clause-depth c = λ t e. c.saturated-2.ensures ∙ rises_end (numbers_of c.in_ok-sites.sites) (2 ^ 64 - 1) 4294967295 c.args.makes.now c.parts.at t c.parts.current c.parts.stack.items c.parts.aboves.items c.parts.depth (omega arith) (lit≤ tt) (c.in_ok-sites.ensures t e) (c.parts.invariant.rises t e)
