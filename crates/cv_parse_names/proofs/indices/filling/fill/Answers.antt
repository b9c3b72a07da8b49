use Rattle.std.proofs.Common.{◌-◌, get_or, refl, arith, ◌∙◌}
use Rattle.cv_syntax.specs.declared.make.Make.TheVariants.{Nothing}
use Rattle.cv_parse_names.specs.indices.Current.{numbers_of}
use Rattle.cv_parse_names.proofs.indices.Parting.{writes_first, writes_step, writes_end}
use Rattle.cv_parse_names.proofs.indices.Stacking.{nothing_descends, opened_descends}
use Rattle.cv_parse_names.proofs.indices.filling.fill.Goals as goal

pub parts-init : goal.parts-init
parts-init c = record {
  within = omega arith;
  descends = nothing_descends c.new-current.result c.new-stack.result.items c.new-stack.ensures.items;
  writes = λ t e. writes_first (numbers_of c.in_ok-sites.sites) c.args.makes.now t c.new-current.result c.new-stack.result.items c.new-parts.result.items c.new-current.ensures c.new-stack.ensures.items c.new-parts.ensures.items e;
}

pub parts-preserved : goal.parts-preserved
parts-preserved c =
    let make = get_or c.args.makes.now (c.parts.at - 1) Nothing in
    let popped = c.next_context-context.ensures c.parts.current c.parts.invariant.descends in
    record {
      within = omega arith;
      descends = opened_descends c.parts.current c.open.new.current c.parts.stack.items c.next_context-context.new.stack.items c.open.new.stack.items c.next_context-context.result make popped c.in_ok-open.ensures.stack c.in_ok-open.ensures.current;
      writes = λ t e.
          writes_step (numbers_of c.in_ok-sites.sites) c.args.makes.now (c.parts.at - 1) c.parts.at t c.parts.current c.open.new.current c.parts.stack.items c.next_context-context.new.stack.items c.open.new.stack.items c.next_context-context.result make c.parts.parts.items c.write_part.new.parts.items
          (omega arith) (omega arith) refl popped c.in_ok-open.ensures.stack c.in_ok-open.ensures.current c.in_ok-write_part.ensures (c.parts.invariant.writes t e);
    }

pub returns : goal.returns
returns c = λ t e. c.reverse.ensures.items ∙ writes_end (numbers_of c.in_ok-sites.sites) c.args.makes.now c.parts.at t c.parts.current c.parts.stack.items c.parts.parts.items (omega arith) (c.in_ok-sites.ensures t e) (c.parts.invariant.writes t e)
