use Rattle.std.proofs.Common.{map, sym, ap, subst, ◌∙◌, arith}
use Rattle.std.specs.Prelude.{◌<◌, ◌^◌}
use Rattle.cv_edit_places.specs.Parts.{extent_of, laid, total_of}
use Rattle.cv_edit_places.proofs.Laying.{below, first_flat, over_fits, popped, pushed_over, second_flat}
use Rattle.cv_edit_places.proofs.building.add_extent.Goals as goal

pub extent_over-requires-clause-fits : goal.extent_over-requires-clause-fits
extent_over-requires-clause-fits c =
    let ts = c.requires.fits.0 in
    let p = popped ts _ c.pop.new.self.items c.pop.result c.requires.fits.1 c.pop.ensures.items (λ l. c.pop.ensures.variant.1 (omega arith)) in
    let q = popped (below ts) _ c.pop-in-Over.new.self.items c.pop-in-Over.result p.others c.pop-in-Over.ensures.items (λ l. c.pop-in-Over.ensures.variant.1 (omega arith)) in
    over_fits c.in-Over.head ts c.unwrap_or-first.result c.unwrap_or-second.result (c.unwrap_or-first.ensures ∙ q.newest) (c.unwrap_or-second.ensures ∙ p.newest)
    (subst (λ part. total_of (laid c.args.pool.now.trees part ts) < 2 ^ 32) c.in-Over.is c.requires.fits.2)

pub extent_over-requires-clause-first : goal.extent_over-requires-clause-first
extent_over-requires-clause-first c =
    let ts = c.requires.fits.0 in
    let p = popped ts _ c.pop.new.self.items c.pop.result c.requires.fits.1 c.pop.ensures.items (λ l. c.pop.ensures.variant.1 (omega arith)) in
    let q = popped (below ts) _ c.pop-in-Over.new.self.items c.pop-in-Over.result p.others c.pop-in-Over.ensures.items (λ l. c.pop-in-Over.ensures.variant.1 (omega arith)) in
    first_flat c.in-Over.head ts c.unwrap_or-first.result c.unwrap_or-second.result (c.unwrap_or-first.ensures ∙ q.newest) (c.unwrap_or-second.ensures ∙ p.newest)

pub extent_over-requires-clause-second : goal.extent_over-requires-clause-second
extent_over-requires-clause-second c =
    let ts = c.requires.fits.0 in
    let p = popped ts _ c.pop.new.self.items c.pop.result c.requires.fits.1 c.pop.ensures.items (λ l. c.pop.ensures.variant.1 (omega arith)) in
    let q = popped (below ts) _ c.pop-in-Over.new.self.items c.pop-in-Over.result p.others c.pop-in-Over.ensures.items (λ l. c.pop-in-Over.ensures.variant.1 (omega arith)) in
    second_flat c.in-Over.head ts c.unwrap_or-first.result c.unwrap_or-second.result (c.unwrap_or-first.ensures ∙ q.newest) (c.unwrap_or-second.ensures ∙ p.newest)

pub returns-in_ok-push-in-Over : goal.returns-in_ok-push-in-Over
returns-in_ok-push-in-Over c =
    λ ts e.
    let p = popped ts _ c.pop.new.self.items c.pop.result e c.pop.ensures.items (λ l. c.pop.ensures.variant.1 (omega arith)) in
    let q = popped (below ts) _ c.pop-in-Over.new.self.items c.pop-in-Over.result p.others c.pop-in-Over.ensures.items (λ l. c.pop-in-Over.ensures.variant.1 (omega arith)) in
    pushed_over c.in-Over.head ts c.unwrap_or-first.result c.unwrap_or-second.result (c.unwrap_or-first.ensures ∙ q.newest) (c.unwrap_or-second.ensures ∙ p.newest)
    c.push-in-Over.new.self.items c.pop-in-Over.new.self.items c.extent_over.result q.others c.in_ok-push-in-Over.ensures.items c.extent_over.ensures.nodes c.extent_over.ensures.depth
    ∙ ap (λ part. map extent_of (laid c.args.pool.now.trees part ts)) (sym c.in-Over.is)
