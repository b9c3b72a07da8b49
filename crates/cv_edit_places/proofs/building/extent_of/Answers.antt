use Rattle.std.proofs.Common.{[], None, length, map, take, get_or, reverse, sym, ap, ◌∙◌, arith}
use Rattle.std.proofs.lemmas.List.{take_all}
use Rattle.cv_syntax.specs.declared.limits.games.Extent.{Extent}
use Rattle.cv_edit_places.specs.declared.parts.Part.TheVariants.{There}
use Rattle.cv_edit_places.specs.Parts.{extent_of, stacked}
use Rattle.cv_edit_places.proofs.Laying.{next_fits, popped}
use Rattle.cv_edit_places.proofs.Stacks.{stacked_next, stacked_none}
use Rattle.cv_edit_places.proofs.building.extent_of.Goals as goal

pub loop-part-init : goal.loop-part-init
loop-part-init c = ap reverse c.new-stack.ensures.items ∙ ap (map extent_of) (sym (stacked_none c.args.pool.now.trees))

pub add_extent-requires-clause-fits : goal.add_extent-requires-clause-fits
add_extent-requires-clause-fits c =
    let trees = c.args.pool.now.trees in
    let ps = c.args.parts.now.items.items in
    let i = c.loop-part.part-index in
    let value = c.as_slice-part-items.ensures.value in
    (stacked trees [] (take i ps), c.loop-part.invariant, next_fits trees ps i (There None) _ (omega (arith, ap length value)) (ap (λ xs. get_or xs i (There None)) (sym value)) c.requires.one c.requires.fits)

pub loop-part-preserved : goal.loop-part-preserved
loop-part-preserved c =
    let trees = c.args.pool.now.trees in
    let ps = c.args.parts.now.items.items in
    let i = c.loop-part.part-index in
    let value = c.as_slice-part-items.ensures.value in
    c.in_ok-add_extent.ensures (stacked trees [] (take i ps)) c.loop-part.invariant
    ∙ ap (map extent_of) (sym (stacked_next ps i (There None) _ (omega (arith, ap length value)) (ap (λ xs. get_or xs i (There None)) (sym value)) trees))

pub returns-clause-nodes : goal.returns-clause-nodes
returns-clause-nodes c =
    let trees = c.args.pool.now.trees in
    let ps = c.args.parts.now.items.items in
    let all = take_all c.loop-part.part-index ps (omega (arith, ap length c.as_slice-part-items.ensures.value, c.loop-part-test.false)) in
    let p = popped (stacked trees [] ps) _ c.pop.new.self.items c.pop.result (c.loop-part.invariant ∙ ap (λ qs. map extent_of (stacked trees [] qs)) all) c.pop.ensures.items (λ l. c.pop.ensures.variant.1 (omega arith)) in
    ap (λ (e : Extent). e.nodes) (c.unwrap_or.ensures ∙ p.newest)

pub returns-clause-depth : goal.returns-clause-depth
returns-clause-depth c =
    let trees = c.args.pool.now.trees in
    let ps = c.args.parts.now.items.items in
    let all = take_all c.loop-part.part-index ps (omega (arith, ap length c.as_slice-part-items.ensures.value, c.loop-part-test.false)) in
    let p = popped (stacked trees [] ps) _ c.pop.new.self.items c.pop.result (c.loop-part.invariant ∙ ap (λ qs. map extent_of (stacked trees [] qs)) all) c.pop.ensures.items (λ l. c.pop.ensures.variant.1 (omega arith)) in
    ap (λ (e : Extent). e.depth) (c.unwrap_or.ensures ∙ p.newest)
