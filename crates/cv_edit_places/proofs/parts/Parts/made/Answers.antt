use Rattle.std.proofs.Common.{None, ap, get_or, sym, ◌∙◌, arith, length}
use Rattle.cv_syntax.specs.listing.Needs.{most_asked}
use Rattle.cv_edit_places.specs.declared.parts.Part.TheVariants.{There, Over}
use Rattle.cv_edit_places.proofs.Stacks.{count_next, overs_none}
use Rattle.cv_edit_places.proofs.parts.Parts.made.Goals as goal
use Rattle.cv_edit_places.proofs.parts.Parts.made.Goals.{in-Over, in_default}

pub loop-part-init : goal.loop-part-init
loop-part-init c = ap most_asked (sym overs_none)

pub loop-part-preserved : goal.loop-part-preserved
loop-part-preserved c =
    let ps = c.args.self.now.items.items in
    let i = c.loop-part.part-index in
    let value = c.as_slice-part-items.ensures.value in
    elim c.match-part.branch [
      | in-Over w ↦ count_next ps i (There None) (Over w.in-Over.field-0) (omega (arith, ap length value)) (ap (λ xs. get_or xs i (There None)) (sym value) ∙ w.in-Over.is) c.loop-part.count c.match-part.count c.loop-part.invariant (w.count-is ∙ w.saturating_add-count.ensures)
      | in_default w ↦ count_next ps i (There None) (There w.in_default.field-0) (omega (arith, ap length value)) (ap (λ xs. get_or xs i (There None)) (sym value) ∙ w.in_default.is) c.loop-part.count c.match-part.count c.loop-part.invariant (omega (arith, w.count-is))
    ]
