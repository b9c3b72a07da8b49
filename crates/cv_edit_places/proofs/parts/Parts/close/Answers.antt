use Rattle.std.proofs.Common.{ap, sym, ◌∙◌, arith, length, length-append, [], ◌∷◌}
use Rattle.cv_edit_places.specs.Parts.{closed, stack_of}
use Rattle.cv_edit_places.proofs.Stacks.{closed_push}
use Rattle.cv_edit_places.proofs.parts.Parts.close.Goals as goal

pub up-preserved : goal.up-preserved
up-preserved c = record {
  stack = λ trees.
      let below = stack_of trees c.up.self in
      ap (closed c.pop.new.self.items) (c.in_ok-over.ensures.stack trees)
      ∙ (sym (closed_push c.pop.new.self.items c.in-Some.head below) ∙ (ap (λ hs. closed hs below) (sym c.in-Some.ensures.items) ∙ c.up.invariant.stack trees));
  made = omega (arith, c.in_ok-over.ensures.made, c.up.invariant.made, ap length c.in-Some.ensures.items, length-append c.pop.new.self.items (c.in-Some.head ∷ []));
  live = λ n h. c.in_ok-over.ensures.live n (c.up.invariant.live n h);
}
