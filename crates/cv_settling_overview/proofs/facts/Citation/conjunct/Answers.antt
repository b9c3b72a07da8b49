use Rattle.std.proofs.Common.{◌≡◌, None, Some, ap, sym, ◌∙◌}
use Rattle.std.specs.Prelude.{slice_get}
use Rattle.cv_syntax_trees.specs.declared.head.Head.TheVariants.{Eq}
use Rattle.cv_syntax_trees.specs.Tree.{Node}
use Rattle.cv_settling_overview.specs.Facts.{cited_tree}
use Rattle.cv_settling_overview.proofs.Finding.{first_side, whole_fact}
use Rattle.cv_settling_overview.proofs.facts.Citation.conjunct.Goals as goal

pub returns-in-Some : goal.returns-in-Some
returns-in-Some c = λ trees facts a b q.
    let self = c.args.self.now in
    let there : slice_get self.sides.items 0 ≡ Some c.in-Some.side.now = ap (λ l. slice_get l 0) (sym c.deref.ensures.value) ∙ sym c.in-Some.ensures.value in
    first_side trees (cited_tree trees self) (Node Eq a b) self.sides.items c.in-Some.side.now there q.sides q.terms

pub returns-in-None : goal.returns-in-None
returns-in-None c = λ trees facts a b q.
    let self = c.args.self.now in
    let gone : slice_get self.sides.items 0 ≡ None = ap (λ l. slice_get l 0) (sym c.deref.ensures.value) ∙ sym c.in-None.ensures.value in
    whole_fact trees self a b gone q.sides
