use Rattle.std.proofs.Common.{◌++◌, ◌∙◌, ap, codes}
use Rattle.cv_bound.specs.Texts.{listed_text}
use Rattle.cv_report.proofs.Texts.{extended}
use Rattle.cv_report.proofs.contexts.Powers.{framed}
use Rattle.cv_report.proofs.text.push_cost.Goals as goal

pub returns : goal.returns
returns c =
    let text = listed_text c.args.names.now c.args.cost.now in
    extended c.extend_from_slice-3.result c.extend_from_slice-2.new.self.items (codes "\n") c.extend_from_slice-3.new.self.items _ c.extend_from_slice-3.ensures.items
    (ap (λ t. t ++ codes "\n") (c.in_ok-extend_from_slice-2.ensures.items ∙ (ap (λ t. c.extend_from_slice.new.self.items ++ t) (c.deref.ensures.value ∙ c.in_ok-text.ensures) ∙ ap (λ t. t ++ text) c.in_ok-extend_from_slice.ensures.items)) ∙ framed c.args.out.now.items (codes "cost ") text (codes "\n"))
