use Rattle.std.proofs.Common.{ap, ap₂, ◌∙◌}
use Rattle.cv_scope_rules.specs.typing.Parts.{bound_at}
use Rattle.cv_typing.specs.Tables.{and_else, by_bound_in}
use Rattle.cv_typing.proofs.Binding.{own_last}
use Rattle.cv_typing.proofs.locals.Locals.note_function.Goals as goal

pub returns : goal.returns
returns c =
    ap by_bound_in c.in_ok-push.ensures.items
    ∙ (own_last c.args.self.now.functions.items _
    ∙ ap₂ (and_else (by_bound_in c.args.self.now.functions.items)) (c.bound_at-bound.ensures ∙ ap bound_at c.first_of.ensures.tree) c.in_ok-sorts.ensures)
