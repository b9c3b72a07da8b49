use Rattle.std.proofs.Common.{ap, sym, ◌∙◌}
use Rattle.cv_scene.specs.Sights.{is_typed}
use Rattle.cv_derive_lines.specs.Views.{statement_of}
use Rattle.cv_derive_lines.proofs.terms.typing.is_typed_claim.Goals as goal

pub returns-in-Holds : goal.returns-in-Holds
returns-in-Holds c = λ s e. c.is_term.ensures s e ∙ ap (λ k. is_typed s (statement_of c.args.work.now.pool.trees k)) (sym c.in-Holds.is)

pub returns-in-IsDefined : goal.returns-in-IsDefined
returns-in-IsDefined c = λ s e. c.is_cell.ensures s e ∙ ap (λ k. is_typed s (statement_of c.args.work.now.pool.trees k)) (sym c.in-IsDefined.is)
