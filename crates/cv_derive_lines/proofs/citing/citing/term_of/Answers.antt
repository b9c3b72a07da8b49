use Rattle.std.proofs.Common.{Some, sym, ap, ◌∙◌}
use Rattle.cv_syntax.proofs.Trees.{tree_at_None}
use Rattle.cv_scene.specs.lines.Inferences.{term_in}
use Rattle.cv_derive_lines.specs.Views.{statement_of}
use Rattle.cv_derive_lines.proofs.citing.citing.term_of.Goals as goal

pub returns-in-IsDefined-clause-term : goal.returns-in-IsDefined-clause-term
returns-in-IsDefined-clause-term c trees = tree_at_None trees ∙ sym (ap (λ k. term_in (Some (statement_of trees k))) c.in-IsDefined.is)
