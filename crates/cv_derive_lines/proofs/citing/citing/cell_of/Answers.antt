use Rattle.std.proofs.Common.{Some, sym, ap, ◌∙◌}
use Rattle.cv_syntax.proofs.Trees.{tree_at_None}
use Rattle.cv_scene.specs.lines.Inferences.{cell_in}
use Rattle.cv_derive_lines.specs.Views.{statement_of}
use Rattle.cv_derive_lines.proofs.citing.citing.cell_of.Goals as goal

pub returns-in-Holds-clause-cell : goal.returns-in-Holds-clause-cell
returns-in-Holds-clause-cell c trees = tree_at_None trees ∙ sym (ap (λ k. cell_in (Some (statement_of trees k))) c.in-Holds.is)
