use Rattle.std.proofs.Common.{◌≡◌, ◌++◌}
use Rattle.std.specs.Prelude.{replicate}
use Rattle.cv_syntax_trees.specs.declared.head.Head.TheVariants.{Cons}
use Rattle.cv_syntax.specs.declared.make.Make.TheVariants.{Over}
use Rattle.cv_step_writer.proofs.parts.certificates.close_cells.Given as goal

abbrev pub invariant-cells : goal.invariant-cells
invariant-cells l = l.makes.items ≡ l.fn.makes.items ++ replicate l.counter (Over Cons)
