use Rattle.std.proofs.Common.{◌≡◌, ◌++◌, ◌∷◌}
use Rattle.std.specs.Prelude.{replicate}
use Rattle.cv_syntax_trees.specs.declared.head.Head.TheVariants.{Cons}
use Rattle.cv_syntax.specs.declared.make.Make.TheVariants.{Nothing, Over}
use Rattle.cv_syntax.proofs.parts.lists.close_list.Given as goal

abbrev pub invariant-cells : goal.invariant-cells
invariant-cells l = l.makes.items ≡ l.fn.makes.items ++ Nothing ∷ replicate l.counter (Over Cons)
