use Rattle.std.proofs.Common.{◌≡◌, ◌++◌, ◌∷◌, ◌≤◌, length, drop, replicate}
use Rattle.cv_syntax_trees.specs.declared.head.Head.TheVariants.{Cons}
use Rattle.cv_syntax.specs.declared.make.Make.TheVariants.{Nothing, Over}
use Rattle.cv_parse_names.proofs.indices.Rows.{leaves_back}
use Rattle.cv_parse_names.proofs.indices.writing.write_indices.Given as goal

abbrev pub invariant-cells : goal.invariant-cells
invariant-cells l = l.parts.items ≡ l.fn.parts.items ++ replicate l.index (Over Cons)

abbrev pub invariant-leaves : goal.invariant-leaves
invariant-leaves l = record {
  within : l.at ≤ length l.indices;
  parts : l.parts.items ≡ l.fn.parts.items ++ (replicate (length l.indices) (Over Cons) ++ Nothing ∷ leaves_back (drop l.at l.indices));
}

abbrev pub decreases-leaves : goal.decreases-leaves
decreases-leaves l = l.at
