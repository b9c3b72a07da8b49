use Rattle.std.proofs.Common.{◌≡◌, ◌++◌, ◌∷◌, map, take, replicate}
use Rattle.cv_syntax_trees.specs.declared.head.Head.TheVariants.{Name}
use Rattle.cv_syntax.specs.declared.make.Make.TheVariants.{Nothing, Over}
use Rattle.cv_parse_names.proofs.indices.writing.write_names.Given as goal

abbrev pub invariant-names : goal.invariant-names
invariant-names l = l.parts.items ≡ l.fn.parts.items ++ map (λ y. Over (Name y)) (take l.name-index l.indices)

abbrev pub invariant-ends : goal.invariant-ends
invariant-ends l = l.parts.items ≡ l.fn.parts.items ++ (map (λ y. Over (Name y)) l.indices ++ Nothing ∷ replicate l.index Nothing)
