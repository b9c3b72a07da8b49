-- What the last lines of a derivation say. This profile's own.
use Rattle.std.specs.Prelude.{◌-◌, Bool, true, false, ◌&&◌, not, nat_lt, List, [], ◌∷◌, drop, length}
use Rattle.cv_syntax_trees.specs.Tree.{Tree, same_tree}
use Rattle.cv_scene.specs.lines.Lines.{Statement, Holds, IsDefined, lines_of, statements}

abbrev pub same_statement : Statement → Statement → Bool
same_statement (Holds t) (Holds u) = same_tree t u
same_statement (IsDefined c) (IsDefined d) = same_tree c d
same_statement t u = false

-- the last one says this
abbrev pub ends_in : List Statement → Statement → Bool
ends_in [] t = false
ends_in (u ∷ []) t = same_statement u t
ends_in (u ∷ (w ∷ us)) t = ends_in (w ∷ us) t

-- the last lines outside blocks say the targets, in order

abbrev pub same_statements : List Statement → List Statement → Bool
same_statements [] [] = true
same_statements (t ∷ ts) (u ∷ us) = same_statement t u && same_statements ts us
same_statements ts us = false

abbrev pub is_end : (statements targets : List Statement) → Bool
is_end ts us = not (nat_lt (length ts) (length us)) && same_statements (drop (length ts - length us) ts) us

-- the targets are lines whose reasons don't count
abbrev pub ends_with : (derivation targets : Tree) → Bool
ends_with by targets = is_end (statements (lines_of by)) (statements (lines_of targets))
