-- A scope, read from its newest name on.
use Rattle.std.proofs.Common.{◌≡◌, ℕ, ◌+◌, ◌<◌, ◌==◌, if◌then◌else◌, List, [], ◌∷◌, ◌++◌, length, take, get_or, map, Some, ap, ◌∙◌}
use Rattle.std.proofs.lemmas.List.{reverse-append, take_more}
use Rattle.cv_syntax_trees.specs.Tree.{Tree}
use Rattle.cv_meaning.specs.contexts.Inlined as bodies
use Rattle.cv_inline.specs.declared.terms.scope.Entry.{Entry}
use Rattle.cv_inline.specs.terms.Scopes.{entry_in, scope_in, standing_in}

-- a name more
pub scope_push : (here : Tree) (entries : List Entry) (e : Entry) → scope_in here (entries ++ e ∷ []) ≡ entry_in here e ∷ scope_in here entries
scope_push here entries e = ap (map (entry_in here)) (reverse-append entries (e ∷ []))
