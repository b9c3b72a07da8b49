-- A copy of a scope, name by name.
use Rattle.std.proofs.Common.{◌≡◌, ℕ, ◌+◌, ◌<◌, List, [], ◌∷◌, ◌++◌, length, take, get_or, ap, sym, ◌∙◌}
use Rattle.std.proofs.lemmas.List.{take_more}
use Rattle.cv_syntax_trees.specs.Tree.{Tree}
use Rattle.cv_inline.specs.declared.terms.scope.Entry.{Entry}
use Rattle.cv_inline.specs.terms.Scopes.{entry_in, scope_in}
use Rattle.cv_inline.proofs.terms.Scoping.{scope_push}

pub copy_more : (here : Tree) (copy new scope : List Entry) (k : ℕ) (e d : Entry) → new ≡ copy ++ e ∷ [] → k < length scope → entry_in here e ≡ entry_in here (get_or scope k d) → scope_in here copy ≡ scope_in here (take k scope) → scope_in here new ≡ scope_in here (take (k + 1) scope)
copy_more here copy new scope k e d n l s h =
    ap (scope_in here) n ∙ (scope_push here copy e ∙ ((λ i. s i ∷ h i) ∙ (sym (scope_push here (take k scope) (get_or scope k d)) ∙ ap (scope_in here) (sym (take_more scope k d l)))))
