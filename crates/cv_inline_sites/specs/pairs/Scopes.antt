-- What the names of a right body stand for at the indices of a caller. This profile's own.
use Rattle.std.specs.Prelude.{List}
use Rattle.cv_meaning.specs.contexts.Inlined.{Scope, index_terms}
use Rattle.cv_inline.specs.declared.terms.caller.Caller.{Caller}
use Rattle.cv_inline.specs.declared.terms.scope.Entry.{Entry}
use Rattle.cv_inline.specs.terms.Scopes.{scope_in}

-- a scope at the indices of a caller
abbrev pub scope_at : Caller → List Entry → Scope
scope_at c entries = scope_in (index_terms c.replications.items) entries
