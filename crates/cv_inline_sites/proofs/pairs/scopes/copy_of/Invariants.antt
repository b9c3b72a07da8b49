use Rattle.std.proofs.Common.{◌≡◌, take}
use Rattle.cv_syntax_trees.specs.Tree.{Tree}
use Rattle.cv_inline.specs.terms.Scopes.{scope_in}
use Rattle.cv_inline_sites.proofs.pairs.scopes.copy_of.Given as goal

abbrev pub invariant-entries : goal.invariant-entries
invariant-entries l = (here : Tree) → scope_in here l.copy.items ≡ scope_in here (take l.k l.scope)
