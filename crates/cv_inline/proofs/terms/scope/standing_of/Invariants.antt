use Rattle.std.proofs.Common.{◌≡◌, ◌≤◌, length, take}
use Rattle.cv_syntax_trees.specs.Tree.{Tree}
use Rattle.cv_meaning.specs.contexts.Inlined as bodies
use Rattle.cv_inline.specs.terms.Scopes.{scope_in}
use Rattle.cv_inline.proofs.terms.scope.standing_of.Given as goal

abbrev pub invariant-newest : goal.invariant-newest
invariant-newest l = record {
  within : l.left ≤ length l.scope;
  found : (here : Tree) → bodies.standing_of (scope_in here (take l.left l.scope)) l.x ≡ bodies.standing_of (scope_in here l.scope) l.x;
}

abbrev pub decreases-newest : goal.decreases-newest
decreases-newest l = l.left
