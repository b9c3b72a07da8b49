use Rattle.std.proofs.Common.{◌≡◌, ◌||◌, ℕ, drop}
use Rattle.cv_scope.specs.Held.{has_constant, names_held}
use Rattle.cv_scope.proofs.names.NameKinds.note_constants.Given as goal

abbrev pub invariant-loop-k : goal.invariant-loop-k
invariant-loop-k l = record {
  constants : (x : ℕ) → ((names_held l.self).constant x || has_constant l.pool.trees (drop l.k l.decls.list) x) ≡ ((names_held l.fn.self).constant x || has_constant l.pool.trees l.decls.list x);
  sites : l.self.sites ≡ l.fn.self.sites;
}
