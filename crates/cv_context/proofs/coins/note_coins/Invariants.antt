use Rattle.std.proofs.Common.{◌≡◌, ◌||◌, ℕ, drop}
use Rattle.cv_syntax.specs.NameSets.{is_in}
use Rattle.cv_context.specs.Roles.{is_read_in}
use Rattle.cv_context.proofs.coins.note_coins.Given as goal

abbrev pub invariant-terms : goal.invariant-terms
invariant-terms l = record {
  same : (y : ℕ) → (is_in l.coins y || is_read_in l.pool.trees (drop l.k l.terms) y) ≡ (is_in l.fn.coins y || is_read_in l.pool.trees l.terms y);
}
