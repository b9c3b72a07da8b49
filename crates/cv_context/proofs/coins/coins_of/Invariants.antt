use Rattle.std.proofs.Common.{◌≡◌, ◌||◌, ℕ, drop}
use Rattle.cv_syntax.specs.NameSets.{is_in}
use Rattle.cv_context.specs.Roles.{is_coin_at}
use Rattle.cv_context.proofs.coins.coins_of.Given as goal

abbrev pub invariant-sites : goal.invariant-sites
invariant-sites l = record {
  same : (y : ℕ) → (is_in l.coins y || is_coin_at l.pool.trees (drop l.k l.sites) y) ≡ is_coin_at l.pool.trees l.sites y;
}
