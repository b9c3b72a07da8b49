use Rattle.std.proofs.Common.{◌≡◌, ℕ, ◌+◌, ◌-◌, length}
use Rattle.cv_match_terms.specs.uses.Tallies.{entry_at}
use Rattle.cv_match_terms.proofs.uses.table.reach.Given as goal

abbrev pub invariant-names : goal.invariant-names
invariant-names l = record {
  same : (y : ℕ) → entry_at l.entries.items y ≡ entry_at l.fn.entries.items y;
}

abbrev pub decreases-names : goal.decreases-names
decreases-names l = l.x + 1 - length l.entries.items
