use Rattle.std.proofs.Common.{nat_lt, not, sym, ap, ◌∙◌}
use Rattle.cv_syntax.specs.PoolTrees.{tree_at}
use Rattle.cv_settling_lateness.specs.Standing.{is_behind_guards}
use Rattle.cv_settling_lateness.proofs.lateness.Lateness.is_behind_guards.Goals as goal

pub returns-in-Branch : goal.returns-in-Branch
returns-in-Branch c a b = ap (λ g. not (nat_lt c.args.place g)) (c.guards.ensures a b) ∙ sym (ap (λ h. is_behind_guards h (tree_at c.args.pool.now.trees c.args.node.second) c.args.place) c.in-Branch.is)
