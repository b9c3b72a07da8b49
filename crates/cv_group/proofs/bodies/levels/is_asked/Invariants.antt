use Rattle.std.proofs.Common.{◌≡◌, drop, false, map}
use Rattle.cv_group_rules.specs.Rules as rule
use Rattle.cv_group.specs.bodies.Levels.{level_of}
use Rattle.cv_group.proofs.bodies.levels.is_asked.Given as goal

abbrev pub invariant-levels : goal.invariant-levels
invariant-levels l = record { same : rule.is_asked l.v l.u l.asked (map level_of (drop l.k l.levels)) ≡ rule.is_asked l.v l.u false (map level_of l.levels) }
