use Rattle.std.proofs.Common.{◌≡◌, drop, map, None}
use Rattle.cv_group_rules.specs.Rules as rule
use Rattle.cv_group.specs.bodies.Levels.{level_of}
use Rattle.cv_group.proofs.bodies.levels.range_of.Given as goal

abbrev pub invariant-levels : goal.invariant-levels
invariant-levels l = record { same : rule.range_of l.u l.over (map level_of (drop l.k l.levels)) ≡ rule.range_of l.u None (map level_of l.levels) }
