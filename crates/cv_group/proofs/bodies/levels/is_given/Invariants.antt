use Rattle.std.proofs.Common.{◌≡◌, drop, map}
use Rattle.std.specs.List.{list_any}
use Rattle.cv_group_rules.specs.Rules as rule
use Rattle.cv_group.specs.bodies.Levels.{level_of}
use Rattle.cv_group.proofs.bodies.levels.is_given.Given as goal

abbrev pub invariant-levels : goal.invariant-levels
invariant-levels l = record { same : list_any (rule.gives l.x) (map level_of (drop l.k l.levels)) ≡ list_any (rule.gives l.x) (map level_of l.levels) }
