use Rattle.std.proofs.Common.{◌≡◌, ◌+◌, drop, map}
use Rattle.cv_derive_lines.specs.Views.{statement_of}
use Rattle.cv_scene.specs.lines.Ends.{same_statements}
use Rattle.cv_rule_pick.specs.Wanted.{wanted_of}
use Rattle.cv_rule_pick.proofs.targets.say_all.Given as goal

abbrev pub invariant-wanted : goal.invariant-wanted
invariant-wanted l =
    same_statements (map (statement_of l.pool.trees) (drop (l.from + l.k) l.claims)) (map (wanted_of l.pool.trees l.given) (drop l.k l.wanted))
    ≡ same_statements (map (statement_of l.pool.trees) (drop l.from l.claims)) (map (wanted_of l.pool.trees l.given) l.wanted)
