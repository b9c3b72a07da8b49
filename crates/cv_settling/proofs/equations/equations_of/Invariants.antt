use Rattle.std.proofs.Common.{◌≡◌, ◌+◌, ◌≤◌, ◌++◌, All, drop, map}
use Rattle.cv_syntax.specs.Declarations.{declarations}
use Rattle.cv_scene.specs.Reasons.{equations_in}
use Rattle.cv_settling.specs.Instances.{HasRoot, numbered_from, seen_in}
use Rattle.cv_settling.proofs.equations.equations_of.Given as goal

abbrev pub invariant-loop-k : goal.invariant-loop-k
invariant-loop-k l =
    let trees = l.pool.trees in
    record {
      told : map (seen_in trees) l.equations.items ++ numbered_from l.number (equations_in (declarations trees (drop l.k l.decls.list))) ≡ numbered_from 1 (equations_in (declarations trees l.decls.list));
      roots : All (HasRoot trees) l.equations.items;
      few : l.number ≤ l.k + 1;
    }
