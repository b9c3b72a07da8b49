use Rattle.std.proofs.Common.{◌≡◌, ◌≤◌, length, take}
use Rattle.std.specs.Prelude.{reverse}
use Rattle.cv_oracles.specs.Frames.{from_first, is_sought}
use Rattle.cv_oracles.proofs.frames.left.Given as goal

abbrev pub invariant-frames : goal.invariant-frames
invariant-frames l = record { rest : from_first (is_sought l.sought) (reverse (take l.count l.frames)) ≡ from_first (is_sought l.sought) (reverse l.frames); few : l.count ≤ length l.frames }

abbrev pub decreases-frames : goal.decreases-frames
decreases-frames l = l.count
