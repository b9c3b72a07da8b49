use Rattle.std.proofs.Common.{◌≡◌, ◌*◌, ◌≤◌, take}
use Rattle.cv_parse.specs.Weights.{parts_weight}
use Rattle.cv_parse.proofs.weights.parts_weight.Given as goal

abbrev pub invariant-parts : goal.invariant-parts
invariant-parts l = record {
  is : l.weight ≡ parts_weight (take l.make-index l.makes);
  few : l.weight ≤ 3 * l.make-index;
}
