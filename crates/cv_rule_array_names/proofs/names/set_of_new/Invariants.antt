use Rattle.std.proofs.Common.{◌≡◌, ◌≤◌, ◌&&◌, ℕ, true, drop, length}
use Rattle.cv_pool.specs.declared.node.NodeId.{NodeId}
use Rattle.cv_syntax.specs.NameSets.{is_in, is_one_of}
use Rattle.cv_scene_view.specs.Kept.{scene_of}
use Rattle.cv_rule_array_names.specs.Sites.{are_apart, are_unknown}
use Rattle.cv_rule_array_names.proofs.names.set_of_new.Given as goal

abbrev pub invariant-names : goal.invariant-names
invariant-names l = record {
  within : l.k ≤ length l.names;
  set : (x : ℕ) → is_in l.set x ≡ is_one_of (drop l.k l.names) x;
  new : (game : NodeId) → (are_unknown (scene_of l.work.pool l.work.decls game) (drop l.k l.names) && are_apart (drop l.k l.names)) ≡ true;
}

abbrev pub decreases-names : goal.decreases-names
decreases-names l = l.k
