use Rattle.std.proofs.Common.{◌≡◌, ◌++◌, map, take}
use Rattle.std.specs.declared.alloc.Global.{Global}
use Rattle.std.specs.declared.vec.Vec.{Vec}
use Rattle.cv_query_parts.specs.Alternatives.{lists}
use Rattle.cv_query_parts.specs.declared.alternatives.NumberedAtom.{NumberedAtom}
use Rattle.cv_query_parts.proofs.alternatives.add_each.Given as goal

abbrev pub invariant-others : goal.invariant-others
invariant-others l = lists l.found.items ≡ lists l.fn.found.items ++ map (λ (v : Vec NumberedAtom Global). l.first ++ v.items) (take l.k l.others)
