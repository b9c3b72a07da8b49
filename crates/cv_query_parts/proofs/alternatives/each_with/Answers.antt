use Rattle.std.proofs.Common.{ap, ◌∙◌}
use Rattle.std.specs.declared.alloc.Global.{Global}
use Rattle.std.specs.declared.vec.Vec.{Vec}
use Rattle.cv_query_parts.specs.Alternatives.{lists}
use Rattle.cv_query_parts.specs.declared.alternatives.NumberedAtom.{NumberedAtom}
use Rattle.cv_query_parts.proofs.Choosing.{each_made}
use Rattle.cv_query_parts.proofs.alternatives.each_with.Goals as goal

pub firsts-preserved : goal.firsts-preserved
firsts-preserved c =
    each_made c.args.firsts.now c.firsts.k c.index-firsts-k.result c.firsts-test.true (lists c.args.others.now) (lists c.firsts.found.items) (lists c.add_each.new.found.items) c.as_slice.result.now
    (c.as_slice.ensures.value ∙ ap (λ (v : Vec NumberedAtom Global). v.items) c.index-firsts-k.is) c.firsts.invariant c.in_ok-add_each.ensures
