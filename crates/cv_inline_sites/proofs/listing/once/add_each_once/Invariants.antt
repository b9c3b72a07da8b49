use Rattle.std.proofs.Common.{◌≡◌, ◌++◌, map}
use Rattle.std.specs.HashSet.{contains}
use Rattle.cv_inline.specs.Draws.{each_role_once}
use Rattle.cv_inline_sites.specs.declared.listing.draws.Role.{Role}
use Rattle.cv_inline_sites.specs.contracts.listing.draws.RolePartialEq.TheImpl.{ghosts}
use Rattle.cv_inline_sites.specs.listing.Listed.{draw_in, role_in}
use Rattle.cv_inline_sites.proofs.listing.EachOnce.{first_ones, is_among}
use Rattle.cv_inline_sites.proofs.listing.once.add_each_once.Given as goal

abbrev pub invariant-loop-draw : goal.invariant-loop-draw
invariant-loop-draw l = record {
  draws : map draw_in l.draws.items ≡ map draw_in l.fn.draws.items ++ each_role_once (first_ones l.all l.draw-index);
  seen : (q : Role) → contains ghosts.eq l.seen q ≡ is_among (first_ones l.all l.draw-index) (role_in q);
}
