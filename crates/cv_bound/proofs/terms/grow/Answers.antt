use Rattle.std.proofs.Common.{◌+◌, ◌^◌, ◌<◌, sym, ◌∙◌, arith}
use Rattle.cv_bound.proofs.Merging.{grown_collision, grown_advantage, coefficient_fits}
use Rattle.cv_bound.proofs.terms.grow.Goals as goal

pub overflow_add-c : goal.overflow_add-c
overflow_add-c c = let h : c.in-Collision.c.times + c.args.times < 2 ^ 64 = coefficient_fits _ _ _ _ c.in-Collision.c (omega arith) (sym c.index_mut-term.ensures.value ∙ c.in-Collision.is) c.requires.fits in omega arith

pub returns-in-Collision-clause-items : goal.returns-in-Collision-clause-items
returns-in-Collision-clause-items c = grown_collision _ _ _ _ c.in-Collision.c (omega arith) (sym c.index_mut-term.ensures.value ∙ c.in-Collision.is)

pub returns-in_default-clause-items : goal.returns-in_default-clause-items
returns-in_default-clause-items c = grown_advantage _ _ _ _ _ _ _ (omega arith) c.index_mut-term.ensures.value c.in_default.is
