use Rattle.std.proofs.Common.{rules, ◌≡◌, ◌++◌, ◌∷◌, [], sym, ◌∙◌, subst}
use Rattle.cv_bound.specs.declared.terms.Term.TheVariants as term
use Rattle.cv_bound.specs.Sums.{AllFit, merged}
use Rattle.cv_bound.proofs.Merging.{found, absent}
use Rattle.cv_bound.proofs.terms.merge.Goals as goal

pub grow-requires-clause-fits : goal.grow-requires-clause-fits
grow-requires-clause-fits c = subst AllFit (found c.args.c _ _ _ c.deref.ensures.value (sym c.place_of.ensures ∙ c.in-Some.is)) c.requires.fits

pub returns-in-Some-clause-items : goal.returns-in-Some-clause-items
returns-in-Some-clause-items c = c.grow.ensures.items ∙ sym (found c.args.c _ _ _ c.deref.ensures.value (sym c.place_of.ensures ∙ c.in-Some.is))

pub returns-in-None-clause-items : goal.returns-in-None-clause-items
returns-in-None-clause-items c = let e : merged c.args.terms.now.items c.args.c ≡ c.args.terms.now.items ++ term.Collision c.args.c ∷ [] = absent c.args.c _ _ c.deref.ensures.value (sym c.place_of.ensures ∙ c.in-None.is) in rw e (search rules)
