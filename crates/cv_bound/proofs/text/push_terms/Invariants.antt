use Rattle.std.proofs.Common.{◌≡◌, ◌++◌, take, flat_map, codes}
use Rattle.cv_bound.specs.Texts.{term_text}
use Rattle.cv_bound.proofs.text.push_terms.Given as goal

abbrev pub invariant-terms : goal.invariant-terms
invariant-terms l = l.out.items ≡ l.fn.out.items ++ flat_map (λ t. codes " + " ++ term_text l.names t) (take l.k l.terms)
