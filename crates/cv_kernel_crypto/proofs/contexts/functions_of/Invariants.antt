use Rattle.std.proofs.Common.{◌≡◌, map, take}
use Rattle.cv_match_terms.specs.declared.patterns.site.Site.{Site}
use Rattle.cv_kernel_crypto.proofs.contexts.functions_of.Given as goal

abbrev pub invariant-loop-site : goal.invariant-loop-site
invariant-loop-site l = l.functions.items ≡ map (λ (s : Site). s.function) (take l.site-index l.sites)
