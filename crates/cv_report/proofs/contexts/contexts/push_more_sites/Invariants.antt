use Rattle.std.proofs.Common.{◌≡◌, ◌++◌, take, flat_map, codes}
use Rattle.cv_report.specs.contexts.Contexts.{parameters_text}
use Rattle.cv_report.proofs.contexts.contexts.push_more_sites.Given as goal

abbrev pub invariant-sites : goal.invariant-sites
invariant-sites l = l.out.items ≡ l.fn.out.items ++ flat_map (λ ns. codes " + " ++ parameters_text l.names l.order ns.items) (take l.k l.sites)
