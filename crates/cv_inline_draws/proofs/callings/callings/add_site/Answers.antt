use Rattle.std.proofs.Common.{ap, sym, ◌∙◌}
use Rattle.std.specs.Prelude.{option_copied}
use Rattle.cv_inline_sites.specs.listing.Callings.{callings_in}
use Rattle.cv_inline_draws.proofs.callings.SiteLists.{found_item, no_function, site_found}
use Rattle.cv_inline_draws.proofs.callings.callings.add_site.Goals as goal

pub returns-in_default-clause-callings : goal.returns-in_default-clause-callings
returns-in_default-clause-callings c =
    let trees = c.args.pool.now.trees in
    no_function trees c.args.right.now c.args.calls.now c.args.number c.args.position (callings_in trees c.args.callings.now.items) (sym (found_item c.args.right.now c.args.position c.get.result c.get.ensures.lookup) ∙ ap option_copied c.in_default.is)

pub returns-clause-callings : goal.returns-clause-callings
returns-clause-callings c =
    let trees = c.args.pool.now.trees in
    site_found trees c.args.right.now c.args.calls.now c.args.number c.args.position c.in-Some.function.now c.in-Some-get.call.now c.args.callings.now.items c.push.new.self.items c.in_ok-calling.calling (sym (found_item c.args.right.now c.args.position c.get.result c.get.ensures.lookup) ∙ ap option_copied c.in-Some.is) (sym c.get-2.ensures.value ∙ ap option_copied c.in-Some-get.is) c.in_ok-calling.ensures.calling c.in_ok-push.ensures.items
