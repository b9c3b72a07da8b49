use Rattle.std.proofs.Common.{◌∷◌, [], ◌++◌, ap, map, ◌∙◌}
use Rattle.std.proofs.lemmas.List.{map-append}
use Rattle.std.proofs.lemmas.List.Elements.{All-push, All-same}
use Rattle.cv_match_terms.specs.patterns.Sites.{HasInstance, IsLiveSite, found_site, site_in}
use Rattle.cv_match_terms.proofs.patterns.site.note_site.Goals as goal

pub returns : goal.returns
returns c =
    let old = c.args.sites.now.items in
    let items = c.in_ok-push.ensures.items in
    record {
      noted = λ trees M. ap (map (site_in trees M)) items ∙ (map-append (site_in trees M) old _ ∙ ap (λ rs. map (site_in trees M) old ++ found_site trees M c.args.place rs c.args.term c.args.found ∷ []) c.in_ok-replications.ensures.items);
      live = λ n sites term function. All-same (IsLiveSite n) _ _ items (All-push (IsLiveSite n) old _ sites (record { term = term; pattern = function }));
      instances = λ trees M sites instance. All-same (HasInstance trees M) _ _ items (All-push (HasInstance trees M) old _ sites (record { instance = instance }));
    }
