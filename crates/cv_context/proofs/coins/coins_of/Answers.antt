use Rattle.std.proofs.Common.{◌||◌, drop, get_or, ap, ◌∙◌, arith}
use Rattle.cv_syntax.specs.NameSets.{is_in}
use Rattle.cv_match_terms.specs.declared.patterns.site.Site.{Site}
use Rattle.cv_group.proofs.bodies.Sets.{or_more, or_nothing}
use Rattle.cv_context.specs.Roles.{is_coin_at, is_read_in}
use Rattle.cv_context.proofs.Drawn.{any_past, coin_step}
use Rattle.cv_context.proofs.coins.coins_of.Goals as goal

pub sites-preserved : goal.sites-preserved
sites-preserved c =
    let trees = c.args.pool.now.trees in
    let ss = c.args.sites.now in
    record { same = λ y. or_more _ _ (is_coin_at trees (drop c.sites.k ss) y) (is_read_in trees (get_or ss c.sites.k c.index-sites-k.result).instance.coins.items y) _ (c.in_ok-note_coins.ensures y ∙ ap (λ l. is_in c.sites.coins y || is_read_in trees l y) c.as_slice.ensures.value) (coin_step trees ss c.sites.k c.index-sites-k.result y (omega arith)) ∙ c.sites.invariant.same y }

pub returns : goal.returns
returns c = λ y. or_nothing _ _ (any_past (λ (s : Site). is_read_in c.args.pool.now.trees s.instance.coins.items y) c.args.sites.now c.sites.k (omega arith)) ∙ c.sites.invariant.same y
