use Rattle.std.proofs.Common.{ap, sym, subst, ◌∙◌, ◌≡◌, List, IfOk, OnOk}
use Rattle.cv_syntax_trees.specs.declared.head.Head.{Head}
use Rattle.cv_syntax.specs.PoolTrees.{tree_at}
use Rattle.cv_scope.specs.Held.{last_held, OnlySites}
use Rattle.cv_scope.specs.Seen.{may_stand_last}
use Rattle.cv_scope_rules.specs.Sites.{Channel, Site, bound_types, channel_here}
use Rattle.cv_scope.proofs.Noting.{one_may, one_noted, none_noted, site_is, no_channel, site_at}
use Rattle.cv_scope.proofs.state.State.note_channel.Goals as goal

pub returns-in_default : goal.returns-in_default
returns-in_default c =
    let trees = c.args.pool.now.trees in
    let none = no_channel c.args.self.now.replications.items c.args.place c.args.head (tree_at trees c.args.first) c.in_default.not-In in
    record {
      may = sym (ap (may_stand_last c.args.self.now.passed (last_held trees c.args.self.now.last)) none);
      noted = subst (λ (l : List Site). OnlySites trees c.args.self.now c.args.self.now l) (sym none) (none_noted trees c.args.self.now c.requires.live);
    }

pub returns-clause-may : goal.returns-clause-may
returns-clause-may c =
    let trees = c.args.pool.now.trees in
    let rs = c.args.self.now.replications.items in
    let same = site_is trees rs c.args.place (Channel c.in-In.c) c.second_of.result c.in_ok-site.site c.in_ok-site.ensures ∙ ap (λ t. site_at rs c.args.place (Channel c.in-In.c) (bound_types t)) c.second_of.ensures.tree in
    subst (λ (h : Head). IfOk c.note_channel.result (λ y. y ≡ may_stand_last c.args.self.now.passed (last_held trees c.args.self.now.last) (channel_here rs c.args.place h (tree_at trees c.args.first)))) (sym c.in-In.is) (one_may c.args.self.now.passed (last_held trees c.args.self.now.last (Channel c.in-In.c)) _ _ c.note_channel.result same c.note_channel.ensures.may)

pub returns-clause-noted : goal.returns-clause-noted
returns-clause-noted c =
    let trees = c.args.pool.now.trees in
    let rs = c.args.self.now.replications.items in
    let same = site_is trees rs c.args.place (Channel c.in-In.c) c.second_of.result c.in_ok-site.site c.in_ok-site.ensures ∙ ap (λ t. site_at rs c.args.place (Channel c.in-In.c) (bound_types t)) c.second_of.ensures.tree in
    subst (λ (h : Head). OnOk c.note_channel.result (OnlySites trees c.args.self.now (record c.args.self.now { last = c.note_channel.new.self }) (channel_here rs c.args.place h (tree_at trees c.args.first)))) (sym c.in-In.is) (one_noted trees c.args.self.now c.note_channel.new.self _ _ c.note_channel.result same c.note_channel.ensures.noted c.note_channel.ensures.live)
