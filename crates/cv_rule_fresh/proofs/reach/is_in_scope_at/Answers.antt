use Rattle.std.proofs.Common.{ap, sym, ◌∙◌, Some}
use Rattle.cv_syntax.specs.Declarations.{declarations}
use Rattle.cv_syntax.specs.PoolTrees.{tree_at}
use Rattle.cv_scope.specs.Held.{names_held}
use Rattle.cv_scope_rules.specs.Context.{known_at, nothing_known}
use Rattle.cv_scope_rules.specs.declared.position.Position.TheVariants.{Anywhere}
use Rattle.cv_scope_rules.specs.Scope.{names_of}
use Rattle.cv_scene.specs.Terms.{replications_by}
use Rattle.cv_rule_fresh.proofs.Seeing.{known_scoped, unknown}
use Rattle.cv_rule_fresh.proofs.Ways.{known_by_size}
use Rattle.cv_rule_fresh.proofs.reach.is_in_scope_at.Goals as goal

pub returns-then-not-has_place : goal.returns-then-not-has_place
returns-then-not-has_place c =
    let w = c.args.work.now in
    let game = tree_at w.pool.trees (Some c.args.game) in
    sym (unknown (names_of (declarations w.pool.trees w.decls.list) game) (known_at game c.args.place) (tree_at w.pool.trees c.args.term)
    (known_by_size Anywhere nothing_known game c.args.place ∙ (sym c.has_place.ensures ∙ c.if-not-has_place.true)))

pub returns : goal.returns
returns c =
    let w = c.args.work.now in
    let game = tree_at w.pool.trees (Some c.args.game) in
    known_scoped (names_of (declarations w.pool.trees w.decls.list) game) (names_held c.in_ok-names.names) (known_at game c.args.place) c.is_in_scope.result (tree_at w.pool.trees c.args.term)
    (known_by_size Anywhere nothing_known game c.args.place ∙ (sym c.has_place.ensures ∙ c.if-not-has_place.false)) c.in_ok-names.ensures.names
    (λ Γ e. c.is_in_scope.ensures Γ e (ap replications_by (sym e) ∙ (sym c.in_ok-replications.ensures ∙ sym c.as_slice.ensures.value)))
