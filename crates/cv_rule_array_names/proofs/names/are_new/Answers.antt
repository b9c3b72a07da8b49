use Rattle.std.proofs.Common.{◌≡◌, Bool, Some, not, subst, refl, sym, ap, ◌∙◌}
use Rattle.std.specs.Prelude.{IfSome, is_some}
use Rattle.cv_syntax.specs.NameSets.{NameSet, is_in, is_one_of}
use Rattle.cv_syntax.specs.PoolTrees.{tree_at}
use Rattle.cv_scene_view.specs.Kept.{scene_of}
use Rattle.cv_rule_array_names.specs.Sites.{are_apart, are_unknown, has_some}
use Rattle.cv_rule_array_names.proofs.NewNames.{new_by, new_fails, new_holds}
use Rattle.cv_rule_array_names.proofs.names.are_new.Goals as goal

pub returns-in_default : goal.returns-in_default
returns-in_default c =
    let s = scene_of c.args.work.now.pool c.args.work.now.decls c.args.game in
    let ys = c.args.names.now in
    let u = are_unknown s ys in
    let a = are_apart ys in
    sym (new_by s ys u a refl refl ∙ new_fails u a (not (has_some (is_one_of ys) s.game)) (sym (c.in_ok-set.ensures.new c.args.game) ∙ ap is_some c.in_default.is))

pub returns : goal.returns
returns c =
    let s = scene_of c.args.work.now.pool c.args.work.now.decls c.args.game in
    let ys = c.args.names.now in
    let u = are_unknown s ys in
    let a = are_apart ys in
    let same = subst (λ o. IfSome o (λ (m : NameSet). is_in m ≡ is_one_of ys)) c.in-Some.is c.in_ok-set.ensures.set in
    ap not (c.has_some.ensures ∙ ap (λ q. has_some q s.game) same)
    ∙ sym (new_by s ys u a refl refl ∙ new_holds u a (not (has_some (is_one_of ys) s.game)) (sym (c.in_ok-set.ensures.new c.args.game) ∙ ap is_some c.in-Some.is))
