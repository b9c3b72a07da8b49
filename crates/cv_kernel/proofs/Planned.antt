-- How a game changes by a step that stands by itself, where all its conditions hold.
use Rattle.std.proofs.Common.{◌≡◌, ℕ, ◌<◌, ◌≤◌, ◌^◌, Bool, true, false, ◌&&◌, if◌then◌else◌, List, length, Some, None, Result, Ok, Err, refl, sym, ap, ◌∙◌, subst, arith}
use Rattle.std.proofs.lemmas.Bool.Decides.{nat_tests}
use Rattle.std.specs.List.{list_all}
use Rattle.std.specs.Prelude.{IfErr, IfOk, IsErrAnd, OnOk}
use Rattle.cv_pool.specs.declared.node.NodeId.{NodeId}
use Rattle.cv_pool.specs.KindTree.{KindTree}
use Rattle.cv_syntax_trees.specs.Tree.{Tree, size}
use Rattle.cv_syntax.specs.PoolTrees.{tree_at}
use Rattle.cv_scene.specs.Scenes.{Scene, has_place}
use Rattle.cv_steps.specs.Elementary.{let_step, new_step, prune_step, rewrite_step, split_step}
use Rattle.cv_steps.specs.Judgements.{Refused, judgement_of, judgement_of_row}
use Rattle.cv_steps.specs.Steps.{Step}
use Rattle.cv_rule.proofs.Leading.{let_leads, new_leads, prune_leads, rewrite_leads, split_leads}
use Rattle.cv_edit_places.specs.declared.change.Change.TheVariants as change
use Rattle.cv_edit_places.specs.Changes.{need_at}
use Rattle.cv_edit_places.specs.Plans.{failed, failure_of}
use Rattle.cv_edit_changes.specs.declared.pruning.body.Body.{Body}
use Rattle.cv_edit_changes.specs.pruning.Bodies as pruning
use Rattle.cv_rule.specs.declared.edit.edit.Edit.{Edit}
use Rattle.cv_rule.specs.declared.edit.edit.Edit.TheVariants as edit
use Rattle.cv_kernel.specs.declared.error.RuleError.{RuleError}
use Rattle.cv_kernel.specs.declared.error.RuleError.TheVariants as rule
use Rattle.cv_kernel.specs.Answers.{IsEdit, IsEditPlan, IsUnplanned}
use Rattle.cv_kernel.specs.Places.{has_long}
use Rattle.cv_kernel.specs.Rules.{Rule}
use Rattle.cv_kernel.specs.Steps.{IsShort}
use Rattle.cv_kernel.proofs.Fits.{let_fits, new_fits, replace_fits, split_fits}
use Rattle.cv_kernel.proofs.Listed.{not_all_there}
use Rattle.cv_kernel.proofs.Nodes.{size_nodes}

pub short_size : (t : Tree) → IsShort t → size t < 2 ^ 31
short_size t l = omega (arith, l, size_nodes t)

-- a place that no game has
pub absent : (p : ℕ) (s : Scene) → size s.game ≤ p → has_place s p ≡ false
absent p s l = grind (arith, nat_tests)

no_middle : (a b c : Bool) → b ≡ false → (a && (b && c)) ≡ false
no_middle true false c e = refl
no_middle true true c e = absurd (cc)
no_middle false b c e = refl

-- places of which one has more than 32 bits are not all in a game
pub no_such_places : (s : Scene) → size s.game ≤ 50000 → (a c : Bool) (ps : List ℕ) → has_long ps ≡ true → (a && (list_all (has_place s) ps && c)) ≡ false
no_such_places s l a c ps e =
    no_middle a (list_all (has_place s) ps) c (not_all_there (has_place s) (λ p f. absent p s (grind (arith, nat_tests, l, f))) ps e)

module _ (trees : List KindTree) (s : Scene) where
  -- an edit, where the conditions of a rule were tested
  pub plan_by : (r : Rule) (e : Edit) (o : Result Edit RuleError) → IfOk o (λ f. f ≡ e) → OnOk o (failure_of s r.step ≡ None) → IfErr o (IsUnplanned (judgement_of s r.step)) → (failure_of s r.step ≡ None → IsEdit trees s r e) → IsEditPlan trees s (Some r) o
  plan_by r e (Ok f) same met unmet is = subst (IsEdit trees s r) (sym same) (is met)
  plan_by r e (Err f) same met unmet is = unmet

  -- a place that no game has
  pub stands_not : (x : Step) (b : Bool) → x.stands s ≡ b → b ≡ false → judgement_of s x ≡ Refused 0 0
  stands_not x b e f = ap (λ c. if c then judgement_of_row s (x.row s) else Refused 0 0) (e ∙ f)

  pub unplaced : (r : Rule) (o : Result Edit RuleError) (e : RuleError) → IsErrAnd o (λ f. f ≡ e) → e ≡ rule.Refused (failed 0 0) → r.step.stands s ≡ false → IsEditPlan trees s (Some r) o
  unplaced r (Ok f) e i h n = absurd i
  unplaced r (Err f) e i h n = subst (IsUnplanned (judgement_of s r.step)) (sym (i ∙ h)) (stands_not r.step (r.step.stands s) refl n)

  -- each of these steps by itself

  module _ (small : size s.game ≤ 50000) (p : ℕ) where
    pub split_edit : (m : NodeId) → m.0 < length trees → IsShort (tree_at trees (Some m)) → let t = tree_at trees (Some m) in failure_of s (split_step p t) ≡ None → IsEdit trees s (record { step = split_step p t; need = need_at p 3 }) (edit.At p (change.Split m))
    split_edit m l h e =
        let t = tree_at trees (Some m) in
        let w = split_leads s p t e in
        record { met = e; leads = w.0; need = refl; can = record { live = l; fits = split_fits s.game p small t (short_size t h); there = w.1 } }

    pub let_edit : (x T : ℕ) (m : NodeId) → m.0 < length trees → IsShort (tree_at trees (Some m)) → let t = tree_at trees (Some m) in failure_of s (let_step p x T t) ≡ None → IsEdit trees s (record { step = let_step p x T t; need = need_at p 1 }) (edit.At p (change.AfterLet x T m))
    let_edit x T m l h e =
        let t = tree_at trees (Some m) in
        let w = let_leads s p x T t e in
        record { met = e; leads = w.0; need = refl; can = record { live = l; fits = let_fits s.game p small x T t (short_size t h); there = w.1 } }

    pub new_edit : (x T : ℕ) → failure_of s (new_step p x T) ≡ None → IsEdit trees s (record { step = new_step p x T; need = need_at p 1 }) (edit.At p (change.AfterNew x T))
    new_edit x T e =
        let w = new_leads s p x T e in
        record { met = e; leads = w.0; need = refl; can = record { live = tt; fits = new_fits s.game p small x T; there = w.1 } }

    pub rewrite_edit : (m : NodeId) (by : Tree) → m.0 < length trees → IsShort (tree_at trees (Some m)) → let t = tree_at trees (Some m) in failure_of s (rewrite_step p t by) ≡ None → IsEdit trees s (record { step = rewrite_step p t by; need = need_at p 0 }) (edit.At p (change.Replace m))
    rewrite_edit m by l h e =
        let t = tree_at trees (Some m) in
        let w = rewrite_leads s p t by e in
        record { met = e; leads = w.0; need = refl; can = record { live = l; fits = replace_fits s.game p small t (short_size t h); there = w.1 } }

  pub prune_edit : (p : ℕ) (body : Body) (by : Tree) → let part = pruning.part_of body in failure_of s (prune_step p part by) ≡ None → IsEdit trees s (record { step = prune_step p part by; need = λ game. pruning.need_of game p part }) (edit.WithoutBody p body)
  prune_edit p body by e =
      let w = prune_leads s p (pruning.part_of body) by e in
      record { met = e; leads = w.0; need = refl; can = w.1 }
