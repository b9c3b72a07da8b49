-- The answer of a step, by the kind of step that it is.
use Rattle.std.proofs.Common.{◌≡◌, ℕ, ◌+◌, ◌<◌, ◌≤◌, List, length, take, Option, Some, None, Result, Ok, Err, refl, ap, subst, sym, ◌∙◌, arith}
use Rattle.std.proofs.lemmas.List.{take_all}
use Rattle.std.specs.Prelude.{IfSome, IsErrAnd, OnOk, option_and_then}
use Rattle.cv_pool.specs.KindTree.{KindTree}
use Rattle.cv_pool.specs.PoolView.{PoolView}
use Rattle.cv_syntax.specs.Classes.{DeclsView}
use Rattle.cv_syntax.specs.declared.work.BuildError.TheVariants as build
use Rattle.cv_syntax_trees.specs.Tree.{Tree}
use Rattle.cv_scene_view.specs.Kept.{scene_of}
use Rattle.cv_scene.specs.Scenes.{Scene}
use Rattle.cv_script.specs.Views.{StepItems, items_of_step}
use Rattle.cv_script.specs.Views as items
use Rattle.cv_bound.specs.closings.Queries.{numbers_of}
use Rattle.cv_kernel.specs.declared.error.PushError.{PushError}
use Rattle.cv_kernel.specs.declared.error.PushError.TheVariants as push
use Rattle.cv_kernel.specs.declared.reducing.Reducing.{Reducing}
use Rattle.cv_kernel.specs.declared.sequence.Sequence.{Sequence}
use Rattle.cv_kernel.specs.Closings.{Closing, closing_failure, closing_in, closing_of_items}
use Rattle.cv_kernel.specs.Reducings.{reducing_in, reducing_of_items}
use Rattle.cv_kernel.specs.Sequences.{IsCloseAnswer, IsPushAnswer, IsPushed, IsReduceAnswer, IsReduced, IsStepAnswer, game_in, needed, needed_for}
use Rattle.cv_kernel.specs.Rules.{rule_in}
use Rattle.cv_kernel.specs.Steps.{AreShort, IsShort, judgement_by}
use Rattle.cv_kernel.proofs.Steps.{short_items}

-- the names that are there
pub names_kept : (names : List (List ℕ)) → take (length names) names ≡ names
names_kept names = take_all (length names) names (omega arith)

-- what a step is, by its items

module _ (t : Tree) (i : StepItems) (is : Some i ≡ items_of_step t) where
  pub by_items : {A : Type 0} (f : StepItems → Option A) (o : Option A) → o ≡ f i → o ≡ option_and_then f (items_of_step t)
  by_items f o e = e ∙ ap (option_and_then f) is

  pub short_by : IsShort t → AreShort i
  short_by l = subst (λ o. IfSome o AreShort) (sym is) (short_items t l)

pub nothing_in : {A : Type 0} (f : StepItems → Option A) (t : Tree) → items_of_step t ≡ None → option_and_then f (items_of_step t) ≡ None
nothing_in f t e = ap (option_and_then f) e

-- no kind of step is answered that there are too many
never_steps : (pool : PoolView) (decls : DeclsView) (trees : List KindTree) (old new : Sequence) (step : Tree) (o : Option StepItems) → IsStepAnswer pool decls trees old new step o (Err push.Steps) → ⊥
never_steps pool decls trees old new step None w = w
never_steps pool decls trees old new step (Some (items.Success k by)) w = w
never_steps pool decls trees old new step (Some (items.Crypto e x)) w = w
never_steps pool decls trees old new step (Some i) w = w

module _ (pool : PoolView) (decls : DeclsView) (trees : List KindTree) (old new : Sequence) (step : Tree) where
  is_pushed : old.steps < 2000 → (r : Result (Unit {0}) PushError) → IsStepAnswer pool decls trees old new step (items_of_step step) r → IsPushed pool decls trees old new step r
  is_pushed l (Ok u) w = (l, w)
  is_pushed l (Err (push.Refused f)) w = (l, w)
  is_pushed l (Err push.Steps) w = absurd (never_steps pool decls trees old new step (items_of_step step) w)
  is_pushed l (Err (push.Build b)) w = (l, w)

  abbrev here : Scene
  here = scene_of pool decls old.game.root

  module _ (r : Result (Unit {0}) PushError) where
    -- a step that closes a query

    abbrev ByClosing : Closing → Type 0
    ByClosing c = IsCloseAnswer here (closing_failure here (numbers_of old.closed) c) c old new r

    by_closing : (c : Closing) (o : Option StepItems) → Some c ≡ option_and_then closing_of_items o → ByClosing c → IsStepAnswer pool decls trees old new step o r
    by_closing c None e w = absurd (cc)
    by_closing c (Some (items.Success k by)) e w = let f : c ≡ record { query = k; certificate = by } = cc in subst ByClosing f w
    by_closing c (Some i) e w = absurd (cc)

    pub closing_pushed : (c : Closing) → Some c ≡ closing_in step → old.steps < 2000 → ByClosing c → IsPushed pool decls trees old new step r
    closing_pushed c e l w = is_pushed l r (by_closing c (items_of_step step) e w)

    -- a cryptographic step

    abbrev ByReducing : Reducing → Type 0
    ByReducing d = IsReduceAnswer pool.limit (length pool.trees) here d.equivalence d.key trees old new r

    by_reducing : (d : Reducing) (o : Option StepItems) → Some d ≡ option_and_then reducing_of_items o → ByReducing d → IsStepAnswer pool decls trees old new step o r
    by_reducing d None e w = absurd (cc)
    by_reducing d (Some (items.Crypto y x)) e w = let f : d ≡ record { equivalence = y; key = x } = cc in subst ByReducing f w
    by_reducing d (Some i) e w = absurd (cc)

    pub reducing_pushed : (d : Reducing) → Some d ≡ reducing_in step → old.steps < 2000 → ByReducing d → IsPushed pool decls trees old new step r
    reducing_pushed d e l w = is_pushed l r (by_reducing d (items_of_step step) e w)

    -- a step with a rule, and one of no kind

    abbrev ByRule : Type 0
    ByRule = IsPushAnswer pool.limit (length pool.trees) (needed here.game step) (judgement_by here (rule_in step)) trees old new r

    by_rule : (o : Option StepItems) → option_and_then closing_of_items o ≡ None → option_and_then reducing_of_items o ≡ None → ByRule → IsStepAnswer pool decls trees old new step o r
    by_rule None n m w = w
    by_rule (Some (items.Success k by)) n m w = absurd (cc)
    by_rule (Some (items.Crypto e x)) n m w = absurd (cc)
    by_rule (Some i) n m w = w

    pub rule_pushed : closing_in step ≡ None → reducing_in step ≡ None → old.steps < 2000 → ByRule → IsPushed pool decls trees old new step r
    rule_pushed n m l w = is_pushed l r (by_rule (items_of_step step) n m w)

  -- want of memory, before a step with a rule was tried
  pub memory_pushed : closing_in step ≡ None → reducing_in step ≡ None → old.steps < 2000 → (r : Result (Unit {0}) PushError) → IsErrAnd r (λ e. e ≡ push.Build build.OutOfMemory) → IsPushed pool decls trees old new step r
  memory_pushed n m l (Ok u) i = absurd i
  memory_pushed n m l (Err e) i = subst (λ y. IsPushed pool decls trees old new step (Err y)) (sym i) (rule_pushed (Err (push.Build build.OutOfMemory)) n m l tt)

  -- how many nodes each adds

  reducing_few : (d : Reducing) (o : Option StepItems) → Some d ≡ option_and_then reducing_of_items o → (u : Unit {0}) → ByReducing (Ok u) d → length trees ≤ length pool.trees + needed_for here step (game_in trees new) o
  reducing_few d None e u w = absurd (cc)
  reducing_few d (Some (items.Crypto y x)) e u w =
      let f : d ≡ record { equivalence = y; key = x } = cc in
      let v : IsReduced pool.limit (length pool.trees) here y x trees old new = subst (ByReducing (Ok u)) f w in
      let few = v.few in
      omega (arith, few)
  reducing_few d (Some i) e u w = absurd (cc)

  pub few_reduced : (d : Reducing) → Some d ≡ reducing_in step → (r : Result (Unit {0}) PushError) → ByReducing r d → OnOk r (length trees ≤ length pool.trees + needed_for here step (game_in trees new) (items_of_step step))
  few_reduced d e (Ok u) w = reducing_few d (items_of_step step) e u w
  few_reduced d e (Err x) w = tt

-- a step of no other kind adds what its rule draws

needed_same : (s : Scene) (step next : Tree) (o : Option StepItems) → option_and_then reducing_of_items o ≡ None → needed_for s step next o ≡ needed s.game step
needed_same s step next None m = refl
needed_same s step next (Some (items.Crypto e x)) m = absurd (cc)
needed_same s step next (Some i) m = refl

pub few_ruled : (s : Scene) (step next : Tree) (a b : ℕ) (r : Result (Unit {0}) PushError) → reducing_in step ≡ None → OnOk r (a ≤ b + needed s.game step) → OnOk r (a ≤ b + needed_for s step next (items_of_step step))
few_ruled s step next a b (Ok u) m l = let e = needed_same s step next (items_of_step step) m in omega (arith, e, l)
few_ruled s step next a b (Err x) m l = tt
