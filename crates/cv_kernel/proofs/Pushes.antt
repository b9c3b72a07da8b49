-- Steps that a sequence takes.
use Rattle.std.proofs.Common.{◌≡◌, ℕ, suc, ◌+◌, ◌*◌, ◌<◌, ◌≤◌, Bool, true, false, nat_lt, if◌then◌else◌, List, length, Option, Some, None, Result, Ok, Err, refl, sym, ap, ◌∙◌, subst, arith}
use Rattle.std.proofs.lemmas.Bool.Decides.{nat_tests}
use Rattle.std.specs.Prelude.{OnOk}
use Rattle.cv_pool.specs.KindTree.{KindTree}
use Rattle.cv_pool.specs.PoolView.{PoolView}
use Rattle.cv_syntax.specs.Classes.{DeclsView}
use Rattle.cv_syntax.specs.declared.work.BuildError.TheVariants as build
use Rattle.cv_syntax.specs.Declarations.{declarations}
use Rattle.cv_syntax_trees.specs.Tree.{Tree, depth, size}
use Rattle.cv_syntax.specs.PoolTrees.{tree_at}
use Rattle.cv_bound.specs.declared.cost.Cost.{Cost as SumCost}
use Rattle.cv_bound.specs.declared.cost.Cost.TheVariants as bound
use Rattle.cv_bound.specs.Sums.{coefficients, terms_of}
use Rattle.cv_steps.proofs.values.Coefficients.{coefficients_added, counted_once, counted_twice, small_fit}
use Rattle.cv_edit_places.specs.Plans.{most_coefficients}
use Rattle.cv_bound.specs.costs.Sums.{SumsFit, with_cost}
use Rattle.cv_bound.specs.declared.costs.sums.Sums.{Sums}
use Rattle.cv_scene_view.specs.Kept.{scene_of}
use Rattle.cv_scene.specs.Scenes.{Scene}
use Rattle.cv_scene.specs.Terms.{is_game}
use Rattle.cv_steps.specs.Costs.{cost_of}
use Rattle.cv_steps.specs.Judgements.{Judgement, Refused, TooLarge, TooDeep, Accepted, judgement_of_row}
use Rattle.cv_steps.specs.Steps.{Cost, Fails, Leads, Row}
use Rattle.cv_kernel.specs.declared.error.PushError.{PushError}
use Rattle.cv_kernel.specs.declared.error.PushError.TheVariants as push
use Rattle.cv_kernel.specs.declared.sequence.Sequence.{Sequence}
use Rattle.cv_kernel.specs.Answers.{IsDrawn, as_told}
use Rattle.cv_kernel.specs.Closings.{closing_in}
use Rattle.cv_kernel.specs.Reducings.{reducing_in}
use Rattle.cv_kernel.specs.Rules.{Rule, needed_by, rule_in}
use Rattle.cv_kernel.specs.Sequences.{AreModest, IsAdvanced, IsPushAnswer, IsPushed, Same, game_in, needed}
use Rattle.cv_kernel.specs.Steps.{judgement_by}
use Rattle.cv_kernel.proofs.StepAnswers.{rule_pushed}

-- an accepted step leads to a game within the limits

small_by : (s : Scene) (row : Row) (stand a b g : Bool) (next n : Tree) (cost c : Cost) → nat_lt 50000 (size next) ≡ a → (if a then TooLarge (size next) else if b then TooDeep (depth next) else if g then Accepted next cost else Refused 9 0) ≡ Accepted n c → size n ≤ 50000
small_by s row stand true b g next n cost c l e = absurd (cc)
small_by s row stand false true g next n cost c l e = absurd (cc)
small_by s row stand false false false next n cost c l e = absurd (cc)
small_by s row stand false false true next n cost c l e = let f : next ≡ n = cc in subst (λ t. size t ≤ 50000) f (grind (arith, nat_tests))

small_row : (s : Scene) (row : Row) (n : Tree) (c : Cost) → judgement_of_row s row ≡ Accepted n c → size n ≤ 50000
small_row s (Fails condition place) n c e = absurd (cc)
small_row s (Leads next cost) n c e = small_by s (Leads next cost) true (nat_lt 50000 (size next)) (nat_lt 200 (depth next)) (is_game s.declarations next) next n cost c refl e

small_stand : (s : Scene) (row : Row) (b : Bool) (n : Tree) (c : Cost) → (if b then judgement_of_row s row else Refused 0 0) ≡ Accepted n c → size n ≤ 50000
small_stand s row true n c e = small_row s row n c e
small_stand s row false n c e = absurd (cc)

pub accepted_small : (s : Scene) (o : Option Rule) (n : Tree) (c : Cost) → judgement_by s o ≡ Accepted n c → size n ≤ 50000
accepted_small s None n c e = absurd (cc)
accepted_small s (Some r) n c e = small_stand s (r.step.row s) (r.step.stands s) n c e

-- sums have room for a cost more

pub counted_both : (c : SumCost) → coefficients (terms_of c true) ≡ 2 * coefficients (terms_of c false)
counted_both bound.Zero = refl
counted_both (bound.Collisions cs) = counted_twice cs ∙ ap (λ n. 2 * n) (sym (counted_once cs))
counted_both (bound.Advantage n e) = refl

module _ (sums : Sums) (c : SumCost) (steps : ℕ) (modest : AreModest sums steps) (few : coefficients (terms_of c false) ≤ most_coefficients) where
  pub modest_on : AreModest (with_cost sums c) (steps + 1)
  modest_on = omega (arith, modest, few, coefficients_added sums.plain c false, coefficients_added sums.secret c true, counted_both c)

  pub fits_on : steps < 2000 → SumsFit (with_cost sums c)
  fits_on l = (small_fit (with_cost sums c).plain (omega (arith, modest_on, l)), small_fit (with_cost sums c).secret (omega (arith, modest_on, l)))

-- what stays while a pool grows

-- the same answer, in a sequence that only looked up what there is to read

module _ (pool : PoolView) (decls : DeclsView) (trees more : List KindTree) (old mid new : Sequence) (step : Tree) (o : Option Rule) (same : Same old mid) (is : rule_in step ≡ o) where
  abbrev scene_at : Sequence → Scene
  scene_at s = scene_of pool decls s.game.root

  abbrev Answer : (from : Sequence) → List KindTree → Result (Unit {0}) PushError → Type 0
  Answer from ts r = IsPushAnswer pool.limit (length pool.trees) (needed_by (game_in pool.trees from) o) (judgement_by (scene_at from) o) ts from new r

  game : game_in pool.trees mid ≡ game_in pool.trees old
  game = ap (λ q. tree_at pool.trees (Some q.root)) same.game

  -- whatever trees are left, where the step isn't taken, and whatever sequence of the same game it was tried in
  answer_of : (g h : Tree) (j k : Judgement) (r : Result (Unit {0}) PushError) → g ≡ h → j ≡ k → OnOk r (more ≡ trees) → IsPushAnswer pool.limit (length pool.trees) (needed_by g o) j trees mid new r → IsPushAnswer pool.limit (length pool.trees) (needed_by h o) k more old new r
  answer_of g h j k (Ok u) e f m w = record {
    cost = w.cost;
    accepted = sym f ∙ (w.accepted ∙ ap (λ ts. Accepted (game_in ts new) w.cost) (sym m));
    steps = w.steps ∙ ap suc same.steps;
    costs = w.costs;
    sum = w.sum ∙ ap (λ (s : Sums). with_cost s (cost_of w.cost)) same.sum;
    closed = w.closed ∙ same.closed;
    context = w.context;
    room = (let l = w.room in let n = ap (λ t. needed_by t o) e in omega arith);
  }
  answer_of g h j k (Err (push.Refused q)) e f m w = sym f ∙ w
  answer_of g h j k (Err push.Steps) e f m w = w
  answer_of g h j k (Err (push.Build (build.Nodes n))) e f m w = ap as_told (sym f) ∙ w
  answer_of g h j k (Err (push.Build (build.Depth n))) e f m w = ap as_told (sym f) ∙ w
  answer_of g h j k (Err (push.Build (build.Full n))) e f m w = record { drawn = subst IsDrawn f w.drawn; asks = w.asks ∙ ap (λ t. needed_by t o) e; over = w.over }
  answer_of g h j k (Err (push.Build build.OutOfMemory)) e f m w = tt

  tried : (r : Result (Unit {0}) PushError) → OnOk r (more ≡ trees) → IsAdvanced pool decls trees mid new o r → Answer old more r
  tried r m w =
      answer_of (game_in pool.trees mid) (game_in pool.trees old) (judgement_by (scene_at mid) o) (judgement_by (scene_at old) o) r game (ap (λ q. judgement_by (scene_of pool decls q.root) o) same.game) m w

  by_result : closing_in step ≡ None → reducing_in step ≡ None → old.steps < 2000 → (r : Result (Unit {0}) PushError) → Answer old more r → IsPushed pool decls more old new step r
  by_result changes ruled l r w =
      rule_pushed pool decls more old new step r changes ruled l
      (subst (λ q. IsPushAnswer pool.limit (length pool.trees) (needed_by (game_in pool.trees old) q) (judgement_by (scene_at old) q) more old new r) (sym is) w)

  pub pushed : closing_in step ≡ None → reducing_in step ≡ None → old.steps < 2000 → (r q : Result (Unit {0}) PushError) → q ≡ r → OnOk r (more ≡ trees) → IsAdvanced pool decls trees mid new o r → IsPushed pool decls more old new step q
  pushed changes ruled l r q e m w = subst (IsPushed pool decls more old new step) (sym e) (by_result changes ruled l r (tried r m w))

  pub few_pushed : (r q : Result (Unit {0}) PushError) → q ≡ r → OnOk r (more ≡ trees) → OnOk r (length trees ≤ length pool.trees + needed_by (game_in pool.trees mid) o) → OnOk q (length more ≤ length pool.trees + needed (game_in pool.trees old) step)
  few_pushed (Ok u) q e m l =
      let a = ap length m in
      let b = ap (λ g. needed_by g o) game in
      let n = ap (needed_by (game_in pool.trees old)) is in
      subst (λ z. OnOk z (length more ≤ length pool.trees + needed (game_in pool.trees old) step)) (sym e) (omega (arith, a, b, n, l))
  few_pushed (Err z) q e m l = subst (λ s. OnOk s (length more ≤ length pool.trees + needed (game_in pool.trees old) step)) (sym e) l

-- the pool as a settled outcome leaves it
pub settled_trees : (r q : Result (Unit {0}) PushError) (trees more : List KindTree) → q ≡ r → OnOk q (more ≡ trees) → OnOk r (more ≡ trees)
settled_trees r q trees more e m = subst (λ s. OnOk s (more ≡ trees)) e m

pub ok_trees : (q : Result (Unit {0}) PushError) (new old : PoolView) → OnOk q (new ≡ old) → OnOk q (new.trees ≡ old.trees)
ok_trees (Ok u) new old e = ap (λ (v : PoolView). v.trees) e
ok_trees (Err x) new old e = e
