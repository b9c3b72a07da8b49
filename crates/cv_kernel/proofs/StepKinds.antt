-- The kinds of steps: cryptographic ones; and of the others, of which one judgement is said, those that close a query and those that
-- change the game.
use Rattle.std.proofs.Common.{◌≡◌, ℕ, List, length, Option, Some, None, Result, option_and_then, refl, ap, sym, ◌∙◌, subst}
use Rattle.cv_pool.specs.KindTree.{KindTree}
use Rattle.cv_pool.specs.PoolView.{PoolView}
use Rattle.cv_syntax.specs.Classes.{DeclsView}
use Rattle.cv_syntax_trees.specs.Tree.{Tree}
use Rattle.cv_bound.specs.declared.cost.Cost.{Cost as SumCost}
use Rattle.cv_query_certificates.specs.Failures.{Failure}
use Rattle.cv_scene_view.specs.Kept.{scene_of}
use Rattle.cv_scene.specs.Scenes.{Scene}
use Rattle.cv_script.specs.Views.{StepItems, items_of_step}
use Rattle.cv_script.specs.Views as items
use Rattle.cv_steps.specs.Costs.{cost_of}
use Rattle.cv_steps.specs.Judgements.{Judgement, judgement_of}
use Rattle.cv_steps.specs.Judgements as judgement
use Rattle.cv_steps.specs.Steps.{Cost}
use Rattle.cv_steps_laws.specs.crypto.Steps.{IsOutcome, Outcome}
use Rattle.cv_steps_laws.specs.crypto.Steps as outcome
use Rattle.cv_kernel.specs.declared.error.PushError.{PushError}
use Rattle.cv_kernel.specs.declared.sequence.Sequence.{Sequence}
use Rattle.cv_kernel.specs.Closings.{Closing, closing_failure, closing_in, closing_of_items, judgement_by_closing, judgement_in, judgement_of_failure}
use Rattle.cv_kernel.specs.Proofs.{shape_by}
use Rattle.cv_kernel.specs.Answers.{HasNoRoom}
use Rattle.cv_kernel.specs.Rules.{Rule, rule_in, rule_of_items}
use Rattle.cv_kernel.specs.Sayings.{Accepted, MaySay, Saying, saying_by, saying_of}
use Rattle.cv_bound.specs.costs.Costs.{advantage_of}
use Rattle.cv_kernel.specs.Sequences.{IsPushAnswer, IsStepAnswer, closing_cost, game_in, needed, needed_for}
use Rattle.cv_kernel.specs.Steps.{judgement_by}
use Rattle.cv_kernel.specs.Followed.{LacksRoomFor}

-- of a step with these items one judgement is said, and it has no context
pub record IsJudged (o : Option StepItems) : Type 0 where
  pub says : (s : Scene) (ks : List ℕ) (n : ℕ) (t : Tree) (w : Saying) → MaySay s ks n t o w → w ≡ saying_of (judgement_in s ks t)
  pub said : (s : Scene) (ks : List ℕ) (n : ℕ) (t : Tree) (w : Saying) → w ≡ saying_of (judgement_in s ks t) → MaySay s ks n t o w
  pub shape : (s : Scene) → shape_by s o ≡ None
  pub needs : (s : Scene) (step next : Tree) → needed_for s step next o ≡ needed s.game step
  pub lacks : (limit taken : ℕ) (s : Scene) (ks : List ℕ) (t : Tree) (need : ℕ) → LacksRoomFor limit taken s ks t o need → HasNoRoom limit taken (needed s.game t) (judgement_in s ks t) need
  pub lacking : (limit taken : ℕ) (s : Scene) (ks : List ℕ) (t : Tree) (need : ℕ) → HasNoRoom limit taken (needed s.game t) (judgement_in s ks t) need → LacksRoomFor limit taken s ks t o need

-- it changes the game
pub record IsChange (o : Option StepItems) : Type 0 where
  pub closing : option_and_then closing_of_items o ≡ None
  pub answers : (pool : PoolView) (decls : DeclsView) (trees : List KindTree) (old new : Sequence) (step : Tree) (r : Result (Unit {0}) PushError) → IsStepAnswer pool decls trees old new step o r
      → IsPushAnswer pool.limit (length pool.trees) (needed (game_in pool.trees old) step) (judgement_by (scene_of pool decls old.game.root) (rule_in step)) trees old new r

pub data Way (o : Option StepItems) : Type 0 where
  closes : (k : ℕ) (by : Tree) → o ≡ Some (items.Success k by) → Way o
  changes : IsChange o → Way o

pub data Kind (o : Option StepItems) : Type 0 where
  reduces : (e x : ℕ) → o ≡ Some (items.Crypto e x) → Kind o
  judged : IsJudged o → Way o → Kind o

pub kind_of : (o : Option StepItems) → Kind o
kind_of (Some (items.Crypto e x)) = reduces e x refl
kind_of (Some (items.Success k by)) =
    judged (record { says = λ s ks n t w h. h; said = λ s ks n t w h. h; shape = λ s. refl; needs = λ s step next. refl; lacks = λ limit taken s ks t need h. h; lacking = λ limit taken s ks t need h. h })
    (closes k by refl)
kind_of o =
    judged (record { says = λ s ks n t w h. h; said = λ s ks n t w h. h; shape = λ s. refl; needs = λ s step next. refl; lacks = λ limit taken s ks t need h. h; lacking = λ limit taken s ks t need h. h })
    (changes (record { closing = refl; answers = λ pool decls trees old new step r h. h }))

-- what an acceptance says

-- of a cryptographic step
pub record IsReduction (s : Scene) (n e x : ℕ) (next : Tree) (cost : SumCost) : Type 0 where
  pub leads : IsOutcome s e x (outcome.Accepted next)
  pub costs : cost ≡ advantage_of n e

reduction_by : (s : Scene) (n e x : ℕ) (next : Tree) (cost : SumCost) (o : Outcome) → IsOutcome s e x o → Accepted next cost ≡ saying_by n e o → IsReduction s n e x next cost
reduction_by s n e x next cost (outcome.Accepted g) h i = record { leads = (let j : g ≡ next = cc in subst (λ t. IsOutcome s e x (outcome.Accepted t)) j h); costs = cc }
reduction_by s n e x next cost (outcome.Refused c p) h i = absurd (cc)
reduction_by s n e x next cost (outcome.TooLarge m) h i = absurd (cc)
reduction_by s n e x next cost (outcome.TooDeep d) h i = absurd (cc)

pub reduction : (s : Scene) (ks : List ℕ) (n e x : ℕ) (t next : Tree) (cost : SumCost) → MaySay s ks n t (Some (items.Crypto e x)) (Accepted next cost) → IsReduction s n e x next cost
reduction s ks n e x t next cost h = reduction_by s n e x next cost h.0 h.1 h.2

-- of a step that changes the game: its items have a rule
pub record IsPassage (s : Scene) (next : Tree) (cost : SumCost) : Type 0 where
  pub told : StepItems
  pub rule : Rule
  pub ruled : rule_of_items told ≡ Some rule
  pub price : Cost
  pub accepted : judgement_of s rule.step ≡ judgement.Accepted next price
  pub costs : cost ≡ cost_of price

module _ (s : Scene) (next : Tree) (cost : SumCost) where
  passage_at : (i : StepItems) (r : Rule) → rule_of_items i ≡ Some r → (j : Judgement) → judgement_of s r.step ≡ j → Accepted next cost ≡ saying_of j → IsPassage s next cost
  passage_at i r u (judgement.Accepted g c) e w =
      record { told = i; rule = r; ruled = u; price = c; accepted = e ∙ (let j : g ≡ next = cc in ap (λ m. judgement.Accepted m c) j); costs = cc }
  passage_at i r u (judgement.Refused c p) e w = absurd (cc)
  passage_at i r u (judgement.TooLarge m) e w = absurd (cc)
  passage_at i r u (judgement.TooDeep d) e w = absurd (cc)

  passage_by : (i : StepItems) (o : Option Rule) → rule_of_items i ≡ o → Accepted next cost ≡ saying_of (judgement_by s o) → IsPassage s next cost
  passage_by i None u w = absurd (cc)
  passage_by i (Some r) u w = passage_at i r u (judgement_of s r.step) refl w

  passage_of : (o : Option StepItems) → Accepted next cost ≡ saying_of (judgement_by s (option_and_then rule_of_items o)) → IsPassage s next cost
  passage_of None w = absurd (cc)
  passage_of (Some i) w = passage_by i (rule_of_items i) refl w

  pub passage : (ks : List ℕ) (t : Tree) → closing_in t ≡ None → Accepted next cost ≡ saying_of (judgement_in s ks t) → IsPassage s next cost
  passage ks t n w = passage_of (items_of_step t) (w ∙ ap (λ c. saying_of (judgement_by_closing s ks t c)) n)

-- of a step that closes a query: the game stays, and it costs what its certificate does
pub record IsClosure (s : Scene) (c : Closing) (o : Option Failure) (next : Tree) (cost : SumCost) : Type 0 where
  pub game : next ≡ s.game
  pub costs : cost ≡ closing_cost s c
  pub passes : o ≡ None

closure_by : (s : Scene) (c : Closing) (o : Option Failure) (next : Tree) (cost : SumCost) → Accepted next cost ≡ saying_of (judgement_of_failure s c.certificate o) → IsClosure s c o next cost
closure_by s c None next cost i = record { game = cc; costs = cc; passes = refl }
closure_by s c (Some f) next cost i = absurd (cc)

closing_judged : (s : Scene) (ks : List ℕ) (n : ℕ) (t : Tree) (c : Closing) (w : Saying) (o : Option StepItems) → items_of_step t ≡ o → closing_in t ≡ Some c → Kind o → MaySay s ks n t o w → w ≡ saying_of (judgement_in s ks t)
closing_judged s ks n t c w o i e (judged j v) h = j.says s ks n t w h
closing_judged s ks n t c w o i e (reduces d x q) h = absurd (let z = sym e ∙ ap (option_and_then closing_of_items) (i ∙ q) in cc)

pub closure : (s : Scene) (ks : List ℕ) (n : ℕ) (t : Tree) (c : Closing) (next : Tree) (cost : SumCost) → closing_in t ≡ Some c → MaySay s ks n t (items_of_step t) (Accepted next cost) → IsClosure s c (closing_failure s ks c) next cost
closure s ks n t c next cost e h =
    closure_by s c (closing_failure s ks c) next cost
    (closing_judged s ks n t c (Accepted next cost) (items_of_step t) refl e (kind_of (items_of_step t)) h ∙ ap (λ o. saying_of (judgement_by_closing s ks t o)) e)
