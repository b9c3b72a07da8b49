-- What is answered of a step whose conditions hold, by its next game.
use Rattle.std.proofs.Common.{◌≡◌, ℕ, ◌+◌, ◌≤◌, Bool, true, false, nat_lt, if◌then◌else◌, List, Option, Some, None, Result, Ok, Err, refl, sym, ap, ap₂, ◌∙◌, subst, arith}
use Rattle.std.proofs.lemmas.Bool.Decides.{nat_tests}
use Rattle.std.specs.Prelude.{IfErr, IfOk, IsErrAnd, OnOk}
use Rattle.cv_pool.specs.KindTree.{KindTree}
use Rattle.cv_pool.specs.declared.node.NodeId.{NodeId}
use Rattle.cv_syntax.specs.declared.work.BuildError.{BuildError}
use Rattle.cv_syntax.specs.declared.work.BuildError.TheVariants as build
use Rattle.cv_syntax_trees.specs.Declarations.{Declaration}
use Rattle.cv_syntax_trees.specs.Tree.{Tree, Empty, depth, size}
use Rattle.cv_syntax.specs.PoolTrees.{tree_at}
use Rattle.cv_syntax.specs.limits.Limits.{limit_fault, told}
use Rattle.cv_scope_rules.specs.Phrases.{is_phrase}
use Rattle.cv_scene.specs.Scenes.{Scene}
use Rattle.cv_scene.specs.Terms.{is_game}
use Rattle.cv_bound.specs.declared.cost.Cost.TheVariants as bound
use Rattle.cv_steps.specs.Judgements.{Judgement, Refused, TooLarge, TooDeep, Accepted, judgement_of, judgement_of_row}
use Rattle.cv_bound.specs.declared.cost.Cost.{Cost as SumCost}
use Rattle.cv_bound.specs.Sums.{coefficients, terms_of}
use Rattle.cv_steps.specs.Costs.{cost_of}
use Rattle.cv_steps.specs.Steps.{Cost, Leads, Row, Step, Zero}
use Rattle.cv_edit_places.specs.Plans.{most_coefficients}
use Rattle.cv_edit_places.specs.declared.plan.Failure.{Failure}
use Rattle.cv_rule.proofs.Leading.{stood}
use Rattle.cv_kernel.specs.declared.planning.StepPlan.{StepPlan}
use Rattle.cv_rule.specs.edit.Edits.{CanBeMade, IsEditFault, edited, need_of}
use Rattle.cv_kernel_crypto.specs.declared.games.testing.Next.{Next}
use Rattle.cv_kernel.specs.declared.error.RuleError.{RuleError}
use Rattle.cv_kernel.specs.declared.error.RuleError.TheVariants as rule
use Rattle.cv_kernel.specs.Answers.{IsAnswer, IsDrawn, IsEditBy, IsNoGame, IsPlan, IsPricedBy, IsUnplanned}
use Rattle.cv_kernel.specs.Rules.{Rule, needed_by}
use Rattle.cv_kernel.specs.Steps.{judgement_by}

module _ (s : Scene) (next : Tree) (cost : Cost) where
  abbrev judged : Judgement
  judged = judgement_of_row s (Leads next cost)

  -- a number that is told passes a limit where the number does
  over_nodes : (n : ℕ) → nat_lt 50000 (told n) ≡ nat_lt 50000 n
  over_nodes n = grind (arith, nat_tests)

  over_depth : (n : ℕ) → nat_lt 200 (told n) ≡ nat_lt 200 n
  over_depth n = grind (arith, nat_tests)

  abbrev fault_by : (nodes deep : ℕ) → (a b : Bool) → Option BuildError
  fault_by nodes deep a b = if a then Some (build.Nodes nodes) else if b then Some (build.Depth deep) else None

  module _ (nodes deep : ℕ) (f : nodes ≡ told (size next)) (h : deep ≡ told (depth next)) where
    fault_same : limit_fault nodes deep ≡ fault_by nodes deep (nat_lt 50000 (size next)) (nat_lt 200 (depth next))
    fault_same = ap₂ (fault_by nodes deep) (ap (nat_lt 50000) f ∙ over_nodes (size next)) (ap (nat_lt 200) h ∙ over_depth (depth next))

    -- a limit is passed
    over_by : (a b g : Bool) (e : BuildError) → fault_by nodes deep a b ≡ Some e
        → (limit live need : ℕ) (trees : List KindTree) → IsAnswer limit live need (if a then TooLarge (size next) else if b then TooDeep (depth next) else if g then Accepted next cost else Refused 9 0) trees (Err (rule.Build e))
    over_by true b g e w limit live need trees = subst (λ y. IsAnswer limit live need (TooLarge (size next)) trees (Err (rule.Build y))) (let i : build.Nodes nodes ≡ e = cc in i) (ap TooLarge (sym f))
    over_by false true g e w limit live need trees = subst (λ y. IsAnswer limit live need (TooDeep (depth next)) trees (Err (rule.Build y))) (let i : build.Depth deep ≡ e = cc in i) (ap TooDeep (sym h))
    over_by false false g e w limit live need trees = absurd (cc)

    pub over_answer : (e : BuildError) → limit_fault nodes deep ≡ Some e → (limit live need : ℕ) (trees : List KindTree) → IsAnswer limit live need judged trees (Err (rule.Build e))
    over_answer e w limit live need trees =
        over_by (nat_lt 50000 (size next)) (nat_lt 200 (depth next)) (is_game s.declarations next) e (sym fault_same ∙ w) limit live need trees

    -- the limits hold
    within_by : (a b g : Bool) → fault_by nodes deep a b ≡ None
        → (if a then TooLarge (size next) else if b then TooDeep (depth next) else if g then Accepted next cost else Refused 9 0) ≡ (if g then Accepted next cost else Refused 9 0)
    within_by true b g w = absurd (cc)
    within_by false true g w = absurd (cc)
    within_by false false g w = refl

  module _ (nodes deep : ℕ) (f : nodes ≡ told (size next)) (h : deep ≡ told (depth next)) (w : limit_fault nodes deep ≡ None) where
    judged_within : judged ≡ (if is_game s.declarations next then Accepted next cost else Refused 9 0)
    judged_within = within_by nodes deep f h (nat_lt 50000 (size next)) (nat_lt 200 (depth next)) (is_game s.declarations next) (sym (fault_same nodes deep f h) ∙ w)

    accepted : is_game s.declarations next ≡ true → judged ≡ Accepted next cost
    accepted e = judged_within ∙ ap (λ b. if b then Accepted next cost else Refused 9 0) e

    pub refused : is_game s.declarations next ≡ false → judged ≡ Refused 9 0
    refused e = judged_within ∙ ap (λ b. if b then Accepted next cost else Refused 9 0) e

    drawn_by : (b : Bool) → IsDrawn (if b then Accepted next cost else Refused 9 0)
    drawn_by true = tt
    drawn_by false = refl

    drawn : IsDrawn judged
    drawn = subst IsDrawn (sym judged_within) (drawn_by (is_game s.declarations next))

    -- no game is drawn
    pub edit_answer : (limit live need : ℕ) (trees : List KindTree) (e : BuildError) → IsEditFault limit live need e → IsAnswer limit live need judged trees (Err (rule.Build e))
    edit_answer limit live need trees (build.Full n) i = record { drawn = drawn; asks = i.0; over = i.1 }
    edit_answer limit live need trees build.OutOfMemory i = tt
    edit_answer limit live need trees (build.Nodes n) i = absurd i
    edit_answer limit live need trees (build.Depth n) i = absurd i

    -- what is drawn is no game
    no_game_answer : (limit live need : ℕ) (trees : List KindTree) (b : Bool) (e : RuleError) → is_game s.declarations next ≡ b → IsNoGame b e → IsAnswer limit live need judged trees (Err e)
    no_game_answer limit live need trees b (rule.Refused y) g i = refused (g ∙ i.1) ∙ ap (λ (z : Failure). Refused z.condition z.place) (sym i.0)
    no_game_answer limit live need trees b (rule.Build build.OutOfMemory) g i = tt
    no_game_answer limit live need trees b (rule.Build (build.Full n)) g i = absurd i
    no_game_answer limit live need trees b (rule.Build (build.Nodes n)) g i = absurd i
    no_game_answer limit live need trees b (rule.Build (build.Depth n)) g i = absurd i

    -- what is drawn is tested
    pub game_answer : (limit live need : ℕ) (trees : List KindTree) (ds : List Declaration) (root : NodeId) → ds ≡ s.declarations → tree_at trees (Some root) ≡ next → live + need ≤ limit
        → (code : SumCost) → code ≡ cost_of cost → coefficients (terms_of code false) ≤ most_coefficients
        → (r : Result Next RuleError) → IfOk r (λ n. n.game.root ≡ root) → IfOk r (λ n. n.cost ≡ code) → OnOk r (is_game ds (tree_at trees (Some root)) ≡ true) → IfErr r (IsNoGame (is_game ds (tree_at trees (Some root)))) → IsAnswer limit live need judged trees r
    game_answer limit live need trees ds root d t l code k f (Ok n) a b g e = record {
      cost = cost;
      accepted = accepted (ap₂ is_game (sym d) (sym t) ∙ g) ∙ ap (λ u. Accepted u cost) (sym t ∙ ap (λ m. tree_at trees (Some m)) (sym a));
      costs = b ∙ k;
      few = subst (λ q. coefficients (terms_of q false) ≤ most_coefficients) (sym b) f;
      room = l;
    }
    game_answer limit live need trees ds root d t l code k f (Err y) a b g e = no_game_answer limit live need trees (is_game ds (tree_at trees (Some root))) y (ap₂ is_game (sym d) (sym t)) e

-- an error that was passed on
pub answer_through : (limit live need : ℕ) (j : Judgement) (trees : List KindTree) (r : Result Next RuleError) (e : RuleError) → IsErrAnd r (λ x. x ≡ e) → IsAnswer limit live need j trees (Err e) → IsAnswer limit live need j trees r
answer_through limit live need j trees (Ok n) e i h = absurd i
answer_through limit live need j trees (Err x) e i h = subst (λ y. IsAnswer limit live need j trees (Err y)) (sym i) h

-- no tree is no game
pub empty_game : (s : Scene) (t : Tree) → t ≡ Empty → is_game s.declarations t ≡ false
unfolding is_phrase
empty_game s t e = ap (is_game s.declarations) e

-- a step without an edit is answered by its judgement
pub unplanned_answer : (limit live need : ℕ) (j : Judgement) (trees : List KindTree) (e : RuleError) → IsUnplanned j e → IsAnswer limit live need j trees (Err e)
unplanned_answer limit live need j trees (rule.Refused f) h = h
unplanned_answer limit live need j trees (rule.Build build.OutOfMemory) h = tt
unplanned_answer limit live need j trees (rule.Build (build.Full n)) h = absurd h
unplanned_answer limit live need j trees (rule.Build (build.Nodes n)) h = absurd h
unplanned_answer limit live need j trees (rule.Build (build.Depth n)) h = absurd h

-- and one with an edit by that of its next game

judged_met : (s : Scene) (x : Step) (row : Row) → x.stands s ≡ true → x.row s ≡ row → judgement_of s x ≡ judgement_of_row s row
judged_met s x row e f = ap (λ b. if b then judgement_of_row s (x.row s) else Refused 0 0) e ∙ ap (judgement_of_row s) f

module _ (trees : List KindTree) (s : Scene) (p : StepPlan) where
  pub planned_judgement : (o : Option Rule) → (h : IsPricedBy trees s o p) → (c : Cost) × (p.cost ≡ cost_of c) × (judgement_by s o ≡ judgement_of_row s (Leads (edited trees s.game p.edit) c))
  planned_judgement None h = absurd h
  planned_judgement (Some r) h = (h.cost, h.same, judged_met s r.step (Leads (edited trees s.game p.edit) h.cost) (stood s r.step h.edit.met).0 h.edit.leads)

  pub planned_need : (o : Option Rule) → IsPricedBy trees s o p → needed_by s.game o ≡ need_of s.game p.edit
  planned_need None h = absurd h
  planned_need (Some r) h = h.edit.need

  pub can_be_made : (o : Option Rule) → IsPricedBy trees s o p → CanBeMade trees s.game p.edit
  can_be_made None h = absurd h
  can_be_made (Some r) h = h.edit.can

  pub planned_few : (o : Option Rule) → IsPricedBy trees s o p → coefficients (terms_of p.cost false) ≤ most_coefficients
  planned_few None h = absurd h
  planned_few (Some r) h = h.few

-- an edit that costs nothing
pub free_plan : (trees : List KindTree) (s : Scene) (o : Option Rule) (p : StepPlan) → p.cost ≡ bound.Zero → IsEditBy trees s o p.edit → IsPricedBy trees s o p
free_plan trees s None p e h = absurd h
free_plan trees s (Some r) p e h = record { cost = Zero; edit = h; same = e; few = subst (λ q. coefficients (terms_of q false) ≤ most_coefficients) (sym e) (omega arith) }

pub plan_free : (trees : List KindTree) (s : Scene) (o : Option Rule) (r : Result StepPlan RuleError) (e : RuleError) → IsErrAnd r (λ x. x ≡ e) → IsUnplanned (judgement_by s o) e → IsPlan trees s o r
plan_free trees s o (Ok p) e i h = absurd i
plan_free trees s o (Err x) e i h = subst (IsUnplanned (judgement_by s o)) (sym i) h
