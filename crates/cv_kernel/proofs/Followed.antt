-- What a sequence has that has followed steps, with one step more.
use Rattle.std.proofs.Common.{◌≡◌, ℕ, suc, ◌+◌, ◌<◌, ◌≤◌, List, [], ◌∷◌, ◌++◌, length, length-append, refl, ap, ap₂, sym, ◌∙◌, subst, arith, append-nil, Option, Some, None, option_and_then, Ok, inl, inr}
use Rattle.std.proofs.lemmas.List.{map-append}
use Rattle.std.specs.Prelude.{option_map}
use Rattle.cv_pool.specs.KindTree.{KindTree}
use Rattle.cv_pool.specs.PoolView.{PoolView, Grows}
use Rattle.cv_syntax.specs.Classes.{DeclsView}
use Rattle.cv_syntax.specs.declared.work.Game.{Game}
use Rattle.cv_syntax_trees.specs.Declarations.{Declaration}
use Rattle.cv_syntax.specs.Declarations.{declarations}
use Rattle.cv_syntax_trees.specs.Tree.{Tree}
use Rattle.cv_syntax.specs.limits.Limits.{told}
use Rattle.cv_syntax.specs.PoolTrees.{tree_at}
use Rattle.cv_bound.specs.declared.cost.Cost.{Cost}
use Rattle.cv_kernel.specs.declared.sequence.Sequence.{Sequence}
use Rattle.cv_bound.specs.closings.Queries.{numbers_of}
use Rattle.cv_context.specs.products.ShapesInCode.{shape_in}
use Rattle.cv_scene_view.specs.Kept.{scene_of}
use Rattle.cv_steps_laws.specs.crypto.Steps.{IsOutcome, Outcome}
use Rattle.cv_steps_laws.specs.crypto.Steps as outcome
use Rattle.cv_kernel_crypto.specs.Applied as crypto
use Rattle.cv_kernel.specs.Closings.{Closing, closing_failure, closing_in, closing_of_items, judgement_by_closing, judgement_in, judgement_of_failure}
use Rattle.cv_kernel.specs.Proofs.{IsProof, IsTransition, Transition, closed_by, push, shape_at, shape_by, start, sums_behind}
use Rattle.cv_kernel.specs.Answers.{as_told}
use Rattle.cv_kernel.specs.Sayings.{Accepted, IsSaid, MaySay, saying_by, saying_of}
use Rattle.cv_kernel.specs.Sayings as saying
use Rattle.cv_bound.specs.costs.Costs.{advantage_of}
use Rattle.cv_bound.specs.costs.Sums.{no_sums, with_cost}
use Rattle.cv_steps.specs.Costs.{cost_of}
use Rattle.cv_steps.specs.Judgements as judgement
use Rattle.cv_kernel.specs.Sequences as kernel
use Rattle.cv_kernel.specs.Rules.{needed_by, rule_of_items}
use Rattle.cv_kernel.specs.Sequences.{IsPushed, needed, needed_for}
use Rattle.cv_kernel.specs.Steps.{judgement_at}
use Rattle.cv_script.specs.Views.{StepItems, items_of_step}
use Rattle.cv_script.specs.Views as items
use Rattle.cv_scene.specs.Scenes.{Scene}
use Rattle.cv_steps.specs.Sequences.{scene}
use Rattle.cv_query_certificates.specs.Failures.{Failure}
use Rattle.cv_steps.specs.Judgements.{Judgement}
use Rattle.cv_syntax.proofs.Buildings.{child_grown}
use Rattle.cv_kernel.specs.Followed.{HasFollowed, LacksRoomFor, closed_before, known_to}
use Rattle.cv_kernel.proofs.Closings.{closings_put, numbers_same, sum_put}
use Rattle.cv_kernel.proofs.StepKinds.{IsJudged, Kind, kind_of}
use Rattle.cv_kernel.proofs.StepKinds as kind
use Rattle.cv_kernel.proofs.Walked.{last_is, nodes_append}

-- no step was taken
unfoldable pub followed_none : (before : ℕ) (ds : List Declaration) (own : ℕ) (trees : List KindTree) (s : Sequence) (first : Tree) → s.steps ≡ 0 → s.sum ≡ no_sums → s.closed ≡ [] → length trees ≤ before → kernel.game_in trees s ≡ first → HasFollowed before ds own first [] trees s
followed_none before ds own trees s first c m k l g = record {
  proof = [];
  steps = refl;
  leads = subst (λ t. IsProof ds (known_to own) first [] t) (sym g) start;
  count = c;
  sum = m;
  closed = k;
  nodes = omega arith;
}

-- a size or a depth is said as it is told

pub told_large : (j : Judgement) (k : ℕ) → as_told j ≡ judgement.TooLarge k → saying_of j ≡ saying.TooLarge k
told_large (judgement.Refused condition place) k e = absurd (cc)
told_large (judgement.TooLarge n) k e = let f : told n ≡ k = cc in ap saying.TooLarge f
told_large (judgement.TooDeep n) k e = absurd (cc)
told_large (judgement.Accepted next cost) k e = absurd (cc)

pub told_deep : (j : Judgement) (k : ℕ) → as_told j ≡ judgement.TooDeep k → saying_of j ≡ saying.TooDeep k
told_deep (judgement.Refused condition place) k e = absurd (cc)
told_deep (judgement.TooLarge n) k e = absurd (cc)
told_deep (judgement.TooDeep n) k e = let f : told n ≡ k = cc in ap saying.TooDeep f
told_deep (judgement.Accepted next cost) k e = absurd (cc)

-- behind more nodes there is no more room

pub room_wider : (limit m n : ℕ) (s : Scene) (e x need : ℕ) → m ≤ n → crypto.HasNoRoom limit m s e x need → crypto.HasNoRoom limit n s e x need
room_wider limit m n s e x need l h = record {
  failure = h.failure;
  context = h.context;
  made = h.made;
  full = elim h.full [
    | inl k ↦ inl (k.0, (let o = k.1 in omega arith))
    | inr k ↦ inr (k.0, k.1, k.2, (let o = k.3 in omega arith))
  ];
}

pub lacks_wider : (limit m n : ℕ) (s : Scene) (ks : List ℕ) (step : Tree) (need : ℕ) → Kind (items_of_step step) → m ≤ n → LacksRoomFor limit m s ks step (items_of_step step) need → LacksRoomFor limit n s ks step (items_of_step step) need
lacks_wider limit m n s ks step need (kind.reduces e x q) l h = subst (λ o. LacksRoomFor limit n s ks step o need) (sym q) (room_wider limit m n s e x need l (subst (λ o. LacksRoomFor limit m s ks step o need) q h))
lacks_wider limit m n s ks step need (kind.judged j v) l h =
    let r = j.lacks limit m s ks step need h in
    let o = r.over in
    j.lacking limit n s ks step need (record { drawn = r.drawn; asks = r.asks; over = omega arith })

-- the scene of the last game of a sequence, in code and in its file

abbrev pub code_scene : PoolView → DeclsView → Sequence → Scene
code_scene pool decls s = scene_of pool decls s.game.root

abbrev pub file_scene : List Declaration → (own : ℕ) → List KindTree → Sequence → Scene
file_scene ds own trees s = scene ds (known_to own) (kernel.game_in trees s)

module _ (ds : List Declaration) (own : ℕ) (old : PoolView) (decls : DeclsView) (is_ds : declarations old.trees decls.list ≡ ds) (is_own : decls.own ≡ own) where
  pub scenes : (s : Sequence) → code_scene old decls s ≡ file_scene ds own old.trees s
  scenes s = ap₂ (λ (x : List Declaration) (n : ℕ). scene x (known_to n) (kernel.game_in old.trees s)) is_ds is_own

  -- the judgement of a step in the scene of the code: of one that closes no query, and of one that closes one

  pub change_said : (s : Sequence) (ks : List ℕ) (step : Tree) (j : Judgement) → closing_in step ≡ None → judgement_at (code_scene old decls s) step ≡ j → saying_of j ≡ saying_of (judgement_in (file_scene ds own old.trees s) ks step)
  change_said s ks step j n e = ap saying_of (sym e ∙ (ap (λ x. judgement_at x step) (scenes s) ∙ ap (judgement_by_closing (file_scene ds own old.trees s) ks step) (sym n)))

  pub close_said : (s : Sequence) (ks : List ℕ) (step : Tree) (c : Closing) (o : Option Failure) → closing_in step ≡ Some c → numbers_of s.closed ≡ ks → closing_failure (code_scene old decls s) (numbers_of s.closed) c ≡ o → saying_of (judgement_of_failure (file_scene ds own old.trees s) c.certificate o) ≡ saying_of (judgement_in (file_scene ds own old.trees s) ks step)
  close_said s ks step c o i k e =
      ap saying_of (ap (judgement_of_failure (file_scene ds own old.trees s) c.certificate) (sym e ∙ ap₂ (λ x ls. closing_failure x ls c) (scenes s) k)
      ∙ ap (judgement_by_closing (file_scene ds own old.trees s) ks step) (sym i))

  -- what a cryptographic step may come to in the scene of the code
  pub outcome_said : (s : Sequence) (ks : List ℕ) (step : Tree) (e x : ℕ) → items_of_step step ≡ Some (items.Crypto e x) → (o : Outcome) → IsOutcome (code_scene old decls s) e x o → IsSaid (file_scene ds own old.trees s) ks (suc s.steps) step (saying_by (suc s.steps) e o)
  outcome_said s ks step e x q o h = subst (λ i. MaySay (file_scene ds own old.trees s) ks (suc s.steps) step i (saying_by (suc s.steps) e o)) (sym q) (o, subst (λ z. IsOutcome z e x o) (scenes s) h, refl)

module _ (before : ℕ) (ds : List Declaration) (own : ℕ) (first : Tree) (old new : PoolView) (decls : DeclsView) (is_ds : declarations old.trees decls.list ≡ ds) (is_own : decls.own ≡ own) where
  numbers : (front : List Tree) (s : Sequence) (h : HasFollowed before ds own first front old.trees s) → numbers_of s.closed ≡ closed_by h.proof
  numbers front s h = ap numbers_of h.closed ∙ numbers_same no_sums h.proof

  -- what a step more leaves: its cost, what is said of it, the shape of its context, how many steps, the sum, and what is closed
  record Leaves (s t : Sequence) (tree : Tree) (ks : List ℕ) : Type 0 where
    pub cost : Cost
    pub costs : t.cost ≡ Some cost
    pub said : IsSaid (file_scene ds own old.trees s) ks (suc s.steps) tree (Accepted (kernel.game_in new.trees t) cost)
    pub shape : option_map shape_in t.context ≡ shape_at (file_scene ds own old.trees s) tree
    pub steps : t.steps ≡ suc s.steps
    pub sum : t.sum ≡ sums_behind s.sum (closing_in tree) cost
    pub closed : t.closed ≡ s.closed ++ closed_before s.sum cost (closing_in tree) []

  -- the steps in front with one more, and what the sequence tells of it
  pub record OneMore (front : List Tree) (s t : Sequence) (tree : Tree) (h : HasFollowed before ds own first front old.trees s) : Type 0 where
    pub step : Transition
    pub taken : step.step ≡ tree
    pub leads : step.next ≡ kernel.game_in new.trees t
    pub cost : t.cost ≡ Some step.cost
    pub context : step.context ≡ option_map shape_in t.context
    pub next : HasFollowed before ds own first (front ++ tree ∷ []) new.trees t
    pub proof : next.proof ≡ h.proof ++ step ∷ []

  followed_put : (front : List Tree) (s t : Sequence) (tree : Tree) (h : HasFollowed before ds own first front old.trees s) → Leaves s t tree (closed_by h.proof)
      → length new.trees ≤ length old.trees + needed_for (code_scene old decls s) tree (kernel.game_in new.trees t) (items_of_step tree) → OneMore front s t tree h
  followed_put front s t tree h v few =
      let game : Tree = kernel.game_in old.trees s in
      let to : Tree = kernel.game_in new.trees t in
      let one : Transition = record { step = tree; cost = v.cost; context = shape_at (file_scene ds own old.trees s) tree; next = to } in
      let next : IsTransition ds (known_to own) (suc (length h.proof)) (closed_by h.proof) game one = record {
        accepted = subst (λ k. IsSaid (file_scene ds own old.trees s) (closed_by h.proof) (suc k) tree (Accepted to v.cost)) h.count v.said;
        context = refl;
      } in
      let last = last_is ds (known_to own) first h.proof game h.leads in
      record {
        step = one;
        taken = refl;
        leads = refl;
        cost = v.costs;
        context = sym v.shape;
        next = record {
          proof = h.proof ++ one ∷ [];
          steps = ap (λ ts. ts ++ tree ∷ []) h.steps ∙ sym (map-append (λ x. x.step) h.proof (one ∷ []));
          leads = push h.proof game one h.leads next;
          count = v.steps ∙ (ap suc h.count ∙ sym (length-append h.proof (one ∷ []) ∙ (let e : length h.proof + 1 ≡ suc (length h.proof) = omega arith in e)));
          sum = v.sum ∙ (ap (λ x. sums_behind x (closing_in tree) v.cost) h.sum ∙ sym (sum_put no_sums h.proof one));
          closed = v.closed
              ∙ (ap₂ (λ xs x. xs ++ closed_before x v.cost (closing_in tree) []) h.closed h.sum ∙ sym (closings_put no_sums h.proof one));
          nodes = (
              let a = nodes_append ds (known_to own) first h.proof one in
              let m = h.nodes in
              let k = ap (λ x. needed_for (scene ds (known_to own) x) tree to (items_of_step tree)) last in
              let c = ap (λ x. needed_for x tree to (items_of_step tree)) (scenes ds own old decls is_ds is_own s) in
              omega arith
              );
        };
        proof = refl;
      }

  -- what the sum and the closed queries are behind a step that closes none
  record Adds (s t : Sequence) (tree : Tree) (cost : Cost) : Type 0 where
    pub sum : t.sum ≡ sums_behind s.sum (closing_in tree) cost
    pub closed : t.closed ≡ s.closed ++ closed_before s.sum cost (closing_in tree) []

  adds : (s t : Sequence) (tree : Tree) (cost : Cost) → closing_in tree ≡ None → t.sum ≡ with_cost s.sum cost → t.closed ≡ s.closed → Adds s t tree cost
  adds s t tree cost n m k = record {
    sum = m ∙ ap (λ o. sums_behind s.sum o cost) (sym n);
    closed = k ∙ (sym (append-nil s.closed) ∙ ap (λ o. s.closed ++ closed_before s.sum cost o []) (sym n));
  }

  module _ (s t : Sequence) (tree : Tree) (ks : List ℕ) where
    -- one that changes the game
    change_leaves : IsJudged (items_of_step tree) → closing_in tree ≡ None → kernel.IsTaken old.limit (length old.trees) (needed (kernel.game_in old.trees s) tree) (judgement_at (code_scene old decls s) tree) new.trees s t → Leaves s t tree ks
    change_leaves j n w =
        let a = adds s t tree (cost_of w.cost) n w.sum w.closed in
        record {
          cost = cost_of w.cost;
          costs = w.costs;
          said = j.said (file_scene ds own old.trees s) ks (suc s.steps) tree _ (change_said ds own old decls is_ds is_own s ks tree _ n w.accepted);
          shape = ap (option_map shape_in) w.context ∙ sym (j.shape (file_scene ds own old.trees s));
          steps = w.steps;
          sum = a.sum;
          closed = a.closed;
        }

    -- a cryptographic one
    reduce_leaves : (e x : ℕ) → items_of_step tree ≡ Some (items.Crypto e x) → kernel.IsReduced old.limit (length old.trees) (code_scene old decls s) e x new.trees s t → Leaves s t tree ks
    reduce_leaves e x i w =
        let to : Tree = kernel.game_in new.trees t in
        let a = adds s t tree (advantage_of t.steps e) (ap (option_and_then closing_of_items) i) w.sum w.closed in
        let leads = subst (λ z. IsOutcome z e x (outcome.Accepted to)) (scenes ds own old decls is_ds is_own s) w.accepted in
        record {
          cost = advantage_of t.steps e;
          costs = w.costs;
          said = subst (λ o. MaySay (file_scene ds own old.trees s) ks (suc s.steps) tree o (Accepted to (advantage_of t.steps e))) (sym i) (outcome.Accepted to, leads, ap (λ n. Accepted to (advantage_of n e)) w.steps);
          shape = w.shape ∙ (ap (λ z. shape_by z (Some (items.Crypto e x))) (scenes ds own old decls is_ds is_own s) ∙ ap (shape_by (file_scene ds own old.trees s)) (sym i));
          steps = w.steps;
          sum = a.sum;
          closed = a.closed;
        }

    -- one that closes a query
    close_leaves : (c : Closing) → IsJudged (items_of_step tree) → closing_in tree ≡ Some c → numbers_of s.closed ≡ ks → s.game.root.0 < length old.trees → Grows old new → closing_failure (code_scene old decls s) (numbers_of s.closed) c ≡ None → kernel.IsClosing (code_scene old decls s) c s t → Leaves s t tree ks
    close_leaves c j n k l g f w =
        let costs = ap (λ x. kernel.closing_cost x c) (scenes ds own old decls is_ds is_own s) in
        let game : kernel.game_in new.trees t ≡ kernel.game_in old.trees s = ap (λ (q : Game). tree_at new.trees (Some q.root)) w.game ∙ child_grown old new (Some s.game.root) g l in
        record {
          cost = kernel.closing_cost (code_scene old decls s) c;
          costs = w.cost;
          said = j.said (file_scene ds own old.trees s) ks (suc s.steps) tree _ (ap₂ Accepted game costs ∙ close_said ds own old decls is_ds is_own s ks tree c None n k f);
          shape = ap (option_map shape_in) w.context ∙ sym (j.shape (file_scene ds own old.trees s));
          steps = w.steps;
          sum = w.sum ∙ ap (λ o. sums_behind s.sum o (kernel.closing_cost (code_scene old decls s) c)) (sym n);
          closed = w.closed ∙ ap (λ o. s.closed ++ closed_before s.sum (kernel.closing_cost (code_scene old decls s) c) o []) (sym n);
        }

    leaves_by : (u : Unit {0}) → Kind (items_of_step tree) → numbers_of s.closed ≡ ks → s.game.root.0 < length old.trees → Grows old new → kernel.IsStepAnswer old decls new.trees s t tree (items_of_step tree) (Ok u) → Leaves s t tree ks
    leaves_by u (kind.reduces e x i) k l g w = reduce_leaves e x i (subst (λ o. kernel.IsStepAnswer old decls new.trees s t tree o (Ok u)) i w)
    leaves_by u (kind.judged j (kind.changes c)) k l g w = change_leaves j c.closing (c.answers old decls new.trees s t tree (Ok u) w)
    leaves_by u (kind.judged j (kind.closes q by i)) k l g w =
        let a = subst (λ o. kernel.IsStepAnswer old decls new.trees s t tree o (Ok u)) i w in
        close_leaves (record { query = q; certificate = by }) j (ap (option_and_then closing_of_items) i) k l g a.0 a.1

  -- one step more was accepted
  pub followed_more : (front : List Tree) (s t : Sequence) (tree : Tree) (u : Unit {0}) (h : HasFollowed before ds own first front old.trees s) → IsPushed old decls new.trees s t tree (Ok u) → Grows old new → s.game.root.0 < length old.trees
      → length new.trees ≤ length old.trees + needed_for (code_scene old decls s) tree (kernel.game_in new.trees t) (items_of_step tree) → OneMore front s t tree h
  followed_more front s t tree u h p g here few = followed_put front s t tree h (leaves_by s t tree (closed_by h.proof) u (kind_of (items_of_step tree)) (numbers front s h) here g p.1) few

-- an accepted step has the room that it needs; one that closes a query needs none

closing_needs : (game : Tree) (o : Option StepItems) (k : ℕ) (by : Tree) → o ≡ Some (items.Success k by) → needed_by game (option_and_then rule_of_items o) ≡ 0
closing_needs game o k by e = ap (λ i. needed_by game (option_and_then rule_of_items i)) e

room_by : (pool : PoolView) (decls : DeclsView) (trees : List KindTree) (s t : Sequence) (step : Tree) (u : Unit {0}) → Kind (items_of_step step) → kernel.IsStepAnswer pool decls trees s t step (items_of_step step) (Ok u) → length trees ≤ length pool.trees + needed_for (scene_of pool decls s.game.root) step (kernel.game_in trees t) (items_of_step step) → length pool.trees ≤ pool.limit
    → length trees ≤ pool.limit
room_by pool decls trees s t step u (kind.reduces e x q) p few l =
    let w = subst (λ o. kernel.IsStepAnswer pool decls trees s t step o (Ok u)) q p in
    let f = w.few in
    let r = w.room in
    omega arith
room_by pool decls trees s t step u (kind.judged j (kind.changes c)) p few l =
    let w = c.answers pool decls trees s t step (Ok u) p in
    let r = w.room in
    let n = j.needs (scene_of pool decls s.game.root) step (kernel.game_in trees t) in
    omega arith
room_by pool decls trees s t step u (kind.judged j (kind.closes k by q)) p few l =
    let n = j.needs (scene_of pool decls s.game.root) step (kernel.game_in trees t) in
    let z = closing_needs (kernel.game_in pool.trees s) (items_of_step step) k by q in
    omega arith

pub room_after : (pool : PoolView) (decls : DeclsView) (trees : List KindTree) (s t : Sequence) (step : Tree) (u : Unit {0}) → IsPushed pool decls trees s t step (Ok u) → length trees ≤ length pool.trees + needed_for (scene_of pool decls s.game.root) step (kernel.game_in trees t) (items_of_step step) → length pool.trees ≤ pool.limit → length trees ≤ pool.limit
room_after pool decls trees s t step u p few l = room_by pool decls trees s t step u (kind_of (items_of_step step)) p.1 few l

-- an accepted step is counted
counted_by : (pool : PoolView) (decls : DeclsView) (trees : List KindTree) (s t : Sequence) (step : Tree) (u : Unit {0}) → Kind (items_of_step step) → kernel.IsStepAnswer pool decls trees s t step (items_of_step step) (Ok u) → t.steps ≡ suc s.steps
counted_by pool decls trees s t step u (kind.reduces e x q) p = let w = subst (λ o. kernel.IsStepAnswer pool decls trees s t step o (Ok u)) q p in w.steps
counted_by pool decls trees s t step u (kind.judged j (kind.changes c)) p = let w = c.answers pool decls trees s t step (Ok u) p in w.steps
counted_by pool decls trees s t step u (kind.judged j (kind.closes k by q)) p = let w = subst (λ o. kernel.IsStepAnswer pool decls trees s t step o (Ok u)) q p in w.1.steps

pub counted_after : (pool : PoolView) (decls : DeclsView) (trees : List KindTree) (s t : Sequence) (step : Tree) (u : Unit {0}) → IsPushed pool decls trees s t step (Ok u) → t.steps ≡ suc s.steps
counted_after pool decls trees s t step u p = counted_by pool decls trees s t step u (kind_of (items_of_step step)) p.1
