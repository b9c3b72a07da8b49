-- Scripts that are followed, step by step.
use Rattle.std.proofs.Common.{◌≡◌, ℕ, zero, suc, ◌+◌, ◌<◌, ◌≤◌, List, [], ◌∷◌, ◌++◌, length, map, drop, take, refl, ap, sym, ◌∙◌, subst, arith, get_or, Option, Some, None, option_and_then, Err}
use Rattle.std.specs.Prelude.{All, IfSome}
use Rattle.cv_pool.specs.declared.node.NodeId.{NodeId}
use Rattle.cv_pool.specs.KindTree.{KindTree}
use Rattle.cv_pool.specs.PoolView.{PoolView, Grows}
use Rattle.cv_syntax.specs.Classes.{DeclsView, queries}
use Rattle.cv_syntax.specs.declared.work.BuildError.TheVariants as build
use Rattle.cv_syntax_trees.specs.Declarations.{Declaration}
use Rattle.cv_syntax.specs.Declarations.{declarations}
use Rattle.cv_syntax_trees.specs.Tree.{Tree}
use Rattle.cv_syntax.specs.PoolTrees.{tree_at}
use Rattle.cv_parse.specs.Declaring.{IsBelow}
use Rattle.cv_syntax.specs.declared.work.Work.{Work}
use Rattle.cv_accept.proofs.Blocks.{declarations_grown}
use Rattle.cv_kernel.specs.declared.error.PushError.{PushError}
use Rattle.cv_kernel.specs.declared.error.PushError.TheVariants as fault
use Rattle.cv_kernel.specs.declared.sequence.Sequence.{Sequence}
use Rattle.cv_bound.specs.closings.Queries.{numbers_of}
use Rattle.cv_match_laws.specs.functions.Forms.{HasLeftForm}
use Rattle.cv_group_rules.specs.Symbols.{symbols_of}
use Rattle.cv_group_rules.specs.Faults.{IsAccepted}
use Rattle.cv_scope_rules.specs.typing.Signature.{declaration_of}
use Rattle.cv_scene_view.specs.Kept.{scene_of}
use Rattle.cv_steps_laws.specs.crypto.Conditions.{equivalence_by}
use Rattle.cv_steps_laws.specs.crypto.Steps as outcome
use Rattle.cv_kernel_crypto.specs.Applied as crypto
use Rattle.cv_kernel.specs.Closings.{Closing, closing_failure, closing_in, closing_of_items, judgement_by_closing, judgement_in}
use Rattle.cv_kernel.specs.Answers.{IsDrawn}
use Rattle.cv_kernel.specs.Sequences as kernel
use Rattle.cv_kernel.specs.Sequences.{IsPushed, needed}
use Rattle.cv_kernel.specs.Steps.{judgement_at}
use Rattle.cv_script.specs.Views.{items_of_step}
use Rattle.cv_script.specs.Views as items
use Rattle.cv_accept.specs.Accepted.{most_pool}
use Rattle.cv_bound.specs.declared.terms.Term.{Term}
use Rattle.cv_report.specs.declared.report.Status.{Status}
use Rattle.cv_script.specs.declared.steps.Step.{Step}
use Rattle.cv_scene.specs.Scenes.{Scene}
use Rattle.cv_report.specs.verdicts.Verdicts.{verdicts_by}
use Rattle.cv_follow.specs.Scripts.{EndsScript, Stops, no_room, refused, too_deep, too_large, too_many}
use Rattle.cv_follow.specs.Walks.{stop_of}
use Rattle.cv_follow.proofs.Verdicts.{verdicts_map}
use Rattle.cv_kernel.proofs.StepKinds.{IsJudged, Kind, kind_of}
use Rattle.cv_kernel.proofs.StepKinds as kind
use Rattle.cv_syntax_trees.proofs.lists.Options.{some_injective}
use Rattle.cv_kernel.specs.Followed.{LacksRoomFor}
use Rattle.cv_kernel.proofs.Followed.{change_said, close_said, code_scene, file_scene, lacks_wider, outcome_said, room_wider, scenes, told_deep, told_large}

pub on_none : {A : Type 0} (P : A → Type 0) (o : Option A) → o ≡ None → IfSome o P
on_none P None e = tt
on_none P (Some x) e = absurd (cc)

module _ (ds : List Declaration) (own : ℕ) (old : PoolView) (decls : DeclsView) (is_ds : declarations old.trees decls.list ≡ ds) (is_own : decls.own ≡ own) where
  -- a step isn't accepted: one that changes the game, a cryptographic one, or one that closes a query

  module _ (s t : Sequence) (ks : List ℕ) (trees : List KindTree) (step : Tree) (taken : ℕ) (b : s.steps < 2000) where
    change_stops : (e : PushError) (end : Status) → IsJudged (items_of_step step) → closing_in step ≡ None → kernel.IsPushAnswer old.limit (length old.trees) (needed (kernel.game_in old.trees s) step) (judgement_at (code_scene old decls s) step) trees s t (Err e) → stop_of e s.steps ≡ Some end → old.limit ≡ most_pool → length old.trees ≤ taken
        → Stops taken s.steps (file_scene ds own old.trees s) ks step end
    change_stops (fault.Refused f) end j n p i l m = subst (Stops taken s.steps _ ks step) (some_injective i) (refused f.condition f.place b (j.said (file_scene ds own old.trees s) ks (suc s.steps) step _ (change_said ds own old decls is_ds is_own s ks step _ n p)))
    change_stops fault.Steps end j n p i l m = absurd p
    change_stops (fault.Build (build.Nodes k)) end j n p i l m = subst (Stops taken s.steps _ ks step) (some_injective i) (too_large k b (j.said (file_scene ds own old.trees s) ks (suc s.steps) step _ (sym (told_large (judgement_at (code_scene old decls s) step) k p) ∙ change_said ds own old decls is_ds is_own s ks step _ n refl)))
    change_stops (fault.Build (build.Depth k)) end j n p i l m = subst (Stops taken s.steps _ ks step) (some_injective i) (too_deep k b (j.said (file_scene ds own old.trees s) ks (suc s.steps) step _ (sym (told_deep (judgement_at (code_scene old decls s) step) k p) ∙ change_said ds own old decls is_ds is_own s ks step _ n refl)))
    change_stops (fault.Build (build.Full k)) end j n p i l m =
        let o = p.over in
        let same : judgement_at (code_scene old decls s) step ≡ judgement_in (file_scene ds own old.trees s) ks step = ap (λ x. judgement_at x step) (scenes ds own old decls is_ds is_own s) ∙ ap (judgement_by_closing (file_scene ds own old.trees s) ks step) (sym n) in
        subst (Stops taken s.steps _ ks step) (some_injective i) (no_room k b (j.lacking most_pool taken (file_scene ds own old.trees s) ks step k (record { drawn = subst IsDrawn same p.drawn; asks = p.asks; over = omega arith })))
    change_stops (fault.Build build.OutOfMemory) end j n p i l m = absurd (cc)

    module _ (e x : ℕ) (q : items_of_step step ≡ Some (items.Crypto e x)) where
      reduce_stops : (f : PushError) (end : Status) → kernel.IsReduceAnswer old.limit (length old.trees) (code_scene old decls s) e x trees s t (Err f) → stop_of f s.steps ≡ Some end → old.limit ≡ most_pool → length old.trees ≤ taken → Stops taken s.steps (file_scene ds own old.trees s) ks step end
      reduce_stops (fault.Refused f) end p i l m = subst (Stops taken s.steps _ ks step) (some_injective i) (refused f.condition f.place b (outcome_said ds own old decls is_ds is_own s ks step e x q (outcome.Refused f.condition f.place) p))
      reduce_stops fault.Steps end p i l m = absurd p
      reduce_stops (fault.Build (build.Nodes k)) end p i l m = subst (Stops taken s.steps _ ks step) (some_injective i) (too_large k b (outcome_said ds own old decls is_ds is_own s ks step e x q (outcome.TooLarge k) p))
      reduce_stops (fault.Build (build.Depth k)) end p i l m = subst (Stops taken s.steps _ ks step) (some_injective i) (too_deep k b (outcome_said ds own old decls is_ds is_own s ks step e x q (outcome.TooDeep k) p))
      reduce_stops (fault.Build (build.Full k)) end p i l m =
          let r = subst (λ n. crypto.HasNoRoom n (length old.trees) (file_scene ds own old.trees s) e x k) l (subst (λ z. crypto.HasNoRoom old.limit (length old.trees) z e x k) (scenes ds own old decls is_ds is_own s) p) in
          subst (Stops taken s.steps _ ks step) (some_injective i) (no_room k b (subst (λ o. LacksRoomFor most_pool taken (file_scene ds own old.trees s) ks step o k) (sym q) (room_wider most_pool (length old.trees) taken (file_scene ds own old.trees s) e x k m r)))
      reduce_stops (fault.Build build.OutOfMemory) end p i l m = absurd (cc)

    close_stops : (c : Closing) (e : PushError) (end : Status) → IsJudged (items_of_step step) → closing_in step ≡ Some c → numbers_of s.closed ≡ ks → kernel.IsCloseAnswer (code_scene old decls s) (closing_failure (code_scene old decls s) (numbers_of s.closed) c) c s t (Err e) → stop_of e s.steps ≡ Some end → Stops taken s.steps (file_scene ds own old.trees s) ks step end
    close_stops c (fault.Refused f) end j n k p i = subst (Stops taken s.steps _ ks step) (some_injective i) (refused f.condition f.place b (j.said (file_scene ds own old.trees s) ks (suc s.steps) step _ (close_said ds own old decls is_ds is_own s ks step c _ n k p)))
    close_stops c fault.Steps end j n k p i = absurd p
    close_stops c (fault.Build (build.Nodes x)) end j n k p i = absurd p
    close_stops c (fault.Build (build.Depth x)) end j n k p i = absurd p
    close_stops c (fault.Build (build.Full x)) end j n k p i = absurd p
    close_stops c (fault.Build build.OutOfMemory) end j n k p i = absurd (cc)

    stops_by : (e : PushError) (end : Status) → Kind (items_of_step step) → numbers_of s.closed ≡ ks → kernel.IsStepAnswer old decls trees s t step (items_of_step step) (Err e) → stop_of e s.steps ≡ Some end → old.limit ≡ most_pool → length old.trees ≤ taken → Stops taken s.steps (file_scene ds own old.trees s) ks step end
    stops_by e end (kind.reduces y x q) k p i l m = reduce_stops y x q e end (subst (λ o. kernel.IsStepAnswer old decls trees s t step o (Err e)) q p) i l m
    stops_by e end (kind.judged j (kind.changes c)) k p i l m = change_stops e end j c.closing (c.answers old decls trees s t step (Err e) p) i l m
    stops_by e end (kind.judged j (kind.closes n by q)) k p i l m =
        close_stops (record { query = n; certificate = by }) e end j (ap (option_and_then closing_of_items) q) k (subst (λ o. kernel.IsStepAnswer old decls trees s t step o (Err e)) q p) i

  pub stops_at : (s t : Sequence) (ks : List ℕ) (trees : List KindTree) (step : Tree) (e : PushError) (taken : ℕ) (end : Status) → numbers_of s.closed ≡ ks → IsPushed old decls trees s t step (Err e) → stop_of e s.steps ≡ Some end → old.limit ≡ most_pool → length old.trees ≤ taken → Stops taken s.steps (file_scene ds own old.trees s) ks step end
  stops_at s t ks trees step fault.Steps taken end k p i l m = subst (Stops taken s.steps _ ks step) (some_injective i) (too_many p)
  stops_at s t ks trees step (fault.Refused f) taken end k p i l m = stops_by s t ks trees step taken p.0 (fault.Refused f) end (kind_of (items_of_step step)) k p.1 i l m
  stops_at s t ks trees step (fault.Build b) taken end k p i l m = stops_by s t ks trees step taken p.0 (fault.Build b) end (kind_of (items_of_step step)) k p.1 i l m

-- step after step of a list

pub split_here : (xs : List Step) (k : ℕ) (d : Step) → k < length xs → xs ≡ take k xs ++ get_or xs k d ∷ drop (k + 1) xs
split_here [] k d l = absurd (omega arith)
split_here (x ∷ xs) zero d l = refl
split_here (x ∷ xs) (suc k) d l = let n : suc k + 1 ≡ suc (k + 1) = omega arith in ap (λ ys. x ∷ ys) (split_here xs k d (omega arith)) ∙ ap (λ j. x ∷ (take k xs ++ get_or xs k d ∷ drop j (x ∷ xs))) (sym n)

-- the equivalences of the file stay, in whichever game
pub equivalences_kept : (fn now : Work) (root other : NodeId) → Grows fn.pool now.pool → now.decls ≡ fn.decls → All (IsBelow (length fn.pool.trees)) fn.decls.list → crypto.HasEquivalences (scene_of fn.pool fn.decls root) → crypto.HasEquivalences (scene_of now.pool now.decls other)
equivalences_kept fn now root other g e b h =
    subst (λ ds. (y : ℕ) (t : Tree) → equivalence_by (declaration_of ds y) ≡ Some t → HasLeftForm t × IsAccepted (symbols_of ds) t)
    (sym (ap (λ (v : DeclsView). declarations now.pool.trees v.list) e ∙ declarations_grown fn.pool now.pool fn.decls.list g b)) h

-- so it is where the declarations are the same
pub equivalences_stay : (old new : Work) (root other : NodeId) → new.decls ≡ old.decls → declarations new.pool.trees old.decls.list ≡ declarations old.pool.trees old.decls.list → crypto.HasEquivalences (scene_of old.pool old.decls root) → crypto.HasEquivalences (scene_of new.pool new.decls other)
equivalences_stay old new root other e q h =
    subst (λ ds. (y : ℕ) (t : Tree) → equivalence_by (declaration_of ds y) ≡ Some t → HasLeftForm t × IsAccepted (symbols_of ds) t) (sym (ap (λ (v : DeclsView). declarations new.pool.trees v.list) e ∙ q)) h

-- the queries of a file, as trees
abbrev pub asked : Work → List Tree
asked w = map (λ n. tree_at w.pool.trees (Some n)) (queries w.decls.list)

pub asked_by : (w : Work) (decls : DeclsView) → decls ≡ w.decls → (sum : ℕ → Option (List Term)) → verdicts_by sum 1 (queries decls.list) ≡ verdicts_by sum 1 (asked w)
asked_by w decls e sum =
    ap (λ (v : DeclsView). verdicts_by sum 1 (queries v.list)) e ∙ sym (verdicts_map (λ n. tree_at w.pool.trees (Some n)) sum 1 (queries w.decls.list))

pub stops_wider : (m n count : ℕ) (s : Scene) (ks : List ℕ) (step : Tree) (end : Status) → m ≤ n → Stops m count s ks step end → Stops n count s ks step end
stops_wider m n count s ks step end l (too_many k) = too_many k
stops_wider m n count s ks step end l (refused condition place k e) = refused condition place k e
stops_wider m n count s ks step end l (too_large nodes k e) = too_large nodes k e
stops_wider m n count s ks step end l (too_deep depth k e) = too_deep depth k e
stops_wider m n count s ks step end l (no_room need k r) = no_room need k (lacks_wider most_pool m n s ks step need (kind_of (items_of_step step)) l r)

pub ends_wider : (m n count : ℕ) (s : Scene) (ks : List ℕ) (queries left : List Tree) (end : Status) → m ≤ n → EndsScript m count s ks queries left end → EndsScript n count s ks queries left end
ends_wider m n count s ks queries [] end l h = h
ends_wider m n count s ks queries (step ∷ left) end l h = stops_wider m n count s ks step end l h
