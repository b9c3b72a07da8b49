-- Proofs with a step more, and why a run doesn't stop at a step behind which it may go on.
use Rattle.std.proofs.Common.{◌≡◌, ℕ, suc, ◌+◌, ◌≤◌, nat_lt, Bool, true, false, if◌then◌else◌, List, Some, None, inl, inr, refl, ap, sym, subst, ◌∙◌, arith}
use Rattle.cv_syntax_trees.specs.Tree.{Tree, depth, size}
use Rattle.cv_kernel.specs.Answers.{HasNoRoom}
use Rattle.cv_kernel.specs.Sayings.{Accepted, MaySay, Refused, TooDeep, TooLarge, saying_by, saying_of}
use Rattle.cv_bound.specs.costs.Costs.{advantage_of}
use Rattle.cv_kernel.specs.Sequences.{context_nodes, needed, needed_for}
use Rattle.cv_kernel.specs.Closings.{judgement_in}
use Rattle.cv_syntax.specs.limits.Limits.{most_depth, most_nodes, nodes_of, told}
use Rattle.cv_kernel_crypto.specs.Applied as crypto
use Rattle.cv_accept.specs.Accepted.{most_pool}
use Rattle.cv_report.specs.declared.report.Status.{Status}
use Rattle.cv_scene.specs.Scenes.{Scene}
use Rattle.cv_script.specs.Views.{items_of_step}
use Rattle.cv_script.specs.Views as items
use Rattle.cv_steps.specs.Costs.{cost_of}
use Rattle.cv_steps.specs.Judgements.{Judgement}
use Rattle.cv_steps.specs.Judgements as judgement
use Rattle.cv_steps_laws.specs.crypto.Conditions.{equivalence_of, failure_of}
use Rattle.cv_steps_laws.specs.crypto.Steps.{IsOutcome, IsOutcomeBy, is_next, outcome_with}
use Rattle.cv_steps_laws.specs.crypto.Steps as outcome
use Rattle.cv_kernel.specs.Followed.{LacksRoomFor}
use Rattle.cv_follow.specs.Scripts.{Stops, most_steps, no_room, refused, too_deep, too_large, too_many}
use Rattle.cv.specs.Strategy.{GoesOn, IsAcceptance, context_needs}
use Rattle.cv_kernel.proofs.StepKinds.{IsJudged, Kind, kind_of}
use Rattle.cv_kernel.proofs.StepKinds as kind

-- a run never stops at a step that is accepted, with room for it

-- a game that may be drawn is the next one, where what is said of it is an acceptance
drawn_next : (n e m d : ℕ) (next : Tree) (large deep good : Bool) → IsAcceptance (saying_by n e (if large then outcome.TooLarge m else if deep then outcome.TooDeep d else if good then outcome.Accepted next else outcome.Refused 9 0))
    → outcome.Accepted next ≡ (if large then outcome.TooLarge m else if deep then outcome.TooDeep d else if good then outcome.Accepted next else outcome.Refused 9 0)
drawn_next n e m d next true deep good a = absurd a
drawn_next n e m d next false true good a = absurd a
drawn_next n e m d next false false true a = refl
drawn_next n e m d next false false false a = absurd a

module _ (taken count : ℕ) (s : Scene) (ks : List ℕ) (step : Tree) (g : GoesOn taken count s ks step) where
  -- of a step with one judgement
  room_judged : IsJudged (items_of_step step) → (need : ℕ) (j : Judgement) → judgement_in s ks step ≡ j → HasNoRoom most_pool taken (needed s.game step) j need → ⊥
  room_judged k need (judgement.Accepted next cost) e h =
      let fits = g.fits next (cost_of cost) (k.said s ks (suc count) step (Accepted next (cost_of cost)) (sym (ap saying_of e))) in
      let same = k.needs s step next in
      let asks = h.asks in
      let over = h.over in
      omega arith
  room_judged k need (judgement.Refused c p) e h = g.accepted (Refused c p) (k.said s ks (suc count) step (Refused c p) (sym (ap saying_of e)))
  room_judged k need (judgement.TooLarge n) e h = h.drawn
  room_judged k need (judgement.TooDeep n) e h = h.drawn

  -- of a cryptographic step
  module _ (e x : ℕ) (same : items_of_step step ≡ Some (items.Crypto e x)) where
    context_same : (context : Tree) → crypto.IsContext s e x context → context_nodes s x (equivalence_of s e) ≡ nodes_of context
    context_same context c = ap (context_nodes s x) c.named ∙ ap nodes_of (sym c.tree)

    drawn_fits : (next : Tree) → failure_of s e x ≡ None → crypto.IsDrawn s e x next → taken + (context_nodes s x (equivalence_of s e) + nodes_of next) ≤ most_pool
    drawn_fits next f d =
        let o = outcome_with s.declarations next in
        let by : IsOutcomeBy s (Some d.equivalence) x None o = record { next = next; drawn = d.drawn; outcome = refl } in
        let is : IsOutcome s e x o = subst (λ t. IsOutcomeBy s t x (failure_of s e x) o) (sym d.named) (subst (λ h. IsOutcomeBy s (Some d.equivalence) x h o) (sym f) by) in
        let a = g.accepted (saying_by (suc count) e o) (subst (λ i. MaySay s ks (suc count) step i (saying_by (suc count) e o)) (sym same) (o, is, refl)) in
        let n = drawn_next (suc count) e (told (size next)) (told (depth next)) next (nat_lt most_nodes (size next)) (nat_lt most_depth (depth next)) (is_next s.declarations next) a in
        let here = subst (λ i. MaySay s ks (suc count) step i (Accepted next (advantage_of (suc count) e))) (sym same) (outcome.Accepted next, subst (IsOutcome s e x) (sym n) is, refl) in
        subst (λ i. taken + needed_for s step next i ≤ most_pool) same (g.fits next (advantage_of (suc count) e) here)

    room_reduced : (need : ℕ) → crypto.HasNoRoom most_pool taken s e x need → ⊥
    room_reduced need h =
        let c = context_same h.context h.made in
        elim h.full [
          | inl k ↦
              let l = subst (λ i. taken + context_needs s i ≤ most_pool) same g.context in
              let a = k.0 in
              let o = k.1 in
              omega arith
          | inr k ↦
              let l = drawn_fits k.0 h.failure k.1 in
              let a = k.2 in
              let o = k.3 in
              omega arith
        ]

  room : (need : ℕ) → Kind (items_of_step step) → LacksRoomFor most_pool taken s ks step (items_of_step step) need → ⊥
  room need (kind.judged k v) h = room_judged k need (judgement_in s ks step) refl (k.lacks most_pool taken s ks step need h)
  room need (kind.reduces e x same) h = room_reduced e x same need (subst (λ i. LacksRoomFor most_pool taken s ks step i need) same h)

  pub never_stops : suc count ≤ most_steps → (end : Status) → Stops taken count s ks step end → ⊥
  never_stops few _ (too_many k) = omega arith
  never_stops few _ (refused c p k e) = g.accepted (Refused c p) e
  never_stops few _ (too_large n k e) = g.accepted (TooLarge n) e
  never_stops few _ (too_deep n k e) = g.accepted (TooDeep n) e
  never_stops few _ (no_room need k h) = room need (kind_of (items_of_step step)) h
