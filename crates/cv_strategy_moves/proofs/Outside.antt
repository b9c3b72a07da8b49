-- The first use of a key is its first read in no instance.
use Rattle.std.proofs.Common.{◌≡◌, ℕ, Bool, true, false, cond, List, [], ◌∷◌, ◌++◌, if◌then◌else◌, Option, Some, None, is_some, refl, sym, ap, ap₂, ◌∙◌}
use Rattle.cv_syntax_trees.specs.Tree.{Tree, Empty, Node, first_place, second_place}
use Rattle.cv_syntax_trees.specs.sites.Sites.{first_of}
use Rattle.cv_scope_rules.specs.Context.{first_position, second_position}
use Rattle.cv_scope_rules.specs.declared.position.Position.{Position}
use Rattle.cv_scene.specs.Instances.{Call, Matching, call_at}
use Rattle.cv_scene.specs.Refusals.{first_use}
use Rattle.cv_scene.specs.Scenes.{head_reads}
use Rattle.cv_scene.specs.Sites.{is_guard}
use Rattle.cv_strategy_moves.specs.Uses.{first_outside, reads_of_key}

outside_both : (rs qs : List (ℕ × Bool)) → first_outside (rs ++ qs) ≡ first_of (first_outside rs) (first_outside qs)
outside_both [] qs = refl
outside_both (r ∷ rs) qs = go r.1 (outside_both rs qs)
  where
    go : (b : Bool) → first_outside (rs ++ qs) ≡ first_of (first_outside rs) (first_outside qs) → cond b (first_outside (rs ++ qs)) (Some r.0) ≡ first_of (cond b (first_outside rs) (Some r.0)) (first_outside qs)
    go true e = e
    go false e = refl

-- in an instance there is none
none_inside : (M : Matching) (t : Tree) (w : Position) (p : ℕ) → first_outside (reads_of_key M true w p t) ≡ None
unfolding reads_of_key
none_inside M Empty w p = refl
none_inside M (Node h a b) w p =
    outside_both (cond (head_reads M.key h) ((p, true) ∷ []) []) (cond (is_guard w) [] (reads_of_key M true (first_position w h) (first_place p h) a) ++ reads_of_key M true (second_position w h) (second_place p h a) b)
    ∙ ap₂ first_of (here (head_reads M.key h))
    (outside_both (cond (is_guard w) [] (reads_of_key M true (first_position w h) (first_place p h) a)) (reads_of_key M true (second_position w h) (second_place p h a) b)
    ∙ ap₂ first_of (guarded (is_guard w) (none_inside M a (first_position w h) (first_place p h))) (none_inside M b (second_position w h) (second_place p h a)))
  where
    here : (b : Bool) → first_outside (cond b ((p, true) ∷ []) []) ≡ None
    here true = refl
    here false = refl

    guarded : (b : Bool) → first_outside (reads_of_key M true (first_position w h) (first_place p h) a) ≡ None → first_outside (cond b [] (reads_of_key M true (first_position w h) (first_place p h) a)) ≡ None
    guarded true e = refl
    guarded false e = e

pub first_use_outside : (M : Matching) (t : Tree) (w : Position) (p : ℕ) → first_use M w p t ≡ first_outside (reads_of_key M false w p t)
unfolding first_use reads_of_key
first_use_outside M Empty w p = refl
first_use_outside M (Node h a b) w p = go (first_use_outside M a (first_position w h) (first_place p h)) (first_use_outside M b (second_position w h) (second_place p h a)) (call_at M (Node h a b))
  where
    inner : Bool → List (ℕ × Bool)
    inner inside = cond (is_guard w) [] (reads_of_key M inside (first_position w h) (first_place p h) a) ++ reads_of_key M inside (second_position w h) (second_place p h a) b

    here : (reads : Bool) → cond reads (Some p) (first_outside (inner false)) ≡ first_outside (cond reads ((p, false) ∷ []) [] ++ inner false)
    here true = refl
    here false = refl

    below_inside : (guard : Bool) → first_outside (cond guard [] (reads_of_key M true (first_position w h) (first_place p h) a) ++ reads_of_key M true (second_position w h) (second_place p h a) b) ≡ None
    below_inside true = none_inside M b (second_position w h) (second_place p h a)
    below_inside false =
        outside_both (reads_of_key M true (first_position w h) (first_place p h) a) (reads_of_key M true (second_position w h) (second_place p h a) b)
        ∙ ap₂ first_of (none_inside M a (first_position w h) (first_place p h)) (none_inside M b (second_position w h) (second_place p h a))

    all_inside : (reads : Bool) → first_outside (cond reads ((p, true) ∷ []) [] ++ inner true) ≡ None
    all_inside true = below_inside (is_guard w)
    all_inside false = below_inside (is_guard w)

    guarded : (guard : Bool) → first_use M (first_position w h) (first_place p h) a ≡ first_outside (reads_of_key M false (first_position w h) (first_place p h) a)
        → cond guard None (first_use M (first_position w h) (first_place p h) a) ≡ first_outside (cond guard [] (reads_of_key M false (first_position w h) (first_place p h) a))
    guarded true e = refl
    guarded false e = e

    go : first_use M (first_position w h) (first_place p h) a ≡ first_outside (reads_of_key M false (first_position w h) (first_place p h) a)
        → first_use M (second_position w h) (second_place p h a) b ≡ first_outside (reads_of_key M false (second_position w h) (second_place p h a) b)
        → (o : Option Call)
        → elim o as (λ _. Option ℕ) [
          | Some c ↦ None
          | None ↦ if head_reads M.key h then Some p else first_of (if is_guard w then None else first_use M (first_position w h) (first_place p h) a) (first_use M (second_position w h) (second_place p h a) b)
        ] ≡ first_outside (cond (head_reads M.key h) ((p, is_some o) ∷ []) [] ++ inner (is_some o))
    go f g (Some c) = sym (all_inside (head_reads M.key h))
    go f g None =
        ap (cond (head_reads M.key h) (Some p)) (ap₂ first_of (guarded (is_guard w) f) g ∙ sym (outside_both (cond (is_guard w) [] (reads_of_key M false (first_position w h) (first_place p h) a)) (reads_of_key M false (second_position w h) (second_place p h a) b)))
        ∙ here (head_reads M.key h)
