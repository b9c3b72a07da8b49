-- The names that are drawn along a trail, with a step more, and where a trail leads.
use Rattle.std.proofs.Common.{◌≡◌, ℕ, Bool, false, List, [], ◌∷◌, ◌++◌, map, Option, Some, None, option_and_then, refl, ap, sym, ◌∙◌, subst}
use Rattle.std.proofs.lemmas.List.{map-append}
use Rattle.cv_syntax_trees.specs.Declarations.{Declaration}
use Rattle.cv_syntax_trees.specs.Tree.{Tree}
use Rattle.cv_bound.specs.declared.cost.Cost.{Cost}
use Rattle.cv_query_certificates.specs.Failures.{Failure}
use Rattle.cv_scene.specs.Scenes.{Scene}
use Rattle.cv_script.specs.Views.{StepItems, items_of_step}
use Rattle.cv_script.specs.Views as items
use Rattle.cv_steps.specs.Sequences.{scene}
use Rattle.cv_kernel.specs.Closings.{Closing, closing_failure, closing_of_items, judgement_by_closing, judgement_of_failure}
use Rattle.cv_kernel.specs.Drawings.{Draws, DrawsAlong, game_after, told}
use Rattle.cv_rule_array_names.specs.Drawings.{DrawsBefore}
use Rattle.cv_kernel.specs.Proofs.{IsProof, Transition, closed_by, game_behind, push, start}
use Rattle.cv_kernel.specs.Sayings.{Accepted, MaySay, saying_of}

-- before a step of a proof block the table stays
pub block_before : (names : List (List ℕ)) (own : ℕ) (game : Tree) (o : Option StepItems) → DrawsBefore false names names own game o
block_before names own game (Some (items.ArrayRename x to)) = refl
block_before names own game o = refl

-- the game that steps lead to
abbrev pub last_told : Tree → List (Tree × Option Tree) → Tree
last_told game [] = game
last_told game (t ∷ ts) = last_told (game_after t.1 game) ts

last_put : (game : Tree) (ts : List (Tree × Option Tree)) (t : Tree × Option Tree) → last_told game (ts ++ t ∷ []) ≡ game_after t.1 (last_told game ts)
last_put game [] t = refl
last_put game (u ∷ ts) t = last_put (game_after u.1 game) ts t

module _ (found : Bool) (ds : List Declaration) (known : ℕ → Bool) (own : ℕ) where
  pub drawn_put : (game : Tree) (ts : List (Tree × Option Tree)) (t : Tree × Option Tree) (a b c : List (List ℕ)) → DrawsAlong found ds known own game ts a b → Draws found b c own (scene ds known (last_told game ts)) (items_of_step t.0) (game_after t.1 (last_told game ts)) → DrawsAlong found ds known own game (ts ++ t ∷ []) a c
  drawn_put game [] t a b c h d = (c, subst (λ x. Draws found x c own (scene ds known game) (items_of_step t.0) (game_after t.1 game)) h d, refl)
  drawn_put game (u ∷ ts) t a b c h d = (h.0, h.1, drawn_put (game_after u.1 game) ts t h.0 b c h.2 d)

  pub drawn_before : (game : Tree) (ts : List (Tree × Option Tree)) (t : Tree × Option Tree) (a c : List (List ℕ)) → DrawsAlong found ds known own game (ts ++ t ∷ []) a c → (b : List (List ℕ)) × DrawsAlong found ds known own game ts a b × Draws found b c own (scene ds known (last_told game ts)) (items_of_step t.0) (game_after t.1 (last_told game ts))
  drawn_before game [] t a c h = (a, refl, subst (λ x. Draws found a x own (scene ds known game) (items_of_step t.0) (game_after t.1 game)) (sym h.2) h.1)
  drawn_before game (u ∷ ts) t a c h = let r = drawn_before (game_after u.1 game) ts t h.0 c h.2 in (r.0, (h.0, h.1, r.1), r.2)

-- a step that closes a query stays in its game, and any other leads to the next one

failed_or_stays : (s : Scene) (certificate : Tree) (o : Option Failure) (next : Tree) (cost : Cost) → Accepted next cost ≡ saying_of (judgement_of_failure s certificate o) → s.game ≡ next
failed_or_stays s certificate None next cost e = cc
failed_or_stays s certificate (Some f) next cost e = absurd (cc)

stays_by : (s : Scene) (ks : List ℕ) (n : ℕ) (step next : Tree) (cost : Cost) (o : Option StepItems) → items_of_step step ≡ o → MaySay s ks n step o (Accepted next cost) → game_after (game_behind (option_and_then closing_of_items o) next) s.game ≡ next
stays_by s ks n step next cost (Some (items.Success k by)) q w =
    let c : Closing = record { query = k; certificate = by } in
    failed_or_stays s by (closing_failure s ks c) next cost (w ∙ ap (λ (i : Option StepItems). saying_of (judgement_by_closing s ks step (option_and_then closing_of_items i))) q)
stays_by s ks n step next cost o q w = refl

-- where a proof leads, what is told of it leads too
pub told_last : (ds : List Declaration) (known : ℕ → Bool) (first : Tree) (ts : List Transition) (last : Tree) → IsProof ds known first ts last → last_told first (map told ts) ≡ last
told_last ds known first ts last start = refl
told_last ds known first ts last (push before game t p i) =
    ap (last_told first) (map-append told before (t ∷ []))
    ∙ (last_put first (map told before) (told t)
    ∙ (ap (game_after (told t).1) (told_last ds known first before game p) ∙ stays_by (scene ds known game) (closed_by before) _ t.step t.next t.cost (items_of_step t.step) refl i.accepted))
