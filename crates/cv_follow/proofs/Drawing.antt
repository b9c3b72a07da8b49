-- The names that a step more draws.
use Rattle.std.proofs.Common.{◌≡◌, ℕ, Bool, List, [], ◌∷◌, ◌++◌, map, Option, Some, None, option_and_then, refl, ap, ap₂, sym, ◌∙◌, subst}
use Rattle.std.proofs.lemmas.List.{map-append}
use Rattle.cv_pool.specs.PoolView.{PoolView}
use Rattle.cv_syntax.specs.Classes.{DeclsView}
use Rattle.cv_syntax_trees.specs.Declarations.{Declaration}
use Rattle.cv_syntax.specs.Declarations.{declarations}
use Rattle.cv_syntax_trees.specs.Tree.{Tree}
use Rattle.cv_kernel.specs.declared.reducing.Reducing.{Reducing}
use Rattle.cv_kernel.specs.declared.sequence.Sequence.{Sequence}
use Rattle.cv_kernel.specs.Closings.{closing_in, closing_of_items}
use Rattle.cv_kernel.specs.Drawings.{Draws, game_after, told}
use Rattle.cv_rule_array_names.specs.Drawings.{DrawsBefore, DrawsNames}
use Rattle.cv_kernel.specs.Proofs.{game_behind}
use Rattle.cv_kernel.specs.Reducings.{reducing_in, reducing_of_items}
use Rattle.cv_kernel.specs.Sequences as kernel
use Rattle.cv_kernel.proofs.Drawn.{last_told, told_last}
use Rattle.cv_kernel_crypto.specs.Applied.{DrawsNext}
use Rattle.cv_rule_array_names.specs.Sites.{listed_names}
use Rattle.cv_scene_view.specs.Kept.{scene_of}
use Rattle.cv_scene.specs.Scenes.{Scene}
use Rattle.cv_script.specs.Views.{StepItems, items_of_step}
use Rattle.cv_script.specs.Views as items
use Rattle.cv_steps.specs.Sequences.{scene}
use Rattle.cv_follow.specs.Courses.{DrawsThrough, Table, names_behind}
use Rattle.cv_kernel.specs.Followed.{HasFollowed, known_to}
use Rattle.cv_follow.proofs.Courses.{through_put}
use Rattle.cv_kernel.proofs.Followed.{OneMore}

module _ (free : Bool) (before : ℕ) (ds : List Declaration) (own : ℕ) (first : Tree) (old new : PoolView) (decls : DeclsView) (is_ds : declarations old.trees decls.list ≡ ds) (is_own : decls.own ≡ own) where
  module _ (front : List Tree) (s t : Sequence) (tree : Tree) (a m c : Table) (tables : List Table) (h : HasFollowed before ds own first front old.trees s) (n : OneMore before ds own first old new decls is_ds is_own front s t tree h)
      (draws : (r : Reducing) → reducing_in tree ≡ Some r → DrawsNext m c decls.own (scene_of old decls s.game.root) r.equivalence r.key (kernel.game_in new.trees t)) (keeps : reducing_in tree ≡ None → c ≡ m) where
    abbrev one : Tree × Option Tree
    one = told n.step

    abbrev game : Tree
    game = kernel.game_in old.trees s

    abbrev b : Table
    b = names_behind a tables

    scenes : scene_of old decls s.game.root ≡ scene ds (known_to own) game
    scenes = ap₂ (λ (x : List Declaration) (k : ℕ). scene x (known_to k) game) is_ds is_own

    next : (e x : ℕ) → items_of_step tree ≡ Some (items.Crypto e x) → game_after one.1 game ≡ kernel.game_in new.trees t
    next e x q =
        ap₂ (λ (y : Tree) (z : Tree). game_after (game_behind (closing_in y) z) game) n.taken n.leads
        ∙ ap (λ (i : Option StepItems). game_after (game_behind (option_and_then closing_of_items i) (kernel.game_in new.trees t)) game) q

    by : (i : Option StepItems) → items_of_step tree ≡ i → DrawsBefore free b m own game i → Draws free b c own (scene ds (known_to own) game) i (game_after one.1 game)
    by (Some (items.Crypto e x)) q same =
        subst (λ (y : Tree). DrawsNext b c own (scene ds (known_to own) game) e x y) (sym (next e x q))
        (subst (λ (z : Scene). DrawsNext b c own z e x (kernel.game_in new.trees t)) scenes
        (subst (λ (k : ℕ). DrawsNext b c k (scene_of old decls s.game.root) e x (kernel.game_in new.trees t)) is_own
        (subst (λ (ns : Table). DrawsNext ns c decls.own (scene_of old decls s.game.root) e x (kernel.game_in new.trees t)) same (draws (record { equivalence = e; key = x }) (ap (option_and_then reducing_of_items) q)))))
    by (Some (items.ArrayRename x to)) q drawn =
        subst (λ (ns : Table). DrawsNames free b ns own game x (listed_names to)) (sym (keeps (ap (option_and_then reducing_of_items) q))) drawn
    by i q same = keeps (ap (option_and_then reducing_of_items) q) ∙ same

    -- one step more draws its names, those of `SArename` before it is tried
    pub drawn_more : DrawsBefore free b m decls.own game (items_of_step tree) → DrawsThrough free ds (known_to own) own first (map told h.proof) a tables → DrawsThrough free ds (known_to own) own first (map told n.next.proof) a (tables ++ c ∷ [])
    drawn_more ready along =
        let there : last_told first (map told h.proof) ≡ game = told_last ds (known_to own) first h.proof game h.leads in
        subst (λ ts. DrawsThrough free ds (known_to own) own first ts a (tables ++ c ∷ [])) (sym (ap (map told) n.proof ∙ map-append told h.proof (n.step ∷ [])))
        (through_put free ds (known_to own) own first (map told h.proof) one a c tables along
        (subst (λ (x : Tree). Draws free b c own (scene ds (known_to own) x) (items_of_step one.0) (game_after one.1 x)) (sym there) (subst (λ (i : Option StepItems). Draws free b c own (scene ds (known_to own) game) i (game_after one.1 game)) (sym (ap items_of_step n.taken)) (by (items_of_step tree) refl (subst (λ (k : ℕ). DrawsBefore free b m k game (items_of_step tree)) is_own ready)))))
