-- What stands on the way down to a place, and the cells that are found there.
use Rattle.std.proofs.Common.{◌≡◌, ℕ, false, Bool, List, [], ◌++◌, append-nil, length, map, take, Option, Some, None, refl, sym, ap, ap₂, ◌∙◌}
use Rattle.std.specs.Prelude.{◌||◌}
use Rattle.std.specs.List.{list_any}
use Rattle.std.proofs.lemmas.List.{map-append}
use Rattle.std.proofs.lemmas.List.Folds.{list_any-append}
use Rattle.std.proofs.Math.Seq.{take-append_seam}
use Rattle.cv_pool.specs.declared.node.NodeId.{NodeId}
use Rattle.cv_pool.specs.KindTree.{KindTree}
use Rattle.cv_syntax_trees.specs.declared.head.Head.{Head}
use Rattle.cv_syntax_trees.specs.declared.head.Head.TheVariants.{Repl, In, New, Let, Branch, Cons, Key, Call}
use Rattle.cv_syntax_trees.specs.Tree.{Tree, Empty, Node, same_tree}
use Rattle.cv_syntax.specs.PoolTrees.{tree_at}
use Rattle.cv_syntax.proofs.Trees.{tree_at_None}
use Rattle.cv_scope_rules.specs.declared.position.Position.{Position}
use Rattle.cv_scope_rules.specs.declared.position.Position.TheVariants.{Bodies, ElseBody, Guards, Guarded}
use Rattle.cv_scope_rules.specs.Above.{with_held, with_failed, first_standing, second_standing, standing_at}
use Rattle.cv_scope_rules.specs.Context.{Context, cells_of, first_position, nothing_known, replications_below, second_position}
use Rattle.cv_path.specs.declared.place.Lies.TheVariants.{Within, Behind}
use Rattle.cv_path.specs.Places.{LiesAt}
use Rattle.cv_scene.specs.Sights.{cells_by}
use Rattle.cv_scene.specs.Terms.{replications_by}
use Rattle.cv_derive_facts.specs.Walks.{above_behind}
use Rattle.cv_derive_facts.proofs.Standings.{above_length, first_replications, place_extends, second_replications, standing_behind, standing_within}
use Rattle.cv_derive_reasons.specs.substitution.Under.{under}
use Rattle.cv_derive_reasons.specs.cells.Cells.{defined_second, is_among_under, own_behind}
use Rattle.cv_derive.specs.Walks.{Knows, Reaches}

-- the cells on the way down

held_cells : (Γ : Context) (t : Tree) → (with_held Γ t).cells ≡ Γ.cells
held_cells Γ Empty = refl
held_cells Γ (Node h a b) = refl

failed_cells : (Γ : Context) (t : Tree) → (with_failed Γ t).cells ≡ Γ.cells
failed_cells Γ Empty = refl
failed_cells Γ (Node h a b) = refl

first_cells : (w : Position) (h : Head) (Γ : Context) → (first_standing w h Γ).cells ≡ Γ.cells
first_cells Bodies Cons Γ = held_cells Γ Γ.tested
first_cells ElseBody Cons Γ = failed_cells Γ Γ.tested
first_cells w Cons Γ = refl
first_cells w h Γ = refl

second_cells : (w : Position) (h : Head) (a : Tree) (Γ : Context) → (second_standing w h a Γ).cells ≡ Γ.cells ++ defined_second w h a Γ
second_cells Guards Cons a Γ = refl
second_cells Guarded Cons a Γ = held_cells (record Γ { cells = Γ.cells ++ Γ.own; own = [] }) a
second_cells w Cons a Γ = sym (append-nil Γ.cells)
second_cells w (In c) a Γ = refl
second_cells w (New x T) a Γ = refl
second_cells w (Let x T) a Γ = refl
second_cells w (Key x) a Γ = refl
second_cells w (Call x l) a Γ = refl
second_cells w h a Γ = sym (append-nil Γ.cells)

-- the indices of a branch on the way down

held_own : (Γ : Context) (t : Tree) → (with_held Γ t).own ≡ Γ.own
held_own Γ Empty = refl
held_own Γ (Node h a b) = refl

failed_own : (Γ : Context) (t : Tree) → (with_failed Γ t).own ≡ Γ.own
failed_own Γ Empty = refl
failed_own Γ (Node h a b) = refl

first_own : (w : Position) (h : Head) (Γ : Context) → (first_standing w h Γ).own ≡ Γ.own
first_own Bodies Cons Γ = held_own Γ Γ.tested
first_own ElseBody Cons Γ = failed_own Γ Γ.tested
first_own w Cons Γ = refl
first_own w h Γ = refl

no_cells : (trees : List KindTree) (rs : List (ℕ × ℕ)) → [] ≡ cells_of rs (tree_at trees None)
no_cells trees rs = ap (cells_of rs) (sym (tree_at_None trees))

second_own : (trees : List KindTree) (w : Position) (h : Head) (a : Option NodeId) (Γ : Context) (own : Option NodeId) → Γ.own ≡ cells_of Γ.replications (tree_at trees own)
    → (second_standing w h (tree_at trees a) Γ).own ≡ cells_of (second_standing w h (tree_at trees a) Γ).replications (tree_at trees (own_behind w h a own))
second_own trees Guarded Cons a Γ own e = held_own (record Γ { cells = Γ.cells ++ Γ.own; own = [] }) (tree_at trees a) ∙ no_cells trees (second_standing Guarded Cons (tree_at trees a) Γ).replications
second_own trees Guards Cons a Γ own e = e
second_own trees w Cons a Γ own e = e
second_own trees w Branch a Γ own e = refl
second_own trees w (Repl i n) a Γ own e = no_cells trees (replications_below (Repl i n) Γ.replications)
second_own trees w h a Γ own e = e

pub nothing_knows : (trees : List KindTree) (at : Option NodeId) (p : ℕ) (w : Position) → Knows trees nothing_known (record { at = at; left = p; position = w; own = None; above = 0; found = false })
nothing_knows trees at p w = record { own = no_cells trees []; number = refl }

-- tests of cells

more_found : (names : List (ℕ × ℕ)) (terms cell : Tree) (cs ds : List Tree) → (is_among_under names terms cell cs || is_among_under names terms cell ds) ≡ is_among_under names terms cell (cs ++ ds)
more_found names terms cell cs ds = sym (ap (list_any (same_tree cell)) (map-append (under names terms) cs ds) ∙ list_any-append (same_tree cell) (map (under names terms) cs) (map (under names terms) ds))

-- the replications above a node on the way are the first of those above the place
front_same : (w : Position) (Γ Δ : Context) (t : Tree) (p k : ℕ) (rs current : List (ℕ × ℕ)) → standing_at w Γ t p ≡ Some Δ → Δ.replications ≡ rs → k ≡ length Γ.replications → current ≡ take k rs → Γ.replications ≡ current
front_same w Γ Δ t p k rs current e r n f =
    let x = place_extends w Γ Δ t p e in
    sym (f ∙ (ap₂ take n (sym r) ∙ (ap (take (length Γ.replications)) x.replications ∙ take-append_seam Γ.replications x.below)))

pub there_replications : (o : Option Context) (Δ : Context) (rs : List (ℕ × ℕ)) → replications_by o ≡ rs → o ≡ Some Δ → Δ.replications ≡ rs
there_replications o Δ rs r e = ap replications_by (sym e) ∙ r

-- one step down

module _ (trees : List KindTree) (rs names : List (ℕ × ℕ)) (terms cell : Tree) where
  -- to the first child
  pub first_reaches : (w v : Position) (Γ : Context) (u : Tree) (h : Head) (a b own at : Option NodeId) (k p q : ℕ) (found : Bool)
      → u ≡ Node h (tree_at trees a) (tree_at trees b) → LiesAt h (tree_at trees a) p (Within q) → v ≡ first_position w h
      → Γ.own ≡ cells_of Γ.replications (tree_at trees own) → k ≡ length Γ.replications
      → Reaches trees rs (is_among_under names terms cell) (standing_at w Γ u p) Γ (record { at = at; left = p; position = w; own = own; above = k; found = found }) (record { at = a; left = q; position = v; own = own; above = k; found = found })
  first_reaches w v Γ u h a b own at k p q found e l f o n = record {
    context = first_standing w h Γ;
    knows = record {
      own = first_own w h Γ ∙ (o ∙ ap (λ rs. cells_of rs (tree_at trees own)) (sym (first_replications w h Γ)));
      number = n ∙ ap length (sym (first_replications w h Γ));
    };
    place = ap (λ x. standing_at x (first_standing w h Γ) (tree_at trees a) q) f ∙ sym (standing_within w Γ u h (tree_at trees a) (tree_at trees b) p q e l);
    cells = λ Δ m r i. i ∙ ap (is_among_under names terms cell) (sym (first_cells w h Γ));
  }

  -- or to the second
  pub second_reaches : (w v : Position) (Γ : Context) (u : Tree) (h : Head) (a b own next at : Option NodeId) (k j p q : ℕ) (current : List (ℕ × ℕ)) (found finds : Bool)
      → u ≡ Node h (tree_at trees a) (tree_at trees b) → LiesAt h (tree_at trees a) p (Behind q) → v ≡ second_position w h → next ≡ own_behind w h a own → j ≡ above_behind h k
      → Γ.own ≡ cells_of Γ.replications (tree_at trees own) → k ≡ length Γ.replications → current ≡ take k rs
      → ((Θ : Context) → Θ.replications ≡ current → Θ.own ≡ cells_of current (tree_at trees own) → finds ≡ (found || is_among_under names terms cell (defined_second w h (tree_at trees a) Θ)))
      → Reaches trees rs (is_among_under names terms cell) (standing_at w Γ u p) Γ (record { at = at; left = p; position = w; own = own; above = k; found = found }) (record { at = b; left = q; position = v; own = next; above = j; found = finds })
  second_reaches w v Γ u h a b own next at k j p q current found finds e l f g i o n c d = record {
    context = second_standing w h (tree_at trees a) Γ;
    knows = record {
      own = second_own trees w h a Γ own o ∙ ap (λ x. cells_of (second_standing w h (tree_at trees a) Γ).replications (tree_at trees x)) (sym g);
      number = i ∙ (above_length h Γ.replications k n ∙ ap length (sym (second_replications w h (tree_at trees a) Γ)));
    };
    place = ap (λ x. standing_at x (second_standing w h (tree_at trees a) Γ) (tree_at trees b) q) f ∙ sym (standing_behind w Γ u h (tree_at trees a) (tree_at trees b) p q e l);
    cells = λ Δ m r known.
        let same = front_same w Γ Δ u p k rs current m r n c in
        d Γ same (o ∙ ap (λ l. cells_of l (tree_at trees own)) same)
        ∙ (ap (λ z. z || is_among_under names terms cell (defined_second w h (tree_at trees a) Γ)) known
        ∙ (more_found names terms cell Γ.cells (defined_second w h (tree_at trees a) Γ) ∙ ap (is_among_under names terms cell) (sym (second_cells w h (tree_at trees a) Γ))));
  }

-- the walk has ended at the place, or there is no such place

pub found_here : (names : List (ℕ × ℕ)) (terms cell : Tree) (o there : Option Context) (Γ : Context) (b : Bool) → there ≡ Some Γ → there ≡ o → ((Δ : Context) → o ≡ Some Δ → b ≡ is_among_under names terms cell Γ.cells) → b ≡ is_among_under names terms cell (cells_by o)
found_here names terms cell o there Γ b e f g = g Γ (sym f ∙ e) ∙ ap (λ u. is_among_under names terms cell (cells_by u)) (sym e ∙ f)

pub found_nowhere : (names : List (ℕ × ℕ)) (terms cell : Tree) (o there : Option Context) → there ≡ None → there ≡ o → false ≡ is_among_under names terms cell (cells_by o)
found_nowhere names terms cell o there e f = ap (λ u. is_among_under names terms cell (cells_by u)) (sym e ∙ f)
