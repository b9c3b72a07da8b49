-- What is seen of a cell on the way to a place.
use Rattle.std.proofs.Common.{◌≡◌, ℕ, ◌&&◌, ◌||◌, Bool, true, false, List, [], ◌∷◌, ◌++◌, map, take, Option, Some, None, is_some, Result, refl, sym, ap, ap₂, subst, ◌∙◌}
use Rattle.std.proofs.lemmas.Bool.{both_ways}
use Rattle.std.specs.Prelude.{IfOk}
use Rattle.std.proofs.lemmas.List.{append-nil}
use Rattle.std.proofs.lemmas.List.Folds.{list_any-append}
use Rattle.std.specs.List.{list_any}
use Rattle.cv_syntax_trees.specs.declared.head.Head.{Head}
use Rattle.cv_syntax_trees.specs.declared.head.Head.TheVariants.{Branch, Call, Cons, In, Key, Leaf, Let, New}
use Rattle.cv_syntax_trees.specs.Tree.{Tree, Empty, Node, same_tree}
use Rattle.cv_scope_rules.specs.declared.position.Position.{Position}
use Rattle.cv_scope_rules.specs.declared.position.Position.TheVariants.{Bodies, Cells, ElseBody, Guarded, Guards}
use Rattle.cv_scope_rules.specs.Context.{Context, cells_of, first_context, second_context}
use Rattle.cv_scope_rules.specs.Rules.{Names, is_index}
use Rattle.cv_scope_rules.specs.Tests.{is_in_reach}
use Rattle.cv_scene.specs.lines.Given.{given_for, or_node, with_given}
use Rattle.cv_derive_reasons.specs.cells.Cells.{defined_second, is_among_under}
use Rattle.cv_derive_reasons.specs.substitution.Under.{under}
use Rattle.cv_costs.specs.names.Reach.{is_in_scope, is_in_scope_by}
use Rattle.cv_rule_fresh.specs.Looks.{Sees, entered_cells, reads_here}
use Rattle.cv_rule_fresh.specs.declared.reach.Seen.{Seen}

-- at the first child the same cells are known

first_cells : (w : Position) (h : Head) (Γ : Context) → (first_context w h Γ).cells ≡ Γ.cells
first_cells Bodies Cons Γ = refl
first_cells ElseBody Cons Γ = refl
first_cells w Cons Γ = refl
first_cells w h Γ = refl

first_own : (w : Position) (h : Head) (Γ : Context) → (first_context w h Γ).own ≡ Γ.own
first_own Bodies Cons Γ = refl
first_own ElseBody Cons Γ = refl
first_own w Cons Γ = refl
first_own w h Γ = refl

pub first_sees : (cell : Tree) (w : Position) (h : Head) (Γ : Context) (s : Seen) → Sees cell Γ s → Sees cell (first_context w h Γ) s
first_sees cell w h Γ s k = record {
  defined = k.defined ∙ ap (list_any (same_tree cell)) (sym (first_cells w h Γ));
  own = k.own ∙ ap (list_any (same_tree cell)) (sym (first_own w h Γ));
}

-- at the second one a node's own besides

second_cells : (w : Position) (h : Head) (a : Tree) (Γ : Context) → (second_context w h a Γ).cells ≡ Γ.cells ++ entered_cells w h a Γ
second_cells Guards Cons a Γ = refl
second_cells Guarded Cons a Γ = refl
second_cells Cells Cons a Γ = refl
second_cells w Cons a Γ = sym (append-nil Γ.cells)
second_cells w (In c) a Γ = refl
second_cells w (New x T) a Γ = refl
second_cells w (Let x T) a Γ = refl
second_cells w (Key x) a Γ = refl
second_cells w (Call x l) a Γ = refl
second_cells w h a Γ = sym (append-nil Γ.cells)

pub second_sees : (cell : Tree) (w : Position) (h : Head) (a : Tree) (Γ : Context) (s t : Seen) → Sees cell Γ s → t.defined ≡ (s.defined || list_any (same_tree cell) (entered_cells w h a Γ)) → t.own ≡ list_any (same_tree cell) (second_context w h a Γ).own → Sees cell (second_context w h a Γ) t
second_sees cell w h a Γ s t k d o = record {
  defined =
      d
      ∙ (ap (λ v. v || list_any (same_tree cell) (entered_cells w h a Γ)) k.defined
      ∙ (sym (list_any-append (same_tree cell) Γ.cells (entered_cells w h a Γ)) ∙ ap (list_any (same_tree cell)) (sym (second_cells w h a Γ))));
  own = o;
}

-- without terms for names a tree stays as it is

none_given : (terms : Tree) (h : Head) → given_for [] terms h ≡ None
none_given terms (Leaf x) = refl
none_given terms h = refl

nothing_given : (terms t : Tree) → with_given [] terms t ≡ t
unfolding with_given
nothing_given terms Empty = refl
nothing_given terms (Node h a b) = ap (λ o. or_node o h (with_given [] terms a) (with_given [] terms b)) (none_given terms h) ∙ ap₂ (Node h) (nothing_given terms a) (nothing_given terms b)

pub plain : (names reps : List (ℕ × ℕ)) (terms t : Tree) → names ≡ take 0 reps → under names terms t ≡ t
plain names reps terms t e = ap (λ ns. under ns terms t) e ∙ nothing_given terms t

all_plain : (names reps : List (ℕ × ℕ)) (terms : Tree) (ts : List Tree) → names ≡ take 0 reps → map (under names terms) ts ≡ ts
all_plain names reps terms [] e = refl
all_plain names reps terms (t ∷ ts) e = ap₂ (λ x xs. x ∷ xs) (plain names reps terms t e) (all_plain names reps terms ts e)

pub among_plain : (names reps : List (ℕ × ℕ)) (terms cell : Tree) (cells : List Tree) → names ≡ take 0 reps → is_among_under names terms cell cells ≡ list_any (same_tree cell) cells
among_plain names reps terms cell cells e = ap (list_any (same_tree cell)) (all_plain names reps terms cells e)

-- but for a list no index of a branch around is needed
abbrev pub unowned : Context → Context
unowned Γ = record Γ { own = [] }

pub other_entered : (w : Position) (h : Head) (a : Tree) (Γ : Context) → (h ≡ Cons → ⊥) → defined_second w h a (unowned Γ) ≡ entered_cells w h a Γ
other_entered w Cons a Γ n = absurd (n refl)
other_entered w h a Γ n = refl

pub other_own : (w : Position) (h : Head) (a : Tree) (Γ : Context) → (h ≡ Cons → ⊥) → (h ≡ Branch → ⊥) → (second_context w h a Γ).own ≡ Γ.own
other_own w Cons a Γ n m = absurd (n refl)
other_own w Branch a Γ n m = absurd (m refl)
other_own w h a Γ n m = refl

pub list_own : (w : Position) (a : Tree) (Γ : Context) → (w ≡ Guarded → ⊥) → (second_context w Cons a Γ).own ≡ Γ.own
list_own Guarded a Γ n = absurd (n refl)
list_own Guards a Γ n = refl
list_own Cells a Γ n = refl
list_own w a Γ n = refl

pub list_entered : (w : Position) (a : Tree) (Γ : Context) → (w ≡ Guards → ⊥) → (w ≡ Guarded → ⊥) → (w ≡ Cells → ⊥) → entered_cells w Cons a Γ ≡ []
list_entered Guards a Γ k m n = absurd (k refl)
list_entered Guarded a Γ k m n = absurd (m refl)
list_entered Cells a Γ k m n = absurd (n refl)
list_entered w a Γ k m n = refl

pub guards_entered : (w : Position) (h : Head) (a : Tree) (Γ : Context) → w ≡ Guards → h ≡ Cons → defined_second w h a (unowned Γ) ≡ entered_cells w h a Γ
guards_entered w h a Γ p q = ap₂ (λ v k. defined_second v k a (unowned Γ)) p q ∙ sym (ap₂ (λ v k. entered_cells v k a Γ) p q)

-- where nothing is bound there are no cells
pub no_cells : (rs : List (ℕ × ℕ)) (t : Tree) → t ≡ Empty → [] ≡ cells_of rs t
no_cells rs t e = sym (ap (cells_of rs) e)

-- terms in scope, node by node

pub scope_node : (names : Names) (Γ : Context) (t : Tree) (h : Head) (a b : Tree) → t ≡ Node h a b → is_in_scope names Γ t ≡ (reads_here names Γ t && (is_in_scope names Γ a && is_in_scope names Γ b))
unfolding is_in_scope
scope_node names Γ t h a b e = ap (is_in_scope names Γ) e ∙ sym (ap (λ u. reads_here names Γ u && (is_in_scope names Γ a && is_in_scope names Γ b)) e)

pub scope_end : (names : Names) (Γ : Context) (t : Tree) → t ≡ Empty → is_in_scope names Γ t ≡ true
unfolding is_in_scope
scope_end names Γ t e = ap (is_in_scope names Γ) e

-- what a context knows of a cell

pub seen_here : (cell : Tree) (Γ Δ : Context) (s : Seen) → Sees cell Γ s → Some Γ ≡ Some Δ → (s.defined || s.own) ≡ is_in_reach Δ cell
seen_here cell Γ Δ s k e = let f : Γ ≡ Δ = cc in ap₂ ◌||◌ k.defined k.own ∙ ap (λ Θ. is_in_reach Θ cell) f

-- what isn't read in scope

pub unread : (names : Names) (Γ : Context) (t : Tree) → reads_here names Γ t ≡ false → is_in_scope names Γ t ≡ false
unfolding is_in_scope
unread names Γ Empty e = absurd (both_ways true e refl)
unread names Γ (Node h a b) e = ap (λ v. v && (is_in_scope names Γ a && is_in_scope names Γ b)) e

pub leaf_reads : (names : Names) (Γ : Context) (t : Tree) (x : ℕ) (a b : Tree) → t ≡ Node (Leaf x) a b → is_index Γ.replications x ≡ false → names.constant x ≡ false → is_in_reach Γ t ≡ reads_here names Γ t
leaf_reads names Γ t x a b e i k =
    ap (is_in_reach Γ) e ∙ sym (ap (reads_here names Γ) e ∙ ap₂ (λ u v. u || (v || is_in_reach Γ (Node (Leaf x) a b))) i k)

-- a place and what is known there

pub unknown : (names : Names) (o : Option Context) (m : Tree) → is_some o ≡ false → is_in_scope_by names o m ≡ false
unknown names None m e = refl
unknown names (Some Γ) m e = absurd (both_ways true e refl)

pub known_scoped : {E : Type 0} (names code : Names) (o : Option Context) (r : Result Bool E) (m : Tree) → is_some o ≡ true → code ≡ names → ((Γ : Context) → o ≡ Some Γ → IfOk r (λ b. b ≡ is_in_scope code Γ m)) → IfOk r (λ b. b ≡ is_in_scope_by names o m)
known_scoped names code None r m e n h = absurd (both_ways false refl e)
known_scoped names code (Some Γ) r m e n h = subst (λ (k : Names). IfOk r (λ b. b ≡ is_in_scope k Γ m)) n (h Γ refl)
