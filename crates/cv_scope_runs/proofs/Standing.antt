-- Where a subtree of a game stands, and what is known there.
use Rattle.std.proofs.Common.{◌≡◌, ℕ, ◌+◌, ◌-◌, ◌<◌, true, false, cond, List, [], ◌∷◌, ◌++◌, inl, inr, Some, refl, sym, ap, ap₂, subst, ◌∙◌, ltb, le-ltb, lt-ltb, arith}
use Rattle.cv_syntax_trees.specs.declared.head.Head.{Head}
use Rattle.cv_syntax_trees.specs.Head.{weight}
use Rattle.cv_syntax.specs.Layouts.{IsSyntax}
use Rattle.cv_syntax_trees.specs.Tree.{Tree, Empty, Node, size, first_place, second_place}
use Rattle.cv_scope_rules.specs.declared.position.Position.{Position}
use Rattle.cv_scope_rules.specs.Context.{Context, nothing_known, first_position, second_position, first_context, second_context, context_at, known_at}
use Rattle.cv_scope_rules.specs.Sites.{Variable}
use Rattle.cv_scope_rules.specs.Phrases.{Phrase, Inputs, oracle_parts}
use Rattle.cv_scope_rules.specs.Made.{made_by}
use Rattle.cv_scope_runs.specs.Promises.{after_site, definitions_in, definitions_of, IsDefinition}
use Rattle.cv_scope_runs.proofs.Rows.{position_of, placed}

-- what is known at the children of a node
abbrev pub first_below : Phrase → Head → Context → Context
first_below σ h Γ = first_context (position_of σ) h Γ

abbrev pub second_below : Phrase → Head → Tree → Context → Context
second_below σ h a Γ = second_context (position_of σ) h a Γ

-- the subtree stands at this place of the game, where such a phrase may stand, and this is known there
pub data Stands (game : Tree) : ℕ → Phrase → Context → Tree → Type 0 where
  root : Stands game 0 Inputs nothing_known game
  in_first : {p : ℕ} {σ τ ρ : Phrase} {Γ : Context} {h : Head} {a b : Tree} → oracle_parts σ h ≡ Some (τ, ρ) → Stands game p σ Γ (Node h a b) → Stands game (first_place p h) τ (first_below σ h Γ) a
  in_second : {p : ℕ} {σ τ ρ : Phrase} {Γ : Context} {h : Head} {a b : Tree} → oracle_parts σ h ≡ Some (τ, ρ) → Stands game p σ Γ (Node h a b) → Stands game (second_place p h a) ρ (second_below σ h a Γ) b

-- contexts by places

context_first : (w v : Position) (Γ : Context) (h : Head) (a b : Tree) (q : ℕ) → first_position w h ≡ v → q < size a → context_at w Γ (Node h a b) (weight h + q) ≡ context_at v (first_context w h Γ) a q
unfolding context_at
context_first w v Γ h a b q e l =
    let u : ltb (weight h + q) (weight h) ≡ false = le-ltb _ _ (omega arith) in
    let z : ltb (weight h + q) (weight h + size a) ≡ true = lt-ltb _ _ (omega arith) in
    let m : weight h + q - weight h ≡ q = omega arith in
    ap (λ x. cond x (Some Γ) (cond (ltb (weight h + q) (weight h + size a)) (context_at (first_position w h) (first_context w h Γ) a (weight h + q - weight h)) (context_at (second_position w h) (second_context w h a Γ) b (weight h + q - (weight h + size a))))) u
    ∙ ap (λ x. cond x (context_at (first_position w h) (first_context w h Γ) a (weight h + q - weight h)) (context_at (second_position w h) (second_context w h a Γ) b (weight h + q - (weight h + size a)))) z
    ∙ ap₂ (λ o n. context_at o (first_context w h Γ) a n) e m

context_second : (w v : Position) (Γ : Context) (h : Head) (a b : Tree) (q : ℕ) → second_position w h ≡ v → context_at w Γ (Node h a b) (weight h + size a + q) ≡ context_at v (second_context w h a Γ) b q
unfolding context_at
context_second w v Γ h a b q e =
    let p : ℕ = weight h + size a + q in
    let u : ltb p (weight h) ≡ false = le-ltb _ _ (omega arith) in
    let z : ltb p (weight h + size a) ≡ false = le-ltb _ _ (omega arith) in
    let m : p - (weight h + size a) ≡ q = omega arith in
    ap (λ x. cond x (Some Γ) (cond (ltb p (weight h + size a)) (context_at (first_position w h) (first_context w h Γ) a (p - weight h)) (context_at (second_position w h) (second_context w h a Γ) b (p - (weight h + size a))))) u
    ∙ ap (λ x. cond x (context_at (first_position w h) (first_context w h Γ) a (p - weight h)) (context_at (second_position w h) (second_context w h a Γ) b (p - (weight h + size a)))) z
    ∙ ap₂ (λ o n. context_at o (second_context w h a Γ) b n) e m

context_down : (game : Tree) {p : ℕ} {σ : Phrase} {Γ : Context} {b : Tree} → Stands game p σ Γ b → (q : ℕ) → q < size b → known_at game (p + q) ≡ context_at (position_of σ) Γ b q
unfolding size
context_down game root q l = ap (known_at game) (let e : 0 + q ≡ q = omega arith in e)
context_down game (in_first {p = p} {σ = σ} {τ = τ} {ρ = ρ} {Γ = Γ} {h = h} {a = a} {b = b} e st) q l =
    ap (known_at game) (let e : p + weight h + q ≡ p + (weight h + q) = omega arith in e) ∙ context_down game st (weight h + q) (omega arith) ∙ context_first (position_of σ) (position_of τ) Γ h a b q (placed σ τ ρ h e).0 l
context_down game (in_second {p = p} {σ = σ} {τ = τ} {ρ = ρ} {Γ = Γ} {h = h} {a = a} {b = b} e st) q l =
    ap (known_at game) (let e : p + weight h + size a + q ≡ p + (weight h + size a + q) = omega arith in e) ∙ context_down game st (weight h + size a + q) (omega arith) ∙ context_second (position_of σ) (position_of ρ) Γ h a b q (placed σ τ ρ h e).1

context_here : (w : Position) (Γ : Context) (h : Head) (a b : Tree) → weight h ≡ 1 → context_at w Γ (Node h a b) 0 ≡ Some Γ
unfolding context_at
context_here w Γ h a b e = ap (λ n. cond (ltb 0 n) (Some Γ) (cond (ltb 0 (weight h + size a)) (context_at (first_position w h) (first_context w h Γ) a (0 - weight h)) (context_at (second_position w h) (second_context w h a Γ) b (0 - (weight h + size a))))) e

-- what is known at a node that has a place
pub stands_known : (game : Tree) (p : ℕ) (σ : Phrase) (Γ : Context) (t : Tree) → IsSyntax t → Stands game p σ Γ t → known_at game p ≡ Some Γ
unfolding size
stands_known game p σ Γ Empty i st = absurd i
stands_known game p σ Γ (Node h a b) i st =
    ap (known_at game) (let e : p ≡ p + 0 = omega arith in e) ∙ context_down game st 0 (omega arith) ∙ context_here (position_of σ) Γ h a b i

-- definitions

pub more_right : (d : ℕ × Context) (xs ys : List (ℕ × Context)) → IsDefinition d ys → IsDefinition d (xs ++ ys)
more_right d [] ys h = h
more_right d (x ∷ xs) ys h = inr (more_right d xs ys h)

pub more_left : (d : ℕ × Context) (xs ys : List (ℕ × Context)) → IsDefinition d xs → IsDefinition d (xs ++ ys)
more_left d [] ys h = absurd h
more_left d (x ∷ xs) ys (inl e) = inl e
more_left d (x ∷ xs) ys (inr h) = inr (more_left d xs ys h)

definitions_up : (game : Tree) (x : ℕ) (d : ℕ × Context) {p : ℕ} {σ : Phrase} {Γ : Context} {b : Tree} → Stands game p σ Γ b → IsDefinition d (definitions_in x (position_of σ) Γ p b) → IsDefinition d (definitions_of game x)
unfolding definitions_in
definitions_up game x d root i = i
definitions_up game x d (in_first {p = p} {σ = σ} {τ = τ} {ρ = ρ} {Γ = Γ} {h = h} {a = a} {b = b} e st) i =
    definitions_up game x d st (more_right d (cond (made_by h a (Variable x)) ((p, after_site h a b Γ) ∷ []) []) _
    (more_left d (definitions_in x (first_position (position_of σ) h) (first_below σ h Γ) (first_place p h) a) (definitions_in x (second_position (position_of σ) h) (second_below σ h a Γ) (second_place p h a) b)
    (subst (λ w. IsDefinition d (definitions_in x w (first_below σ h Γ) (first_place p h) a)) (sym (placed σ τ ρ h e).0) i)))
definitions_up game x d (in_second {p = p} {σ = σ} {τ = τ} {ρ = ρ} {Γ = Γ} {h = h} {a = a} {b = b} e st) i =
    definitions_up game x d st (more_right d (cond (made_by h a (Variable x)) ((p, after_site h a b Γ) ∷ []) []) _
    (more_right d (definitions_in x (first_position (position_of σ) h) (first_below σ h Γ) (first_place p h) a) (definitions_in x (second_position (position_of σ) h) (second_below σ h a Γ) (second_place p h a) b)
    (subst (λ w. IsDefinition d (definitions_in x w (second_below σ h a Γ) (second_place p h a) b)) (sym (placed σ τ ρ h e).1) i)))

pub stands_definition : (game : Tree) (x p : ℕ) (σ : Phrase) (Γ : Context) (h : Head) (a b : Tree) → Stands game p σ Γ (Node h a b) → made_by h a (Variable x) ≡ true → IsDefinition (p, after_site h a b Γ) (definitions_of game x)
unfolding definitions_in
stands_definition game x p σ Γ h a b st e =
    let d : ℕ × Context = (p, after_site h a b Γ) in
    definitions_up game x d st (more_left d (cond (made_by h a (Variable x)) (d ∷ []) []) _ (subst (λ c. IsDefinition d (cond c (d ∷ []) [])) (sym e) (inl refl)))
