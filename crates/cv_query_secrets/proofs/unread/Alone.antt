-- Heads that never stand in a game, since they would make a variable in another way than its definitions do.
use Rattle.std.proofs.Common.{◌≡◌, ℕ, ◌==◌, ◌&&◌, Bool, true, false, not, Option, Some, None, refl, ap, ap₂}
use Rattle.std.proofs.lemmas.Bool.{both_ways, and_parts, or_parts}
use Rattle.cv_syntax_trees.specs.declared.head.Head.{Head}
use Rattle.cv_syntax_trees.specs.declared.head.Head.TheVariants.{In, Yield, Branch, Leaf, Yes, Binder, Name, Cons}
use Rattle.cv_syntax_trees.specs.Tree.{Tree, Empty, Node, second}
use Rattle.cv_scope_rules.specs.Made.{is_bound, made_by}
use Rattle.cv_scope_rules.specs.Phrases.{Phrase, Inputs, Body, Then, Else, Branches, Arm, Guards, Guarded, Pattern, Message, Indices, Binders, Cells, OneCell, Terms, Term, parts, both_are, is_phrase}
use Rattle.cv_scope_rules.specs.Sites.{Variable}
use Rattle.cv_query_certificates.specs.Secrets.{first_definition_but}
use Rattle.cv_costs.proofs.quiet.Shapes.{defined_parts, left_false}
use Rattle.cv_syntax_trees.proofs.lists.Tests.{differ_comm}

-- no node has such a head
unfoldable pub none_odd : (Head → Bool) → Tree → Bool
none_odd odd Empty = true
none_odd odd (Node h a b) = not (odd h) && (none_odd odd a && none_odd odd b)

-- what a definition may be, and the heads that it may not have
pub record AreOdd (x : ℕ) (is_one : Head → Tree → Bool) (odd : Head → Bool) : Type 0 where
  pub inputs : (c : ℕ) (a : Tree) → is_one (In c) a ≡ false
  pub branches : (a : Tree) → is_one Branch a ≡ false
  pub binders : (y T : ℕ) → (y == x) ≡ false → not (odd (Binder y T)) ≡ true
  pub others : (h : Head) (a : Tree) → (made_by h a (Variable x) && not (is_one h a)) ≡ false → ((y T : ℕ) → h ≡ Binder y T → ⊥) → not (odd h) ≡ true

module _ (x : ℕ) (is_one : Head → Tree → Bool) (odd : Head → Bool) (k : AreOdd x is_one odd) where
  abbrev IsMade : Head → Tree → Type 0
  IsMade h a = (made_by h a (Variable x) && not (is_one h a)) ≡ false

  -- the lists of binders of the phrase don't bind the variable
  abbrev Free : Phrase → Tree → Type 0
  Free Binders b = is_bound b x ≡ false
  Free Pattern b = is_bound (second b) x ≡ false
  Free σ b = Unit {0}

  abbrev AreFree : Option (Phrase × Phrase) → Tree → Tree → Type 0
  AreFree None a b = Unit {0} × Unit {0}
  AreFree (Some q) a b = Free q.0 a × Free q.1 b

  children_free : (σ : Phrase) (h : Head) (a b : Tree) → IsMade h a → Free σ (Node h a b) → AreFree (parts σ h) a b
  unfolding is_bound
  children_free Inputs (In c) a b e f = (left_false (is_bound (second a) x) (not (is_one (In c) a)) (ap not (k.inputs c a)) e, tt)
  children_free Arm Branch a b e f = (left_false (is_bound a x) (not (is_one Branch a)) (ap not (k.branches a)) e, tt)
  children_free Pattern Cons a b e f = (tt, f)
  children_free Binders (Binder y T) a b e f = (tt, (or_parts (x == y) (is_bound b x) f).1)
  children_free Body Yield a b e f = (tt, tt)
  children_free Then Cons a b e f = (tt, tt)
  children_free Else Cons a b e f = (tt, tt)
  children_free Branches Cons a b e f = (tt, tt)
  children_free Guards Cons a b e f = (tt, tt)
  children_free Guarded Cons a b e f = (tt, tt)
  children_free Message Cons a b e f = (tt, tt)
  children_free Indices (Name i) a b e f = (tt, tt)
  children_free Cells Cons a b e f = (tt, tt)
  children_free OneCell (Leaf y) a b e f = (tt, tt)
  children_free Terms Cons a b e f = (tt, tt)
  children_free Term Yes a b e f = (tt, tt)
  children_free σ h a b e f = (tt, tt)

  binder_free : (σ : Phrase) (y T : ℕ) (a b : Tree) → Free σ (Node (Binder y T) a b) → both_are (parts σ (Binder y T)) (λ τ. is_phrase τ a) (λ ρ. is_phrase ρ b) ≡ true → (y == x) ≡ false
  unfolding is_bound
  binder_free Binders y T a b f e = differ_comm x y (or_parts (x == y) (is_bound b x) f).0
  binder_free σ y T a b f e = absurd (both_ways false refl e)

  head_fine : (σ : Phrase) (h : Head) (a b : Tree) → IsMade h a → Free σ (Node h a b) → both_are (parts σ h) (λ τ. is_phrase τ a) (λ ρ. is_phrase ρ b) ≡ true → not (odd h) ≡ true
  head_fine σ (Binder y T) a b e f g = k.binders y T (binder_free σ y T a b f g)
  head_fine σ h a b e f g = k.others h a e (λ y T i. absurd (cc))

  pub none_stands : (σ : Phrase) (p : ℕ) (b : Tree) → is_phrase σ b ≡ true → first_definition_but is_one x p b ≡ None → Free σ b → none_odd odd b ≡ true
  unfolding none_odd is_phrase
  none_stands σ p Empty e c f = refl
  none_stands σ p (Node h a b) e c f =
      let d = defined_parts is_one x p h a b c in
      ap₂ ◌&&◌ (head_fine σ h a b d.here f e)
      (go (parts σ h) e (children_free σ h a b d.here f) (λ τ y z. none_stands τ _ a y d.first z) (λ τ y z. none_stands τ _ b y d.second z))
    where
      go : (o : Option (Phrase × Phrase)) → both_are o (λ τ. is_phrase τ a) (λ ρ. is_phrase ρ b) ≡ true → AreFree o a b → ((τ : Phrase) → is_phrase τ a ≡ true → Free τ a → none_odd odd a ≡ true)
          → ((τ : Phrase) → is_phrase τ b ≡ true → Free τ b → none_odd odd b ≡ true) → (none_odd odd a && none_odd odd b) ≡ true
      go None y z i j = absurd (both_ways false refl y)
      go (Some q) y z i j = let r = and_parts (is_phrase q.0 a) (is_phrase q.1 b) y in ap₂ ◌&&◌ (i q.0 r.0 z.0) (j q.1 r.1 z.1)

  pub game_has_none : (game : Tree) → is_phrase Inputs game ≡ true → first_definition_but is_one x 0 game ≡ None → none_odd odd game ≡ true
  game_has_none game e c = none_stands Inputs 0 game e c tt
