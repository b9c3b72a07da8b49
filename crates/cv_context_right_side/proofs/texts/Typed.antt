-- In a typed game each phrase is typed, and so are its children.
use Rattle.std.proofs.Common.{◌≡◌, true, false, [], ◌∷◌, map, Option, Some, None, refl, subst}
use Rattle.std.proofs.lemmas.Bool.{both_ways}
use Rattle.cv_syntax_trees.specs.declared.head.Head.{Head}
use Rattle.cv_syntax_trees.specs.declared.head.Head.TheVariants.{And, Apply, Binder, Branch, Cons, Eq, Event, Find, If, In, Leaf, Let, Name, New, No, Not, Or, Out, Par, Read, Repl, Stop, Yes, Yield}
use Rattle.cv_syntax_trees.specs.Tree.{Tree, Node, first, second}
use Rattle.cv_meaning_laws.specs.adequacy.Typed.{BelowParameter, Context, HasSort, HaveSomeSorts, HaveSorts, IsTyped, OfType, Scope, Sort, boolean}
use Rattle.cv_scope_rules.specs.Context.{replications_below}
use Rattle.cv_scope_rules.specs.Phrases.{Phrase, Arm, Binders, Body, Branches, Cells, Else, Guarded, Guards, Indices, Inputs, Message, Nil, OneCell, Pattern, Term, Terms, Then, is_phrase, parts}

module _ (c : Context) where
  -- what typing says of a phrase
  abbrev pub IsTypedAs : Phrase → Scope → Tree → Type 0
  IsTypedAs Term rs t = (S : Sort) × HasSort c rs t S
  IsTypedAs OneCell rs t = (S : Sort) × HasSort c rs t S
  IsTypedAs Terms rs t = HaveSomeSorts c rs t
  IsTypedAs Cells rs t = HaveSomeSorts c rs t
  IsTypedAs Message rs t = HaveSomeSorts c rs (second t)
  IsTypedAs Guards rs t = HaveSomeSorts c rs (first t) × HasSort c rs (first (second t)) boolean × IsTyped c rs t
  IsTypedAs Guarded rs t = HasSort c rs (first t) boolean × IsTyped c rs t
  IsTypedAs Nil rs t = Unit {0}
  IsTypedAs Pattern rs t = Unit {0}
  IsTypedAs Indices rs t = Unit {0}
  IsTypedAs Binders rs t = Unit {0}
  IsTypedAs σ rs t = IsTyped c rs t

  abbrev AreTypedAs : Option (Phrase × Phrase) → Scope → Head → Tree → Tree → Type 0
  AreTypedAs None rs h a b = ⊥
  AreTypedAs (Some q) rs h a b = IsTypedAs q.0 rs a × IsTypedAs q.1 (replications_below h rs) b

  list_parts : (rs : Scope) (h : Head) (a b : Tree) → HaveSomeSorts c rs (Node h a b) → ((S : Sort) × HasSort c rs a S) × HaveSomeSorts c rs b
  unfolding HaveSorts
  list_parts rs h a b ([], s) = absurd s
  list_parts rs h a b (S ∷ Ss, s) = ((S, s.0), (Ss, s.1))

  below : (σ : Phrase) (rs : Scope) (h : Head) (a b : Tree) → is_phrase σ (Node h a b) ≡ true → IsTypedAs σ rs (Node h a b) → AreTypedAs (parts σ h) rs h a b
  unfolding is_phrase HasSort HaveSorts IsTyped
  below Inputs rs Stop a b e t = (tt, tt)
  below Inputs rs Par a b e t = t
  below Inputs rs (Repl i n) a b e t = (tt, t)
  below Inputs rs (In x) a b e t = (tt, t.1)
  below Body rs Yield a b e t = (tt, tt)
  below Body rs (Out x) a b e t = t
  below Body rs (New x T) a b e t = (tt, t.1)
  below Body rs (Let x T) a b e t = ((OfType T, t.1), t.2)
  below Body rs (Event v) a b e t = t
  below Body rs If a b e t = ((boolean, t.0), t.1)
  below Body rs (Find l) a b e t = (t.1, t.2)
  below Then rs Cons a b e t = t
  below Else rs Cons a b e t = (t.0, tt)
  below Branches rs Cons a b e t = t
  below Arm rs Branch a b e t = (tt, (t.1, t.2, t.3))
  below Guards rs Cons a b e t = (t.0, (t.1, t.2.1))
  below Guarded rs Cons a b e t = ((boolean, t.0), t.1.1)
  below Pattern rs Cons a b e t = (tt, tt)
  below Message rs Cons a b e t = (tt, t)
  below Indices rs (Name i) a b e t = (tt, tt)
  below Binders rs (Binder x T) a b e t = (tt, tt)
  below Cells rs Cons a b e t = list_parts rs Cons a b t
  below OneCell rs (Leaf x) a b e t = (tt, tt)
  below OneCell rs (Read x) a b e t = ((map BelowParameter t.1.0.indices, t.1.3), tt)
  below Terms rs Cons a b e t = list_parts rs Cons a b t
  below Term rs (Leaf x) a b e t = (tt, tt)
  below Term rs (Read x) a b e t = ((map BelowParameter t.1.0.indices, t.1.3), tt)
  below Term rs (Apply f) a b e t = ((map OfType t.1.0, t.1.4), tt)
  below Term rs Eq a b e t = ((t.1.1, t.1.2), (t.1.1, t.1.3))
  below Term rs And a b e t = ((boolean, t.1.1), (boolean, t.1.2))
  below Term rs Or a b e t = ((boolean, t.1.1), (boolean, t.1.2))
  below Term rs Not a b e t = ((boolean, t.1.1), tt)
  below Term rs Yes a b e t = (tt, tt)
  below Term rs No a b e t = (tt, tt)
  below σ rs h a b e t = absurd (both_ways false refl e)

  pub typed_below : (σ : Phrase) (rs : Scope) (h : Head) (a b : Tree) → is_phrase σ (Node h a b) ≡ true → IsTypedAs σ rs (Node h a b) → (q : Phrase × Phrase) → parts σ h ≡ Some q → IsTypedAs q.0 rs a × IsTypedAs q.1 (replications_below h rs) b
  typed_below σ rs h a b e t q i = subst (λ o. AreTypedAs o rs h a b) i (below σ rs h a b e t)
