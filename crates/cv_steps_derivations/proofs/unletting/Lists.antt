-- Where no `defined` list of a game names a variable.
use Rattle.std.proofs.Common.{◌≡◌, ℕ, false, Option, Some, None, subst}
use Rattle.std.proofs.lemmas.Bool.{or_parts}
use Rattle.cv_syntax_trees.specs.declared.head.Head.{Head}
use Rattle.cv_syntax_trees.specs.declared.head.Head.TheVariants.{Stop, Yield, Par, Repl, In, Out, Event, New, Let, If, Find, Branch, Leaf, Read, Apply, Eq, And, Or, Not, Yes, No, Cons, Binder, Name, Key, Call}
use Rattle.cv_syntax_trees.specs.Tree.{Tree, Empty, Node}
use Rattle.cv_scope_rules.specs.declared.position.Position.{Position}
use Rattle.cv_scope_rules.specs.declared.position.Position.TheVariants as position
use Rattle.cv_scope_rules.specs.Context.{Context}
use Rattle.cv_scope_rules.specs.Phrases.{Phrase, Nil, Inputs, Body, Then, Else, Branches, Arm, Guards, Guarded, Pattern, Message, Indices, Binders, Cells, OneCell, Terms, Term, oracle_parts}
use Rattle.cv_scope_runs.proofs.Rows.{position_of}
use Rattle.cv_scope_runs.proofs.Standing.{Stands, root, in_first, in_second}
use Rattle.cv_scene.specs.Instances.{is_read_of}
use Rattle.cv_scene.specs.Sights.{variable_of}
use Rattle.cv_steps.specs.Unletting.{has_cell_of, is_listed}

module _ (x : ℕ) where
  -- no list in the phrase names the variable
  abbrev pub IsUnlisted : Phrase → Tree → Type 0
  IsUnlisted Nil t = Unit {0}
  IsUnlisted Pattern t = Unit {0}
  IsUnlisted Message t = Unit {0}
  IsUnlisted Indices t = Unit {0}
  IsUnlisted Binders t = Unit {0}
  IsUnlisted Terms t = Unit {0}
  IsUnlisted Term t = Unit {0}
  IsUnlisted Guards Empty = Unit {0}
  IsUnlisted Guards (Node h cells rest) = (has_cell_of x cells ≡ false) × (is_listed x rest ≡ false)
  IsUnlisted Cells t = has_cell_of x t ≡ false
  IsUnlisted OneCell t = is_read_of x (variable_of t) ≡ false
  IsUnlisted σ t = is_listed x t ≡ false

  abbrev ArePassed : Phrase → Head → Option (Phrase × Phrase) → Type 0
  ArePassed σ h None = Unit {0}
  ArePassed σ h (Some q) = (a b : Tree) → IsUnlisted σ (Node h a b) → IsUnlisted q.0 a × IsUnlisted q.1 b

  guards : (us rest : Tree) → is_listed x (Node Branch us rest) ≡ false → IsUnlisted Guards rest
  unfolding is_listed
  guards us Empty e = tt
  guards us (Node h cells rest) e = or_parts (has_cell_of x cells) _ e

  all_passed : (σ : Phrase) (h : Head) → ArePassed σ h (oracle_parts σ h)
  unfolding is_listed
  all_passed Inputs Stop = λ a b u. (tt, tt)
  all_passed Inputs Par = λ a b u. or_parts (is_listed x a) _ u
  all_passed Inputs (Repl i n) = λ a b u. (tt, (or_parts (is_listed x a) _ u).1)
  all_passed Inputs (In c) = λ a b u. (tt, (or_parts (is_listed x a) _ u).1)
  all_passed Body Yield = λ a b u. (tt, tt)
  all_passed Body (Out c) = λ a b u. (tt, (or_parts (is_listed x a) _ u).1)
  all_passed Body (New y T) = λ a b u. (tt, (or_parts (is_listed x a) _ u).1)
  all_passed Body (Let y T) = λ a b u. (tt, (or_parts (is_listed x a) _ u).1)
  all_passed Body (Key y) = λ a b u. (tt, (or_parts (is_listed x a) _ u).1)
  all_passed Body (Call y l) = λ a b u. (tt, (or_parts (is_listed x a) _ u).1)
  all_passed Body (Event e) = λ a b u. (tt, (or_parts (is_listed x a) _ u).1)
  all_passed Body If = λ a b u. (tt, (or_parts (is_listed x a) _ u).1)
  all_passed Body (Find l) = λ a b u. or_parts (is_listed x a) _ u
  all_passed Then Cons = λ a b u. or_parts (is_listed x a) _ u
  all_passed Else Cons = λ a b u. ((or_parts (is_listed x a) _ u).0, tt)
  all_passed Branches Cons = λ a b u. or_parts (is_listed x a) _ u
  all_passed Arm Branch = λ a b u. (tt, guards a b u)
  all_passed Guards Cons = λ a b u. u
  all_passed Guarded Cons = λ a b u. (tt, (or_parts (is_listed x a) _ u).1)
  all_passed Pattern Cons = λ a b u. (tt, tt)
  all_passed Message Cons = λ a b u. (tt, tt)
  all_passed Indices (Name i) = λ a b u. (tt, tt)
  all_passed Binders (Binder y T) = λ a b u. (tt, tt)
  all_passed Cells Cons = λ a b u. or_parts (is_read_of x (variable_of a)) _ u
  all_passed OneCell (Leaf y) = λ a b u. (tt, tt)
  all_passed OneCell (Read y) = λ a b u. (tt, tt)
  all_passed Terms Cons = λ a b u. (tt, tt)
  all_passed Term (Leaf y) = λ a b u. (tt, tt)
  all_passed Term (Read y) = λ a b u. (tt, tt)
  all_passed Term (Apply f) = λ a b u. (tt, tt)
  all_passed Term Eq = λ a b u. (tt, tt)
  all_passed Term And = λ a b u. (tt, tt)
  all_passed Term Or = λ a b u. (tt, tt)
  all_passed Term Not = λ a b u. (tt, tt)
  all_passed Term Yes = λ a b u. (tt, tt)
  all_passed Term No = λ a b u. (tt, tt)
  all_passed σ h = tt

  passed : (σ τ ρ : Phrase) (h : Head) → oracle_parts σ h ≡ Some (τ, ρ) → (a b : Tree) → IsUnlisted σ (Node h a b) → IsUnlisted τ a × IsUnlisted ρ b
  passed σ τ ρ h e = subst (ArePassed σ h) e (all_passed σ h)

  pub unlisted : (game : Tree) → is_listed x game ≡ false → {p : ℕ} {σ : Phrase} {Γ : Context} {b : Tree} → Stands game p σ Γ b → IsUnlisted σ b
  unlisted game e root = e
  unlisted game e (in_first {σ = σ} {τ = τ} {ρ = ρ} {h = h} {a = a} {b = b} i st) = (passed σ τ ρ h i a b (unlisted game e st)).0
  unlisted game e (in_second {σ = σ} {τ = τ} {ρ = ρ} {h = h} {a = a} {b = b} i st) = (passed σ τ ρ h i a b (unlisted game e st)).1

  -- what a node of lists adds to what is known behind it
  abbrev pub AddsNone : Position → Head → Tree → Type 0
  AddsNone position.Guards Cons a = has_cell_of x a ≡ false
  AddsNone position.Cells Cons a = is_read_of x (variable_of a) ≡ false
  AddsNone w h a = Unit {0}

  pub adds_none : (σ : Phrase) (h : Head) (a b : Tree) → IsUnlisted σ (Node h a b) → AddsNone (position_of σ) h a
  adds_none Guards Cons a b u = u.0
  adds_none Cells Cons a b u = (or_parts (is_read_of x (variable_of a)) _ u).0
  adds_none Then Cons a b u = tt
  adds_none Else Cons a b u = tt
  adds_none Branches Cons a b u = tt
  adds_none Guarded Cons a b u = tt
  adds_none OneCell Cons a b u = tt
  adds_none σ h a b u = tt
