-- The rows of the table of phrases: the positions that they have in array scope, and those that a service walks through.
use Rattle.std.proofs.Common.{◌≡◌, ℕ, Bool, true, false, Option, Some, None, refl, subst}
use Rattle.std.proofs.lemmas.Bool.{both_ways}
use Rattle.cv_syntax_trees.specs.declared.head.Head.{Head}
use Rattle.cv_syntax_trees.specs.declared.head.Head.TheVariants.{Stop, Yield, Par, Repl, In, Out, Event, New, Let, If, Find, Branch, Leaf, Read, Apply, Eq, And, Or, Not, Yes, No, Cons, Binder, Name, Key, Call}
use Rattle.cv_scope_rules.specs.declared.position.Position.{Position}
use Rattle.cv_scope_rules.specs.declared.position.Position.TheVariants as position
use Rattle.cv_scope_rules.specs.Context.{first_position, second_position}
use Rattle.cv_scope_rules.specs.Phrases.{Phrase, Nil, Inputs, Body, Then, Else, Branches, Arm, Guards, Guarded, Pattern, Message, Indices, Binders, Cells, OneCell, Terms, Term, oracle_parts}

abbrev pub position_of : Phrase → Position
position_of Then = position.Bodies
position_of Else = position.ElseBody
position_of Branches = position.Branches
position_of Guards = position.Guards
position_of Guarded = position.Guarded
position_of Cells = position.Cells
position_of OneCell = position.OneCell
position_of σ = position.Anywhere

-- the children of a node have the positions of their phrases

abbrev ArePlaced : Phrase → Head → Option (Phrase × Phrase) → Type 0
ArePlaced σ h None = Unit {0}
ArePlaced σ h (Some q) = (first_position (position_of σ) h ≡ position_of q.0) × (second_position (position_of σ) h ≡ position_of q.1)

all_placed : (σ : Phrase) (h : Head) → ArePlaced σ h (oracle_parts σ h)
all_placed Inputs Stop = (refl, refl)
all_placed Inputs Par = (refl, refl)
all_placed Inputs (Repl i n) = (refl, refl)
all_placed Inputs (In c) = (refl, refl)
all_placed Body Yield = (refl, refl)
all_placed Body (Out c) = (refl, refl)
all_placed Body (New x T) = (refl, refl)
all_placed Body (Let x T) = (refl, refl)
all_placed Body (Key x) = (refl, refl)
all_placed Body (Call x l) = (refl, refl)
all_placed Body (Event e) = (refl, refl)
all_placed Body If = (refl, refl)
all_placed Body (Find l) = (refl, refl)
all_placed Then Cons = (refl, refl)
all_placed Else Cons = (refl, refl)
all_placed Branches Cons = (refl, refl)
all_placed Arm Branch = (refl, refl)
all_placed Guards Cons = (refl, refl)
all_placed Guarded Cons = (refl, refl)
all_placed Pattern Cons = (refl, refl)
all_placed Message Cons = (refl, refl)
all_placed Indices (Name i) = (refl, refl)
all_placed Binders (Binder x T) = (refl, refl)
all_placed Cells Cons = (refl, refl)
all_placed OneCell (Leaf x) = (refl, refl)
all_placed OneCell (Read x) = (refl, refl)
all_placed Terms Cons = (refl, refl)
all_placed Term (Leaf x) = (refl, refl)
all_placed Term (Read x) = (refl, refl)
all_placed Term (Apply f) = (refl, refl)
all_placed Term Eq = (refl, refl)
all_placed Term And = (refl, refl)
all_placed Term Or = (refl, refl)
all_placed Term Not = (refl, refl)
all_placed Term Yes = (refl, refl)
all_placed Term No = (refl, refl)
all_placed σ h = tt

pub placed : (σ τ ρ : Phrase) (h : Head) → oracle_parts σ h ≡ Some (τ, ρ) → (first_position (position_of σ) h ≡ position_of τ) × (second_position (position_of σ) h ≡ position_of ρ)
placed σ τ ρ h e = subst (ArePlaced σ h) e (all_placed σ h)

-- what a service walks through

abbrev pub walks : Phrase → Bool
walks Inputs = true
walks Body = true
walks Then = true
walks Else = true
walks Branches = true
walks Arm = true
walks Guards = true
walks Guarded = true
walks _ = false

pub data Row : Phrase → Head → Phrase → Phrase → Type 0 where
  stop : Row Inputs Stop Nil Nil
  par : Row Inputs Par Inputs Inputs
  repl : {i n : ℕ} → Row Inputs (Repl i n) Nil Inputs
  input : {c : ℕ} → Row Inputs (In c) Pattern Body
  yield : Row Body Yield Nil Nil
  output : {c : ℕ} → Row Body (Out c) Message Inputs
  restriction : {x T : ℕ} → Row Body (New x T) Nil Body
  definition : {x T : ℕ} → Row Body (Let x T) Term Body
  key : {x : ℕ} → Row Body (Key x) Nil Body
  call : {x l : ℕ} → Row Body (Call x l) Terms Body
  event : {e : ℕ} → Row Body (Event e) Terms Body
  test : Row Body If Term Then
  bodies : Row Then Cons Body Else
  last_body : Row Else Cons Body Nil
  find : {l : ℕ} → Row Body (Find l) Branches Body
  branches : Row Branches Cons Arm Branches
  branch : Row Arm Branch Binders Guards
  guards : Row Guards Cons Cells Guarded
  guarded : Row Guarded Cons Term Body

abbrev IsRow : Phrase → Head → Option (Phrase × Phrase) → Type 0
IsRow σ h None = Unit {0}
IsRow σ h (Some q) = walks σ ≡ true → Row σ h q.0 q.1

all_rows : (σ : Phrase) (h : Head) → IsRow σ h (oracle_parts σ h)
all_rows Inputs Stop = λ w. stop
all_rows Inputs Par = λ w. par
all_rows Inputs (Repl i n) = λ w. repl
all_rows Inputs (In c) = λ w. input
all_rows Body Yield = λ w. yield
all_rows Body (Out c) = λ w. output
all_rows Body (New x T) = λ w. restriction
all_rows Body (Let x T) = λ w. definition
all_rows Body (Key x) = λ w. key
all_rows Body (Call x l) = λ w. call
all_rows Body (Event e) = λ w. event
all_rows Body If = λ w. test
all_rows Body (Find l) = λ w. find
all_rows Then Cons = λ w. bodies
all_rows Else Cons = λ w. last_body
all_rows Branches Cons = λ w. branches
all_rows Arm Branch = λ w. branch
all_rows Guards Cons = λ w. guards
all_rows Guarded Cons = λ w. guarded
all_rows Pattern Cons = λ w. absurd (both_ways _ refl w)
all_rows Message Cons = λ w. absurd (both_ways _ refl w)
all_rows Indices (Name i) = λ w. absurd (both_ways _ refl w)
all_rows Binders (Binder x T) = λ w. absurd (both_ways _ refl w)
all_rows Cells Cons = λ w. absurd (both_ways _ refl w)
all_rows OneCell (Leaf x) = λ w. absurd (both_ways _ refl w)
all_rows OneCell (Read x) = λ w. absurd (both_ways _ refl w)
all_rows Terms Cons = λ w. absurd (both_ways _ refl w)
all_rows Term (Leaf x) = λ w. absurd (both_ways _ refl w)
all_rows Term (Read x) = λ w. absurd (both_ways _ refl w)
all_rows Term (Apply f) = λ w. absurd (both_ways _ refl w)
all_rows Term Eq = λ w. absurd (both_ways _ refl w)
all_rows Term And = λ w. absurd (both_ways _ refl w)
all_rows Term Or = λ w. absurd (both_ways _ refl w)
all_rows Term Not = λ w. absurd (both_ways _ refl w)
all_rows Term Yes = λ w. absurd (both_ways _ refl w)
all_rows Term No = λ w. absurd (both_ways _ refl w)
all_rows σ h = tt

pub row : (σ : Phrase) (h : Head) (τ ρ : Phrase) → walks σ ≡ true → oracle_parts σ h ≡ Some (τ, ρ) → Row σ h τ ρ
row σ h τ ρ w e = subst (IsRow σ h) e (all_rows σ h) w
