-- A context in the grammar is laid out where each of its definitions has its type and its role.
use Rattle.std.proofs.Common.{◌≡◌, ℕ, true, false, ◌&&◌, refl, ap₂}
use Rattle.std.proofs.lemmas.Bool.{and_parts, both_ways}
use Rattle.cv_syntax_trees.specs.declared.head.Head.TheVariants.{And, Apply, Binder, Branch, Call, Cons, Eq, Event, Find, If, In, Key, Leaf, Let, Name, New, No, Not, Or, Out, Par, Read, Repl, Stop, Yes, Yield}
use Rattle.cv_syntax_trees.specs.Tree.{Tree, Empty, Node, second}
use Rattle.cv_scope_rules.specs.Phrases.{Arm, Binders, Body, Branches, Cells, Else, Guarded, Guards, Indices, Inputs, Message, Nil, OneCell, Pattern, Term, Terms, Then, is_oracle_phrase}
use Rattle.cv_context_laws.proofs.types.Definitions.{HasDefinitions, HasGuarded, HasTested, HasTypes}
use Rattle.cv_inline_laws.specs.runs.Texts.{Text}
use Rattle.cv_inline_names_laws.specs.cells.Layout.{IsContextText, IsPattern, is_term, is_term_head}

-- what phrases of terms have is a term

nil_is : (t : Tree) → is_oracle_phrase Nil t ≡ true → is_term t ≡ true
unfolding is_oracle_phrase is_term
nil_is Empty e = refl
nil_is (Node h a b) e = absurd (both_ways false refl e)

mutual
  unfolding is_oracle_phrase is_term

  term_is : (t : Tree) → is_oracle_phrase Term t ≡ true → is_term t ≡ true
  term_is (Node (Leaf x) a b) e = let p = and_parts (is_oracle_phrase Nil a) (is_oracle_phrase Nil b) e in ap₂ ◌&&◌ (nil_is a p.0) (nil_is b p.1)
  term_is (Node (Read x) a b) e = let p = and_parts (is_oracle_phrase Terms a) (is_oracle_phrase Nil b) e in ap₂ ◌&&◌ (terms_are a p.0) (nil_is b p.1)
  term_is (Node (Apply f) a b) e = let p = and_parts (is_oracle_phrase Terms a) (is_oracle_phrase Nil b) e in ap₂ ◌&&◌ (terms_are a p.0) (nil_is b p.1)
  term_is (Node Eq a b) e = let p = and_parts (is_oracle_phrase Term a) (is_oracle_phrase Term b) e in ap₂ ◌&&◌ (term_is a p.0) (term_is b p.1)
  term_is (Node And a b) e = let p = and_parts (is_oracle_phrase Term a) (is_oracle_phrase Term b) e in ap₂ ◌&&◌ (term_is a p.0) (term_is b p.1)
  term_is (Node Or a b) e = let p = and_parts (is_oracle_phrase Term a) (is_oracle_phrase Term b) e in ap₂ ◌&&◌ (term_is a p.0) (term_is b p.1)
  term_is (Node Not a b) e = let p = and_parts (is_oracle_phrase Term a) (is_oracle_phrase Nil b) e in ap₂ ◌&&◌ (term_is a p.0) (nil_is b p.1)
  term_is (Node Yes a b) e = let p = and_parts (is_oracle_phrase Nil a) (is_oracle_phrase Nil b) e in ap₂ ◌&&◌ (nil_is a p.0) (nil_is b p.1)
  term_is (Node No a b) e = let p = and_parts (is_oracle_phrase Nil a) (is_oracle_phrase Nil b) e in ap₂ ◌&&◌ (nil_is a p.0) (nil_is b p.1)
  term_is t e = absurd (both_ways false refl e)

  terms_are : (t : Tree) → is_oracle_phrase Terms t ≡ true → is_term t ≡ true
  terms_are Empty e = refl
  terms_are (Node Cons a b) e = let p = and_parts (is_oracle_phrase Term a) (is_oracle_phrase Terms b) e in ap₂ ◌&&◌ (term_is a p.0) (terms_are b p.1)
  terms_are t e = absurd (both_ways false refl e)

indices_are : (t : Tree) → is_oracle_phrase Indices t ≡ true → is_term t ≡ true
unfolding is_oracle_phrase is_term
indices_are Empty e = refl
indices_are (Node (Name i) a b) e = let p = and_parts (is_oracle_phrase Nil a) (is_oracle_phrase Indices b) e in ap₂ ◌&&◌ (nil_is a p.0) (indices_are b p.1)
indices_are (Node h a b) e = absurd (both_ways false refl e)

message_is : (t : Tree) → is_oracle_phrase Message t ≡ true → is_term t ≡ true
unfolding is_oracle_phrase is_term
message_is (Node Cons a b) e = let p = and_parts (is_oracle_phrase Indices a) (is_oracle_phrase Terms b) e in ap₂ ◌&&◌ (indices_are a p.0) (terms_are b p.1)
message_is t e = absurd (both_ways false refl e)

one_cell_is : (t : Tree) → is_oracle_phrase OneCell t ≡ true → is_term t ≡ true
unfolding is_oracle_phrase is_term
one_cell_is (Node (Leaf x) a b) e = let p = and_parts (is_oracle_phrase Nil a) (is_oracle_phrase Nil b) e in ap₂ ◌&&◌ (nil_is a p.0) (nil_is b p.1)
one_cell_is (Node (Read x) a b) e = let p = and_parts (is_oracle_phrase Terms a) (is_oracle_phrase Nil b) e in ap₂ ◌&&◌ (terms_are a p.0) (nil_is b p.1)
one_cell_is t e = absurd (both_ways false refl e)

cells_are : (t : Tree) → is_oracle_phrase Cells t ≡ true → is_term t ≡ true
unfolding is_oracle_phrase is_term
cells_are Empty e = refl
cells_are (Node Cons a b) e = let p = and_parts (is_oracle_phrase OneCell a) (is_oracle_phrase Cells b) e in ap₂ ◌&&◌ (one_cell_is a p.0) (cells_are b p.1)
cells_are (Node h a b) e = absurd (both_ways false refl e)

second_is : (t : Tree) → is_term t ≡ true → is_term (second t) ≡ true
unfolding is_term
second_is Empty e = e
second_is (Node h a b) e = (and_parts (is_term a) (is_term b) (and_parts (is_term_head h) (is_term a && is_term b) e).1).1

-- a term is a pattern and stands in a context

term_pattern : (type : ℕ → ℕ) (t : Tree) → is_term t ≡ true → IsPattern type t
unfolding is_term IsPattern
term_pattern type Empty e = tt
term_pattern type (Node (Binder y U) a b) e = absurd (both_ways false refl e)
term_pattern type (Node h a b) e =
    let p = and_parts (is_term_head h) (is_term a && is_term b) e in
    let q = and_parts (is_term a) (is_term b) p.1 in (p.0, term_pattern type a q.0, term_pattern type b q.1)

module _ (T : Text) (type : ℕ → ℕ) where
  term_text : (t : Tree) → is_term t ≡ true → IsContextText T type t
  unfolding is_term IsContextText
  term_text Empty e = tt
  term_text (Node (Leaf x) a b) e = and_parts (is_term a) (is_term b) e
  term_text (Node (Read x) a b) e = and_parts (is_term a) (is_term b) e
  term_text (Node (Apply f) a b) e = let p = and_parts (is_term a) (is_term b) e in (term_text a p.0, term_text b p.1)
  term_text (Node Eq a b) e = let p = and_parts (is_term a) (is_term b) e in (term_text a p.0, term_text b p.1)
  term_text (Node And a b) e = let p = and_parts (is_term a) (is_term b) e in (term_text a p.0, term_text b p.1)
  term_text (Node Or a b) e = let p = and_parts (is_term a) (is_term b) e in (term_text a p.0, term_text b p.1)
  term_text (Node Not a b) e = let p = and_parts (is_term a) (is_term b) e in (term_text a p.0, term_text b p.1)
  term_text (Node Yes a b) e = let p = and_parts (is_term a) (is_term b) e in (term_text a p.0, term_text b p.1)
  term_text (Node No a b) e = let p = and_parts (is_term a) (is_term b) e in (term_text a p.0, term_text b p.1)
  term_text (Node Cons a b) e = let p = and_parts (is_term a) (is_term b) e in (term_text a p.0, term_text b p.1)
  term_text (Node (Name x) a b) e = let p = and_parts (is_term a) (is_term b) e in (term_text a p.0, term_text b p.1)
  term_text (Node h a b) e = absurd (both_ways false refl e)

  nil_text : (t : Tree) → is_oracle_phrase Nil t ≡ true → IsContextText T type t
  nil_text t e = term_text t (nil_is t e)

  binders_text : (t : Tree) → is_oracle_phrase Binders t ≡ true → HasTypes type t → IsPattern type t
  unfolding is_oracle_phrase IsPattern HasTypes
  binders_text Empty e d = tt
  binders_text (Node (Binder x U) a b) e d = let p = and_parts (is_oracle_phrase Nil a) (is_oracle_phrase Binders b) e in (d.0, term_pattern type a (nil_is a p.0), binders_text b p.1 d.1)
  binders_text (Node h a b) e d = absurd (both_ways false refl e)

  pattern_text : (t : Tree) → is_oracle_phrase Pattern t ≡ true → HasTypes type (second t) → IsPattern type t
  unfolding is_oracle_phrase IsPattern
  pattern_text (Node Cons a b) e d = let p = and_parts (is_oracle_phrase Indices a) (is_oracle_phrase Binders b) e in (refl, term_pattern type a (indices_are a p.0), binders_text b p.1 d)
  pattern_text t e d = absurd (both_ways false refl e)

  abbrev Defined : Tree → Type 0
  Defined t = HasDefinitions T type t

  mutual
    unfolding is_oracle_phrase IsContextText HasDefinitions HasGuarded HasTested

    pub inputs_text : (t : Tree) → is_oracle_phrase Inputs t ≡ true → Defined t → IsContextText T type t
    inputs_text (Node Stop a b) e d = let p = and_parts (is_oracle_phrase Nil a) (is_oracle_phrase Nil b) e in (nil_text a p.0, nil_text b p.1)
    inputs_text (Node Par a b) e d = let p = and_parts (is_oracle_phrase Inputs a) (is_oracle_phrase Inputs b) e in (inputs_text a p.0 d.0, inputs_text b p.1 d.1)
    inputs_text (Node (Repl i n) a b) e d = let p = and_parts (is_oracle_phrase Nil a) (is_oracle_phrase Inputs b) e in (nil_text a p.0, inputs_text b p.1 d)
    inputs_text (Node (In c) a b) e d = let p = and_parts (is_oracle_phrase Pattern a) (is_oracle_phrase Body b) e in (pattern_text a p.0 d.0, body_text b p.1 d.1)
    inputs_text t e d = absurd (both_ways false refl e)

    body_text : (t : Tree) → is_oracle_phrase Body t ≡ true → Defined t → IsContextText T type t
    body_text (Node Yield a b) e d = let p = and_parts (is_oracle_phrase Nil a) (is_oracle_phrase Nil b) e in (nil_text a p.0, nil_text b p.1)
    body_text (Node (Out c) a b) e d = let p = and_parts (is_oracle_phrase Message a) (is_oracle_phrase Inputs b) e in (message_is a p.0, inputs_text b p.1 d)
    body_text (Node (New x U) a b) e d = let p = and_parts (is_oracle_phrase Nil a) (is_oracle_phrase Body b) e in (d.0, d.1, nil_text a p.0, body_text b p.1 d.2)
    body_text (Node (Let x U) a b) e d = let p = and_parts (is_oracle_phrase Term a) (is_oracle_phrase Body b) e in (d.0, term_is a p.0, body_text b p.1 d.1)
    body_text (Node (Event v) a b) e d = let p = and_parts (is_oracle_phrase Terms a) (is_oracle_phrase Body b) e in (terms_are a p.0, body_text b p.1 d)
    body_text (Node If a b) e d = let p = and_parts (is_oracle_phrase Term a) (is_oracle_phrase Then b) e in (term_is a p.0, then_text b p.1 d)
    body_text (Node (Find l) a b) e d = let p = and_parts (is_oracle_phrase Branches a) (is_oracle_phrase Body b) e in (branches_text a p.0 d.0, body_text b p.1 d.1)
    body_text (Node (Key x) a b) e d = let p = and_parts (is_oracle_phrase Nil a) (is_oracle_phrase Body b) e in (d.0, nil_is a p.0, body_text b p.1 d.1)
    body_text (Node (Call x l) a b) e d = let p = and_parts (is_oracle_phrase Terms a) (is_oracle_phrase Body b) e in let k = terms_are a p.0 in (d.0, k, second_is a k, body_text b p.1 d.1)
    body_text t e d = absurd (both_ways false refl e)

    then_text : (t : Tree) → is_oracle_phrase Then t ≡ true → Defined t → IsContextText T type t
    then_text (Node Cons a b) e d = let p = and_parts (is_oracle_phrase Body a) (is_oracle_phrase Else b) e in (body_text a p.0 d.0, else_text b p.1 d.1)
    then_text t e d = absurd (both_ways false refl e)

    else_text : (t : Tree) → is_oracle_phrase Else t ≡ true → Defined t → IsContextText T type t
    else_text (Node Cons a b) e d = let p = and_parts (is_oracle_phrase Body a) (is_oracle_phrase Nil b) e in (body_text a p.0 d.0, nil_text b p.1)
    else_text t e d = absurd (both_ways false refl e)

    branches_text : (t : Tree) → is_oracle_phrase Branches t ≡ true → Defined t → IsContextText T type t
    branches_text Empty e d = tt
    branches_text (Node Cons a b) e d = let p = and_parts (is_oracle_phrase Arm a) (is_oracle_phrase Branches b) e in (arm_text a p.0 d.0, branches_text b p.1 d.1)
    branches_text (Node h a b) e d = absurd (both_ways false refl e)

    arm_text : (t : Tree) → is_oracle_phrase Arm t ≡ true → Defined t → IsContextText T type t
    arm_text (Node Branch a b) e d = let p = and_parts (is_oracle_phrase Binders a) (is_oracle_phrase Guards b) e in (binders_text a p.0 d.0, guards_text b p.1 d.1)
    arm_text t e d = absurd (both_ways false refl e)

    guards_text : (t : Tree) → is_oracle_phrase Guards t ≡ true → HasGuarded T type t → IsContextText T type t
    guards_text (Node Cons a b) e d = let p = and_parts (is_oracle_phrase Cells a) (is_oracle_phrase Guarded b) e in (term_text a (cells_are a p.0), guarded_text b p.1 d)
    guards_text t e d = absurd (both_ways false refl e)

    guarded_text : (t : Tree) → is_oracle_phrase Guarded t ≡ true → HasTested T type t → IsContextText T type t
    guarded_text (Node Cons a b) e d = let p = and_parts (is_oracle_phrase Term a) (is_oracle_phrase Body b) e in (term_text a (term_is a p.0), body_text b p.1 d)
    guarded_text t e d = absurd (both_ways false refl e)
