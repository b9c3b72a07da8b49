-- What no service comes to: terms, lists and binders. Nothing is drawn or defined there but by binders, and no output process
-- stands there.
use Rattle.std.proofs.Common.{List, ◌≡◌, ℕ, ◌+◌, ◌-◌, ◌&&◌, Bool, true, false, cond, nat_lt, Option, Some, None, refl, ap, ap₂, subst, ◌∙◌}
use Rattle.std.proofs.lemmas.Bool.{both_ways, and_parts}
use Rattle.cv_syntax_trees.specs.declared.head.Head.{Head}
use Rattle.cv_syntax_trees.specs.declared.head.Head.TheVariants.{Branch, Leaf, Read, Apply, Eq, And, Or, Not, Yes, No, Cons, Binder, Name}
use Rattle.cv_syntax_trees.specs.Declarations.{Declaration}
use Rattle.cv_syntax_trees.specs.Head.{weight}
use Rattle.cv_syntax_trees.specs.Tree.{Tree, Empty, Node, size, subtree}
use Rattle.cv_meaning.specs.Replaced.{is_output}
use Rattle.cv_scope_rules.specs.Phrases.{Phrase, Nil, Inputs, Body, Then, Else, Branches, Arm, Guards, Guarded, Pattern, Message, Indices, Binders, Cells, OneCell, Terms, Term, parts, both_are, is_phrase}
use Rattle.cv_meaning.specs.Still.{defines, head_is_still, is_still}
use Rattle.cv_typing_runs.specs.Games.{NamesDeclared}
use Rattle.cv_steps.specs.Changes.{without}

abbrev pub Opened : Phrase → Head → Tree → Tree → Type 0
Opened σ h a b = (q : Phrase × Phrase) × (parts σ h ≡ Some q) × (is_phrase q.0 a ≡ true) × (is_phrase q.1 b ≡ true)

pub open_phrase : (σ : Phrase) (h : Head) (a b : Tree) → is_phrase σ (Node h a b) ≡ true → Opened σ h a b
unfolding is_phrase
open_phrase σ h a b e = go (parts σ h) refl e
  where
    go : (o : Option (Phrase × Phrase)) → parts σ h ≡ o → both_are o (λ τ. is_phrase τ a) (λ ρ. is_phrase ρ b) ≡ true → Opened σ h a b
    go None e f = absurd (both_ways false refl f)
    go (Some q) e f = let g = and_parts (is_phrase q.0 a) (is_phrase q.1 b) f in (q, e, g.0, g.1)

-- in a branch stand a list, a condition and a body

pub guards_of : (binders rest more : Tree) → is_phrase Branches (Node Cons (Node Branch binders rest) more) ≡ true → is_phrase Guards rest ≡ true
unfolding is_phrase
guards_of binders rest more e = (and_parts (is_phrase Binders binders) _ (and_parts (is_phrase Arm (Node Branch binders rest)) _ e).0).1

pub guarded_of : (binders defined rest more : Tree) → is_phrase Branches (Node Cons (Node Branch binders (Node Cons defined rest)) more) ≡ true → is_phrase Guarded rest ≡ true
unfolding is_phrase
guarded_of binders defined rest more e = (and_parts (is_phrase Cells defined) _ (guards_of binders (Node Cons defined rest) more e)).1

abbrev pub is_flat : Phrase → Bool
is_flat Inputs = false
is_flat Body = false
is_flat Then = false
is_flat Else = false
is_flat Branches = false
is_flat Arm = false
is_flat Guards = false
is_flat Guarded = false
is_flat σ = true

-- a node there, and its children
record AreFlat (h : Head) (q : Phrase × Phrase) : Type 0 where
  first : is_flat q.0 ≡ true
  second : is_flat q.1 ≡ true
  output : (a b : Tree) → is_output (Node h a b) ≡ false
  defined : (xs : ℕ → Bool) → defines xs h ≡ false

abbrev IfFlat : Head → Option (Phrase × Phrase) → Type 0
IfFlat h None = Unit {0}
IfFlat h (Some q) = AreFlat h q

rows_flat : (σ : Phrase) (h : Head) → is_flat σ ≡ true → IfFlat h (parts σ h)
rows_flat Inputs h e = absurd (both_ways false refl e)
rows_flat Body h e = absurd (both_ways false refl e)
rows_flat Then h e = absurd (both_ways false refl e)
rows_flat Else h e = absurd (both_ways false refl e)
rows_flat Branches h e = absurd (both_ways false refl e)
rows_flat Arm h e = absurd (both_ways false refl e)
rows_flat Guards h e = absurd (both_ways false refl e)
rows_flat Guarded h e = absurd (both_ways false refl e)
rows_flat Pattern Cons e = record { first = refl; second = refl; output = λ a b. refl; defined = λ xs. refl }
rows_flat Message Cons e = record { first = refl; second = refl; output = λ a b. refl; defined = λ xs. refl }
rows_flat Indices (Name i) e = record { first = refl; second = refl; output = λ a b. refl; defined = λ xs. refl }
rows_flat Binders (Binder x T) e = record { first = refl; second = refl; output = λ a b. refl; defined = λ xs. refl }
rows_flat Cells Cons e = record { first = refl; second = refl; output = λ a b. refl; defined = λ xs. refl }
rows_flat OneCell (Leaf x) e = record { first = refl; second = refl; output = λ a b. refl; defined = λ xs. refl }
rows_flat OneCell (Read x) e = record { first = refl; second = refl; output = λ a b. refl; defined = λ xs. refl }
rows_flat Terms Cons e = record { first = refl; second = refl; output = λ a b. refl; defined = λ xs. refl }
rows_flat Term (Leaf x) e = record { first = refl; second = refl; output = λ a b. refl; defined = λ xs. refl }
rows_flat Term (Read x) e = record { first = refl; second = refl; output = λ a b. refl; defined = λ xs. refl }
rows_flat Term (Apply f) e = record { first = refl; second = refl; output = λ a b. refl; defined = λ xs. refl }
rows_flat Term Eq e = record { first = refl; second = refl; output = λ a b. refl; defined = λ xs. refl }
rows_flat Term And e = record { first = refl; second = refl; output = λ a b. refl; defined = λ xs. refl }
rows_flat Term Or e = record { first = refl; second = refl; output = λ a b. refl; defined = λ xs. refl }
rows_flat Term Not e = record { first = refl; second = refl; output = λ a b. refl; defined = λ xs. refl }
rows_flat Term Yes e = record { first = refl; second = refl; output = λ a b. refl; defined = λ xs. refl }
rows_flat Term No e = record { first = refl; second = refl; output = λ a b. refl; defined = λ xs. refl }
rows_flat σ h e = tt

pub flat_dropped : (xs : ℕ → Bool) (σ : Phrase) (t : Tree) → is_flat σ ≡ true → is_phrase σ t ≡ true → without xs t ≡ t
unfolding without
flat_dropped xs σ Empty f e = refl
flat_dropped xs σ (Node h a b) f e =
    let o = open_phrase σ h a b e in
    let r : AreFlat h o.0 = subst (IfFlat h) o.1 (rows_flat σ h f) in
    (λ i. cond (r.defined xs i) (without xs b) (Node h (without xs a) (without xs b)))
    ∙ ap₂ (Node h) (flat_dropped xs o.0.0 a r.first o.2) (flat_dropped xs o.0.1 b r.second o.3)

-- no subtree there is an output process
pub flat_output : (σ : Phrase) (t : Tree) (p : ℕ) (b : Tree) → is_flat σ ≡ true → is_phrase σ t ≡ true → subtree t p ≡ Some b → is_output b ≡ true → ⊥
unfolding subtree
flat_output σ Empty p b f e s o = absurd (cc)
flat_output σ (Node h a c) p b f e s o =
    let q = open_phrase σ h a c e in
    let r : AreFlat h q.0 = subst (IfFlat h) q.1 (rows_flat σ h f) in
    go (nat_lt p (weight h)) (nat_lt p (weight h + size a)) s (r.output a c)
    (λ z. flat_output q.0.0 a (p - weight h) b r.first q.2 z o) (λ z. flat_output q.0.1 c (p - (weight h + size a)) b r.second q.3 z o)
  where
    go : (v w : Bool) → cond v (Some (Node h a c)) (cond w (subtree a (p - weight h)) (subtree c (p - (weight h + size a)))) ≡ Some b → is_output (Node h a c) ≡ false
        → (subtree a (p - weight h) ≡ Some b → ⊥) → (subtree c (p - (weight h + size a)) ≡ Some b → ⊥) → ⊥
    go true w z n k l = let i : Node h a c ≡ b = cc in both_ways _ n (ap is_output i ∙ o)
    go false true z n k l = k z
    go false false z n k l = l z

-- terms and cells draw and define nothing, and name no types

abbrev pub is_of_terms : Phrase → Bool
is_of_terms Term = true
is_of_terms Terms = true
is_of_terms Nil = true
is_of_terms Message = true
is_of_terms Indices = true
is_of_terms Cells = true
is_of_terms OneCell = true
is_of_terms σ = false

-- a node there, and its children
pub record AreStill (h : Head) (q : Phrase × Phrase) : Type 0 where
  pub first : is_of_terms q.0 ≡ true
  pub second : is_of_terms q.1 ≡ true
  pub still : head_is_still h ≡ true
  pub unsorted : (ds : List Declaration) (a : Tree) → NamesDeclared ds h a

abbrev pub IfStill : Head → Option (Phrase × Phrase) → Type 0
IfStill h None = Unit {0}
IfStill h (Some q) = AreStill h q

pub rows_still : (σ : Phrase) (h : Head) → is_of_terms σ ≡ true → IfStill h (parts σ h)
rows_still Nil h e = tt
rows_still Terms Cons e = record { first = refl; second = refl; still = refl; unsorted = λ ds a. tt }
rows_still Terms h e = tt
rows_still Message Cons e = record { first = refl; second = refl; still = refl; unsorted = λ ds a. tt }
rows_still Message h e = tt
rows_still Indices (Name i) e = record { first = refl; second = refl; still = refl; unsorted = λ ds a. tt }
rows_still Indices h e = tt
rows_still Cells Cons e = record { first = refl; second = refl; still = refl; unsorted = λ ds a. tt }
rows_still Cells h e = tt
rows_still OneCell (Leaf x) e = record { first = refl; second = refl; still = refl; unsorted = λ ds a. tt }
rows_still OneCell (Read x) e = record { first = refl; second = refl; still = refl; unsorted = λ ds a. tt }
rows_still OneCell h e = tt
rows_still Term (Leaf x) e = record { first = refl; second = refl; still = refl; unsorted = λ ds a. tt }
rows_still Term (Read x) e = record { first = refl; second = refl; still = refl; unsorted = λ ds a. tt }
rows_still Term (Apply f) e = record { first = refl; second = refl; still = refl; unsorted = λ ds a. tt }
rows_still Term Eq e = record { first = refl; second = refl; still = refl; unsorted = λ ds a. tt }
rows_still Term And e = record { first = refl; second = refl; still = refl; unsorted = λ ds a. tt }
rows_still Term Or e = record { first = refl; second = refl; still = refl; unsorted = λ ds a. tt }
rows_still Term Not e = record { first = refl; second = refl; still = refl; unsorted = λ ds a. tt }
rows_still Term Yes e = record { first = refl; second = refl; still = refl; unsorted = λ ds a. tt }
rows_still Term No e = record { first = refl; second = refl; still = refl; unsorted = λ ds a. tt }
rows_still Term h e = tt
rows_still σ h e = absurd (both_ways false refl e)

pub terms_still : (σ : Phrase) (t : Tree) → is_of_terms σ ≡ true → is_phrase σ t ≡ true → is_still t ≡ true
terms_still σ Empty f e = refl
terms_still σ (Node h a b) f e =
    let o = open_phrase σ h a b e in
    let r : AreStill h o.0 = subst (IfStill h) o.1 (rows_still σ h f) in
    ap₂ ◌&&◌ r.still (ap₂ ◌&&◌ (terms_still o.0.0 a r.first o.2) (terms_still o.0.1 b r.second o.3))

pub term_still : (t : Tree) → is_phrase Term t ≡ true → is_still t ≡ true
term_still t e = terms_still Term t refl e

pub nil_still : (t : Tree) → is_phrase Nil t ≡ true → is_still t ≡ true
nil_still t e = terms_still Nil t refl e
