-- How large a game is where comparisons of cells become those of indices: at most twice as large.
use Rattle.std.proofs.Common.{◌≡◌, ℕ, ◌+◌, ◌*◌, ◌≤◌, Bool, true, false, cond, List, [], ◌∷◌, length, Option, Some, None, refl, subst, arith}
use Rattle.std.proofs.lemmas.Bool.{both_ways}
use Rattle.cv_syntax_trees.specs.declared.head.Head.{Head}
use Rattle.cv_syntax_trees.specs.declared.head.Head.TheVariants.{And, Apply, Cons, Eq, Leaf, No, Not, Or, Read, Yes}
use Rattle.cv_syntax_trees.specs.Head.{weight}
use Rattle.cv_syntax_trees.specs.Tree.{Tree, Empty, Node, first, first_place, second_place, size}
use Rattle.cv_scene.specs.lines.Inferences.{equations_of}
use Rattle.cv_scope_rules.specs.Context.{items}
use Rattle.cv_scope_rules.specs.Phrases.{Phrase, Nil, Term, Terms, is_phrase, parts}
use Rattle.cv_steps.proofs.Flat.{open_phrase}
use Rattle.cv_edit_places.specs.Parts.{total_of}
use Rattle.cv_costs.specs.wording.Changing.{changed_at, is_changed}
use Rattle.cv_rule_birthday.specs.Comparing.{compared, same_indices}

-- equations between two lists

equations_size : (ms ns : List Tree) → size (equations_of ms ns) ≤ total_of ms + total_of ns + length ms + length ns
unfolding size
equations_size [] ns = omega arith
equations_size (m ∷ []) [] = omega arith
equations_size (m ∷ j ∷ ms) [] = omega arith
equations_size (m ∷ []) (n ∷ []) = omega arith
equations_size (m ∷ []) (n ∷ k ∷ ns) = omega arith
equations_size (m ∷ j ∷ ms) (n ∷ ns) = omega (arith, equations_size (j ∷ ms) ns)

same_size : (ms ns : List Tree) → size (same_indices ms ns) ≤ total_of ms + total_of ns + length ms + length ns + 1
unfolding size
same_size [] ns = omega arith
same_size (m ∷ ms) ns = omega (arith, equations_size (m ∷ ms) ns)

-- terms and lists of terms: each node of them has a place, or a term as its first child

abbrev is_listed : Phrase → Bool
is_listed Nil = true
is_listed Term = true
is_listed Terms = true
is_listed σ = false

-- a term has one place at least
abbrev least : Phrase → ℕ
least Term = 1
least σ = 0

record IsListed (h : Head) (q : Phrase × Phrase) : Type 0 where
  second : is_listed q.1 ≡ true
  some : 1 ≤ weight h + least q.0

abbrev IfListed : Head → Option (Phrase × Phrase) → Type 0
IfListed h None = Unit {0}
IfListed h (Some q) = IsListed h q

rows_listed : (σ : Phrase) (h : Head) → is_listed σ ≡ true → IfListed h (parts σ h)
rows_listed Terms Cons e = record { second = refl; some = omega arith }
rows_listed Term (Leaf x) e = record { second = refl; some = omega arith }
rows_listed Term (Read x) e = record { second = refl; some = omega arith }
rows_listed Term (Apply f) e = record { second = refl; some = omega arith }
rows_listed Term Eq e = record { second = refl; some = omega arith }
rows_listed Term And e = record { second = refl; some = omega arith }
rows_listed Term Or e = record { second = refl; some = omega arith }
rows_listed Term Not e = record { second = refl; some = omega arith }
rows_listed Term Yes e = record { second = refl; some = omega arith }
rows_listed Term No e = record { second = refl; some = omega arith }
rows_listed Terms h e = tt
rows_listed Term h e = tt
rows_listed Nil h e = tt
rows_listed σ h e = absurd (both_ways false refl e)

-- of a term: its node, and the list in it
record IsTermNode (h : Head) (q : Phrase × Phrase) : Type 0 where
  one : weight h ≡ 1
  first : is_listed q.0 ≡ true

abbrev IfTermNode : Head → Option (Phrase × Phrase) → Type 0
IfTermNode h None = Unit {0}
IfTermNode h (Some q) = IsTermNode h q

rows_of_terms : (h : Head) → IfTermNode h (parts Term h)
rows_of_terms (Leaf x) = record { one = refl; first = refl }
rows_of_terms (Read x) = record { one = refl; first = refl }
rows_of_terms (Apply f) = record { one = refl; first = refl }
rows_of_terms Eq = record { one = refl; first = refl }
rows_of_terms And = record { one = refl; first = refl }
rows_of_terms Or = record { one = refl; first = refl }
rows_of_terms Not = record { one = refl; first = refl }
rows_of_terms Yes = record { one = refl; first = refl }
rows_of_terms No = record { one = refl; first = refl }
rows_of_terms h = tt

term_size : (t : Tree) → is_phrase Term t ≡ true → 1 ≤ size t
unfolding is_phrase size
term_size Empty e = absurd (both_ways false refl e)
term_size (Node h a b) e =
    let o = open_phrase Term h a b e in
    let r : IsTermNode h o.0 = subst (IfTermNode h) o.1 (rows_of_terms h) in
    omega (arith, r.one)

least_size : (σ : Phrase) (t : Tree) → is_phrase σ t ≡ true → least σ ≤ size t
least_size Term t e = term_size t e
least_size σ t e = omega arith

listed_size : (σ : Phrase) (t : Tree) → is_listed σ ≡ true → is_phrase σ t ≡ true → total_of (items t) + length (items t) ≤ 2 * size t
unfolding size
listed_size σ Empty i e = omega arith
listed_size σ (Node h m a) i e =
    let o = open_phrase σ h m a e in
    let r : IsListed h o.0 = subst (IfListed h) o.1 (rows_listed σ h i) in
    omega (arith, r.some, least_size o.0.0 m o.2, listed_size o.0.1 a r.second o.3)

first_size : (t : Tree) → is_phrase Term t ≡ true → total_of (items (first t)) + length (items (first t)) ≤ 2 * size t
unfolding size
first_size Empty e = omega arith
first_size (Node h a b) e =
    let o = open_phrase Term h a b e in
    let r : IsTermNode h o.0 = subst (IfTermNode h) o.1 (rows_of_terms h) in
    omega (arith, listed_size o.0.0 a r.first o.2)

-- a comparison, and the whole

abbrev AreTerms : Option (Phrase × Phrase) → Type 0
AreTerms None = Unit {0}
AreTerms (Some q) = (q.0 ≡ Term) × (q.1 ≡ Term)

sides_are : (σ : Phrase) → AreTerms (parts σ Eq)
sides_are Term = (refl, refl)
sides_are σ = tt

compared_size : (σ : Phrase) (h : Head) (a b : Tree) → is_phrase σ (Node h a b) ≡ true → size (compared (Node h a b)) ≤ 2 * size (Node h a b)
unfolding size
compared_size σ Eq l r e =
    let o = open_phrase σ Eq l r e in
    let s = subst AreTerms o.1 (sides_are σ) in
    let left = first_size l (subst (λ τ. is_phrase τ l ≡ true) s.0 o.2) in
    let right = first_size r (subst (λ τ. is_phrase τ r ≡ true) s.1 o.3) in
    omega (arith, left, right, same_size (items (first l)) (items (first r)))
compared_size σ h a b e = omega arith

pub changed_size : (on : ℕ → Bool) (p : ℕ) (σ : Phrase) (t : Tree) → is_phrase σ t ≡ true → size (changed_at on compared p t) ≤ 2 * size t
unfolding changed_at size
changed_size on p σ Empty e = omega arith
changed_size on p σ (Node h a b) e =
    let o = open_phrase σ h a b e in
    go (is_changed on p h) (compared_size σ h a b e) (changed_size on (first_place p h) o.0.0 a o.2) (changed_size on (second_place p h a) o.0.1 b o.3)
  where
    go : (v : Bool) → size (compared (Node h a b)) ≤ 2 * size (Node h a b)
        → size (changed_at on compared (first_place p h) a) ≤ 2 * size a → size (changed_at on compared (second_place p h a) b) ≤ 2 * size b
        → size (cond v (compared (Node h a b)) (Node h (changed_at on compared (first_place p h) a) (changed_at on compared (second_place p h a) b))) ≤ 2 * size (Node h a b)
    go true c f s = c
    go false c f s = omega (arith, f, s)
