-- A term with another one of the same value in it has the same value.
use Rattle.std.proofs.Common.{◌≡◌, ℕ, ◌+◌, ◌-◌, ◌==◌, ◌&&◌, ◌||◌, not, true, false, ◌∷◌, refl, sym, ap, subst}
use Rattle.std.proofs.lemmas.Bool.{both_ways, and_parts}
use Rattle.cv_syntax_trees.specs.declared.head.Head.{Head}
use Rattle.cv_syntax_trees.specs.declared.head.Head.TheVariants.{Leaf, Read, Apply, Eq, And, Or, Not, Yes, No, Cons}
use Rattle.cv_syntax_trees.specs.Head.{weight}
use Rattle.cv_syntax_trees.specs.Tree.{Tree, Empty, Node, second, size}
use Rattle.cv_meaning.specs.Interpretation.{Setting}
use Rattle.cv_meaning.specs.Memory.{Indices, Store}
use Rattle.cv_meaning.specs.Terms.{bit, is_one, value, values}
use Rattle.cv_meaning.specs.Replaced.{replaced}
use Rattle.cv_scope_rules.specs.Phrases.{Phrase, Nil, Message, Indices as Names, Terms, Term, is_phrase}
use Rattle.cv_scene.specs.Scenes.{part_at}
use Rattle.cv_steps.specs.Rewriting.{has_term_at, parts_of}
use Rattle.cv_steps.proofs.Places.{Found, here, in_first, in_second, bare, by_child, found, nothing_there}

module _ (g : Setting) (at : Indices) (n : Store) (m : Tree) where
  abbrev pub SameValues : Phrase → Tree → Tree → Type 0
  SameValues Term t u = value g at n t ≡ value g at n u
  SameValues Terms t u = values g at n t ≡ values g at n u
  SameValues Message t u = values g at n (second t) ≡ values g at n (second u)
  SameValues Nil t u = ⊥
  SameValues σ t u = Unit {0}

  -- at a place of the phrase stands a term of that value
  abbrev HasValueAt : Tree → ℕ → Type 0
  HasValueAt t q = value g at n (part_at t q) ≡ value g at n m

  abbrev KeepsValues : Phrase → Tree → Type 0
  KeepsValues σ t = (q : ℕ) → has_term_at σ t q ≡ true → HasValueAt t q → SameValues σ t (replaced t q m)

  -- a term, from its children
  term_keeps : (h : Head) (a b : Tree) → ((c : Tree) → SameValues (parts_of Term h).0 a c → value g at n (Node h a b) ≡ value g at n (Node h c b))
      → ((c : Tree) → SameValues (parts_of Term h).1 b c → value g at n (Node h a b) ≡ value g at n (Node h a c))
      → KeepsValues (parts_of Term h).0 a → KeepsValues (parts_of Term h).1 b → KeepsValues Term (Node h a b)
  term_keeps h a b k l x y q e f = go (found m Term h a b q e)
    where
      go : Found m Term h a b q → value g at n (Node h a b) ≡ value g at n (replaced (Node h a b) q m)
      go (here z) = subst (λ t. value g at n t ≡ value g at n (replaced (Node h a b) q m)) z.part (subst (λ t. value g at n (part_at (Node h a b) q) ≡ value g at n t) (sym z.next) f)
      go (in_first z) =
          subst (λ t. value g at n (Node h a b) ≡ value g at n t) (sym z.next)
          (k (replaced a (q - weight h) m) (x (q - weight h) z.term (subst (λ t. value g at n t ≡ value g at n m) z.part f)))
      go (in_second z) =
          subst (λ t. value g at n (Node h a b) ≡ value g at n t) (sym z.next)
          (l (replaced b (q - (weight h + size a)) m) (y (q - (weight h + size a)) z.term (subst (λ t. value g at n t ≡ value g at n m) z.part f)))

  pub values_kept : (σ : Phrase) (t : Tree) → is_phrase σ t ≡ true → KeepsValues σ t
  unfolding is_phrase value values
  values_kept Nil t p q e f = absurd (bare Nil t q refl e)
  values_kept Term (Node (Leaf x) a b) p q e f = term_keeps (Leaf x) a b (λ c z. absurd z) (λ c z. absurd z) (λ r k l. absurd (bare Nil a r refl k)) (λ r k l. absurd (bare Nil b r refl k)) q e f
  values_kept Term (Node (Read x) a b) p q e f = term_keeps (Read x) a b (λ c z. absurd z) (λ c z. absurd z) (λ r k l. absurd (bare Nil a r refl k)) (λ r k l. absurd (bare Nil b r refl k)) q e f
  values_kept Term (Node Yes a b) p q e f = term_keeps Yes a b (λ c z. absurd z) (λ c z. absurd z) (λ r k l. absurd (bare Nil a r refl k)) (λ r k l. absurd (bare Nil b r refl k)) q e f
  values_kept Term (Node No a b) p q e f = term_keeps No a b (λ c z. absurd z) (λ c z. absurd z) (λ r k l. absurd (bare Nil a r refl k)) (λ r k l. absurd (bare Nil b r refl k)) q e f
  values_kept Term (Node (Apply w) a b) p q e f =
      term_keeps (Apply w) a b (λ c z. ap (g.interpretation.table w) z) (λ c z. absurd z) (values_kept Terms a (and_parts (is_phrase Terms a) _ p).0) (λ r k l. absurd (bare Nil b r refl k)) q e f
  values_kept Term (Node Eq a b) p q e f =
      let r = and_parts (is_phrase Term a) _ p in
      term_keeps Eq a b (λ c z. ap (λ v. bit (v == value g at n b)) z) (λ c z. ap (λ v. bit (value g at n a == v)) z) (values_kept Term a r.0) (values_kept Term b r.1) q e f
  values_kept Term (Node And a b) p q e f =
      let r = and_parts (is_phrase Term a) _ p in
      term_keeps And a b (λ c z. ap (λ v. bit (is_one v && is_one (value g at n b))) z) (λ c z. ap (λ v. bit (is_one (value g at n a) && is_one v)) z) (values_kept Term a r.0) (values_kept Term b r.1) q e f
  values_kept Term (Node Or a b) p q e f =
      let r = and_parts (is_phrase Term a) _ p in
      term_keeps Or a b (λ c z. ap (λ v. bit (is_one v || is_one (value g at n b))) z) (λ c z. ap (λ v. bit (is_one (value g at n a) || is_one v)) z) (values_kept Term a r.0) (values_kept Term b r.1) q e f
  values_kept Term (Node Not a b) p q e f =
      term_keeps Not a b (λ c z. ap (λ v. bit (not (is_one v))) z) (λ c z. absurd z) (values_kept Term a (and_parts (is_phrase Term a) _ p).0) (λ r k l. absurd (bare Nil b r refl k)) q e f
  values_kept Term t p q e f = absurd (both_ways false refl p)
  values_kept Terms (Node Cons a b) p q e f =
      let r = and_parts (is_phrase Term a) _ p in
      by_child m Terms Cons a b q (SameValues Terms (Node Cons a b)) refl
      (λ z. ap (λ v. v ∷ values g at n b) (values_kept Term a r.0 (q - 0) z.term (subst (λ t. value g at n t ≡ value g at n m) z.part f)))
      (λ z. ap (λ vs. value g at n a ∷ vs) (values_kept Terms b r.1 (q - (0 + size a)) z.term (subst (λ t. value g at n t ≡ value g at n m) z.part f))) e
  values_kept Terms Empty p q e f = absurd (nothing_there Terms q e)
  values_kept Terms t p q e f = absurd (both_ways false refl p)
  values_kept Message (Node Cons a b) p q e f =
      by_child m Message Cons a b q (SameValues Message (Node Cons a b)) refl (λ z. refl)
      (λ z. values_kept Terms b (and_parts (is_phrase Names a) _ p).1 (q - (0 + size a)) z.term (subst (λ t. value g at n t ≡ value g at n m) z.part f)) e
  values_kept Message t p q e f = absurd (both_ways false refl p)
  values_kept σ t p q e f = tt
