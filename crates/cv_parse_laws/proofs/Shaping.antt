-- Trees are put together of phrases by the table of phrases.
use Rattle.std.proofs.Common.{◌≡◌, ℕ, Bool, true, ◌&&◌, not, List, [], ◌∷◌, Option, Some, None, refl, ap, ◌∙◌}
use Rattle.std.proofs.lemmas.Bool.{and_from, and_parts}
use Rattle.std.specs.List.{AllByRecursion}
use Rattle.cv_syntax_trees.specs.declared.head.Head.{Head}
use Rattle.cv_syntax_trees.specs.declared.head.Head.TheVariants.{Cons}
use Rattle.cv_syntax_trees.specs.Tree.{Tree, Empty, Node, lone, chain, names, binders}
use Rattle.cv_scope_rules.specs.Phrases.{Phrase, Nil, Indices, Binders, parts, may_end, both_are, is_phrase, head_binds_none, binds_none}
use Rattle.cv_parse_laws.specs.Shapes.{IsShaped}

-- what the two children of a node are
pub record Opened (barred : ℕ → Bool) (φ : Phrase) (h : Head) (a b : Tree) : Type 0 where
  pub one : Phrase
  pub two : Phrase
  pub are : parts φ h ≡ Some (one, two)
  pub binds : head_binds_none barred h ≡ true
  pub first : IsShaped barred one a
  pub second : IsShaped barred two b

both_parts : (o : Option (Phrase × Phrase)) (p q : Phrase → Bool) → both_are o p q ≡ true → (r : Phrase × Phrase) × (o ≡ Some r) × (p r.0 ≡ true) × (q r.1 ≡ true)
both_parts None p q e = absurd (cc)
both_parts (Some r) p q e = let b = and_parts (p r.0) (q r.1) e in (r, refl, b.0, b.1)

module _ {barred : ℕ → Bool} where
  pub empty : {φ : Phrase} → may_end φ ≡ true → IsShaped barred φ Empty
  unfolding is_phrase binds_none
  empty e = record { phrase = e; free = refl }

  pub node : {φ τ ρ : Phrase} {h : Head} {a b : Tree} → parts φ h ≡ Some (τ, ρ) → head_binds_none barred h ≡ true → IsShaped barred τ a → IsShaped barred ρ b → IsShaped barred φ (Node h a b)
  unfolding is_phrase binds_none
  node {φ = φ} {τ = τ} {ρ = ρ} {h = h} {a = a} {b = b} e n v w = record {
    phrase = ap (λ o. both_are o (λ σ. is_phrase σ a) (λ σ. is_phrase σ b)) e ∙ and_from (is_phrase τ a) (is_phrase ρ b) v.phrase w.phrase;
    free = and_from (head_binds_none barred h) (binds_none barred a && binds_none barred b) n (and_from (binds_none barred a) (binds_none barred b) v.free w.free);
  }

  pub opened : (φ : Phrase) (h : Head) (a b : Tree) → IsShaped barred φ (Node h a b) → Opened barred φ h a b
  unfolding is_phrase binds_none
  opened φ h a b w =
      let p = both_parts (parts φ h) (λ σ. is_phrase σ a) (λ σ. is_phrase σ b) w.phrase in
      let f = and_parts (head_binds_none barred h) (binds_none barred a && binds_none barred b) w.free in
      let g = and_parts (binds_none barred a) (binds_none barred b) f.1 in
      record {
        one = p.0.0;
        two = p.0.1;
        are = p.1;
        binds = f.0;
        first = record { phrase = p.2; free = g.0 };
        second = record { phrase = p.3; free = g.1 };
      }

  pub nil : IsShaped barred Nil Empty
  nil = empty refl

  pub alone : {φ : Phrase} {h : Head} → parts φ h ≡ Some (Nil, Nil) → head_binds_none barred h ≡ true → IsShaped barred φ (lone h)
  alone e n = node e n nil nil

  -- lists

  pub chained : (φ τ : Phrase) → may_end φ ≡ true → parts φ Cons ≡ Some (τ, φ) → (l : List Tree) → AllByRecursion (IsShaped barred τ) l → IsShaped barred φ (chain l)
  chained φ τ m e [] w = empty m
  chained φ τ m e (t ∷ l) w = node e refl w.0 (chained φ τ m e l w.1)

  pub named : (l : List ℕ) → IsShaped barred Indices (names l)
  named [] = empty refl
  named (x ∷ l) = node refl refl nil (named l)

  pub bound : (l : List (ℕ × ℕ)) → AllByRecursion (λ b. not (barred b.0) ≡ true) l → IsShaped barred Binders (binders l)
  bound [] w = empty refl
  bound (b ∷ l) w = node refl w.0 nil (bound l w.1)
