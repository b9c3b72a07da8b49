-- Terms that stand for names in an instance are terms, and bind nothing.
use Rattle.std.proofs.Common.{◌≡◌, ℕ, zero, suc, ◌+◌, ◌<◌, Bool, true, false, cond, ◌&&◌, ◌==◌, List, [], ◌∷◌, ◌⊎◌, inl, inr, Option, Some, None, refl, ap, ap₂, subst, ◌∙◌, eqb-true, arith}
use Rattle.std.proofs.lemmas.Bool.{and_parts, both_ways}
use Rattle.cv_syntax_trees.specs.declared.head.Head.{Head}
use Rattle.cv_syntax_trees.specs.declared.head.Head.TheVariants.{Leaf, Read, Apply, Eq, And, Or, Not, Yes, No, Cons, Key, Call as CallHead}
use Rattle.cv_syntax_trees.specs.Declarations.{Declaration}
use Rattle.cv_syntax_trees.specs.Tree.{Tree, Empty, Node, chain}
use Rattle.cv_scene.specs.lines.Given.{or_node, term_for, with_given}
use Rattle.cv_scope_rules.specs.Phrases.{Body, Nil, Phrase, Term, Terms, binds_none, both_are, head_binds_none, is_oracle_phrase, is_phrase, oracle_parts, parts}
use Rattle.cv_scene.specs.Contexts.{call_terms}
use Rattle.cv_scene.specs.Instances.{Call, Matching, call_at, names_of, terms_of}
use Rattle.cv_scene.specs.LeftTerms.{HasLeftTerms, reads_no_array}
use Rattle.cv_scene.specs.Refusals.{uses}
use Rattle.cv_match_laws.proofs.instances.Calls.{call_found}
use Rattle.cv_match_laws.proofs.instances.Given.{Given, firsts, look_at, stands_for}
use Rattle.cv_context_laws.specs.shape.Parts.{IsPart}

-- one table is the other's

pub same_parts : (σ : Phrase) (h : Head) (q : Phrase × Phrase) → parts σ h ≡ Some q → oracle_parts σ h ≡ Some q
same_parts Body (Key x) q e = absurd (none q e)
  where
    none : (q : Phrase × Phrase) → ◌≡◌ {A = Option (Phrase × Phrase)} None (Some q) → ⊥
    none q e = cc
same_parts Body (CallHead x l) q e = absurd (none q e)
  where
    none : (q : Phrase × Phrase) → ◌≡◌ {A = Option (Phrase × Phrase)} None (Some q) → ⊥
    none q e = cc
same_parts σ h q e = e

-- the phrases of the children of a node
pub record ChildrenAre (σ : Phrase) (h : Head) (a b : Tree) : Type 0 where
  pub first : Phrase
  pub second : Phrase
  pub row : parts σ h ≡ Some (first, second)
  pub in_first : is_phrase first a ≡ true
  pub in_second : is_phrase second b ≡ true

pub children : (σ : Phrase) (h : Head) (a b : Tree) → is_phrase σ (Node h a b) ≡ true → ChildrenAre σ h a b
unfolding is_phrase
children σ h a b e = go (parts σ h) refl e
  where
    go : (o : Option (Phrase × Phrase)) → parts σ h ≡ o → both_are o (λ τ. is_phrase τ a) (λ ρ. is_phrase ρ b) ≡ true → ChildrenAre σ h a b
    go None q e = absurd (both_ways _ refl e)
    go (Some p) q e = let w = and_parts (is_phrase p.0 a) _ e in record { first = p.0; second = p.1; row = q; in_first = w.0; in_second = w.1 }

module _ (C : ℕ → Bool) where
  pub node_part : (σ : Phrase) (h : Head) (τ ρ : Phrase) (a b : Tree) → oracle_parts σ h ≡ Some (τ, ρ) → head_binds_none C h ≡ true → IsPart C τ a → IsPart C ρ b → IsPart C σ (Node h a b)
  unfolding is_oracle_phrase binds_none
  node_part σ h τ ρ a b e n p q = record {
    phrase = ap (λ o. both_are o (λ τ. is_oracle_phrase τ a) (λ ρ. is_oracle_phrase ρ b)) e ∙ ap₂ ◌&&◌ p.phrase q.phrase;
    unbound = ap₂ ◌&&◌ n (ap₂ ◌&&◌ p.unbound q.unbound);
  }

  pub empty_part : (σ : Phrase) (t : Tree) → is_phrase σ Empty ≡ true → IsPart C σ Empty
  unfolding is_phrase is_oracle_phrase binds_none
  empty_part σ t e = record { phrase = e; unbound = refl }

  -- what stays as it is
  pub game_part : (t : Tree) (σ : Phrase) → is_phrase σ t ≡ true → binds_none C t ≡ true → IsPart C σ t
  unfolding binds_none
  game_part Empty σ e n = empty_part σ Empty e
  game_part (Node h a b) σ e n =
      let c = children σ h a b e in
      let p = and_parts (head_binds_none C h) _ n in
      let q = and_parts (binds_none C a) (binds_none C b) p.1 in
      node_part σ h c.first c.second a b (same_parts σ h (c.first, c.second) c.row) p.0 (game_part a c.first c.in_first q.0) (game_part b c.second c.in_second q.1)

  -- terms bind nothing

  mutual
    unfolding is_phrase binds_none

    nil_binds : (t : Tree) → is_phrase Nil t ≡ true → binds_none C t ≡ true
    nil_binds Empty e = refl
    nil_binds (Node h a b) e = absurd (both_ways _ refl e)

    pub term_binds : (t : Tree) → is_phrase Term t ≡ true → binds_none C t ≡ true
    term_binds Empty e = refl
    term_binds (Node (Leaf x) a b) e = let p = and_parts (is_phrase Nil a) _ e in ap₂ ◌&&◌ (nil_binds a p.0) (nil_binds b p.1)
    term_binds (Node (Read x) a b) e = let p = and_parts (is_phrase Terms a) _ e in ap₂ ◌&&◌ (terms_bind a p.0) (nil_binds b p.1)
    term_binds (Node (Apply f) a b) e = let p = and_parts (is_phrase Terms a) _ e in ap₂ ◌&&◌ (terms_bind a p.0) (nil_binds b p.1)
    term_binds (Node Eq a b) e = let p = and_parts (is_phrase Term a) _ e in ap₂ ◌&&◌ (term_binds a p.0) (term_binds b p.1)
    term_binds (Node And a b) e = let p = and_parts (is_phrase Term a) _ e in ap₂ ◌&&◌ (term_binds a p.0) (term_binds b p.1)
    term_binds (Node Or a b) e = let p = and_parts (is_phrase Term a) _ e in ap₂ ◌&&◌ (term_binds a p.0) (term_binds b p.1)
    term_binds (Node Not a b) e = let p = and_parts (is_phrase Term a) _ e in ap₂ ◌&&◌ (term_binds a p.0) (nil_binds b p.1)
    term_binds (Node Yes a b) e = let p = and_parts (is_phrase Nil a) _ e in ap₂ ◌&&◌ (nil_binds a p.0) (nil_binds b p.1)
    term_binds (Node No a b) e = let p = and_parts (is_phrase Nil a) _ e in ap₂ ◌&&◌ (nil_binds a p.0) (nil_binds b p.1)
    term_binds (Node h a b) e = absurd (both_ways _ refl e)

    pub terms_bind : (t : Tree) → is_phrase Terms t ≡ true → binds_none C t ≡ true
    terms_bind Empty e = refl
    terms_bind (Node Cons a b) e = let p = and_parts (is_phrase Term a) _ e in ap₂ ◌&&◌ (term_binds a p.0) (terms_bind b p.1)
    terms_bind (Node h a b) e = absurd (both_ways _ refl e)

-- what stands for a name that a body reads

no_uses : (x : ℕ) (a : Tree) → is_phrase Nil a ≡ true → uses x a ≡ 0
unfolding is_phrase uses
no_uses x Empty e = refl
no_uses x (Node h a b) e = absurd (both_ways false refl e)

pub one_of : (m n : ℕ) → 0 < 0 + (m + n) → (0 < m) ⊎ (0 < n)
one_of zero n h = inr (omega arith)
one_of (suc m) n h = inl (omega arith)

pub by_either : {A B P : Type 0} → A ⊎ B → (A → P) → (B → P) → P
by_either (inl a) f g = f a
by_either (inr b) f g = g b

module _ (xs : List ℕ) (ts : Tree) (z : ℕ) (given : Tree) (found : term_for xs ts z ≡ Some given) where
  mutual
    unfolding uses with_given is_phrase reads_no_array

    pub given_term : (b : Tree) → is_phrase Term b ≡ true → reads_no_array b ≡ true → is_phrase Term (with_given xs ts b) ≡ true → 0 < uses z b → is_phrase Term given ≡ true
    given_term (Node (Leaf x) a b) w n f u =
        let p = and_parts (is_phrase Nil a) _ w in go (x == z) refl (let i = no_uses z a p.0 in let j = no_uses z b p.1 in let e : uses z a + uses z b ≡ 0 = omega arith in e) f u
      where
        go : (c : Bool) → (x == z) ≡ c → uses z a + uses z b ≡ 0 → is_phrase Term (or_node (term_for xs ts x) (Leaf x) (with_given xs ts a) (with_given xs ts b)) ≡ true → 0 < cond c 1 0 + (uses z a + uses z b) → is_phrase Term given ≡ true
        go true i k f u = subst (λ o. is_phrase Term (or_node o (Leaf x) (with_given xs ts a) (with_given xs ts b)) ≡ true) (ap (term_for xs ts) (eqb-true x z i) ∙ found) f
        go false i k f u = absurd (omega (arith, k, u))
    given_term (Node (Read x) a b) w n f u = absurd (both_ways false refl n)
    given_term (Node (Apply h) a b) w n f u =
        let p = and_parts (is_phrase Terms a) _ w in
        let i = no_uses z b p.1 in
        given_terms a p.0 (and_parts (reads_no_array a) _ n).0 (and_parts (is_phrase Terms (with_given xs ts a)) _ f).0 (let l : 0 < uses z a = omega (arith, i, u) in l)
    given_term (Node Eq a b) w n f u =
        let p = and_parts (is_phrase Term a) _ w in
        let q = and_parts (reads_no_array a) _ n in
        let k = and_parts (is_phrase Term (with_given xs ts a)) _ f in
        by_either (one_of (uses z a) (uses z b) u) (λ v. given_term a p.0 q.0 k.0 v) (λ v. given_term b p.1 q.1 k.1 v)
    given_term (Node And a b) w n f u =
        let p = and_parts (is_phrase Term a) _ w in
        let q = and_parts (reads_no_array a) _ n in
        let k = and_parts (is_phrase Term (with_given xs ts a)) _ f in
        by_either (one_of (uses z a) (uses z b) u) (λ v. given_term a p.0 q.0 k.0 v) (λ v. given_term b p.1 q.1 k.1 v)
    given_term (Node Or a b) w n f u =
        let p = and_parts (is_phrase Term a) _ w in
        let q = and_parts (reads_no_array a) _ n in
        let k = and_parts (is_phrase Term (with_given xs ts a)) _ f in
        by_either (one_of (uses z a) (uses z b) u) (λ v. given_term a p.0 q.0 k.0 v) (λ v. given_term b p.1 q.1 k.1 v)
    given_term (Node Not a b) w n f u =
        let p = and_parts (is_phrase Term a) _ w in
        let i = no_uses z b p.1 in
        given_term a p.0 (and_parts (reads_no_array a) _ n).0 (and_parts (is_phrase Term (with_given xs ts a)) _ f).0 (let l : 0 < uses z a = omega (arith, i, u) in l)
    given_term (Node Yes a b) w n f u = let p = and_parts (is_phrase Nil a) _ w in let i = no_uses z a p.0 in let j = no_uses z b p.1 in absurd (omega (arith, i, j, u))
    given_term (Node No a b) w n f u = let p = and_parts (is_phrase Nil a) _ w in let i = no_uses z a p.0 in let j = no_uses z b p.1 in absurd (omega (arith, i, j, u))
    given_term b w n f u = absurd (both_ways false refl w)

    given_terms : (b : Tree) → is_phrase Terms b ≡ true → reads_no_array b ≡ true → is_phrase Terms (with_given xs ts b) ≡ true → 0 < uses z b → is_phrase Term given ≡ true
    given_terms Empty w n f u = absurd (omega (arith, u))
    given_terms (Node Cons a b) w n f u =
        let p = and_parts (is_phrase Term a) _ w in
        let q = and_parts (reads_no_array a) _ n in
        let k = and_parts (is_phrase Term (with_given xs ts a)) _ f in
        by_either (one_of (uses z a) (uses z b) u) (λ v. given_term a p.0 q.0 k.0 v) (λ v. given_terms b p.1 q.1 k.1 v)
    given_terms b w n f u = absurd (both_ways false refl w)

-- the terms of a call

module _ (ds : List Declaration) (M : Matching) (left : HasLeftTerms ds M.group) (C : ℕ → Bool) where
  pub call_part : (t : Tree) (c : Call) → call_at M t ≡ Some c → is_phrase Term t ≡ true → IsPart C Terms (call_terms c.instance)
  unfolding is_phrase binds_none
  call_part t c e w =
      let k = call_found ds M t c left e in
      let s = stands_for ds M c.function c.instance k.left k.instance.coins k.instance.arguments in
      let f : is_phrase Term (with_given (names_of M.group c.function) (terms_of c.instance) c.function.body) ≡ true = ap (is_phrase Term) k.instance.body ∙ w in
      let key = given_term (names_of M.group c.function) (terms_of c.instance) M.group.key.0 c.instance.key s.key c.function.body k.left.term k.left.plain f s.key_read in
      let all = arguments (firsts c.function.arguments) c.instance.arguments s.arguments f in
      game_part C (call_terms c.instance) Terms (ap₂ ◌&&◌ key all) (ap₂ ◌&&◌ (term_binds C c.instance.key key) (terms_bind C (chain c.instance.arguments) all))
    where
      arguments : (xs : List ℕ) (ms : List Tree) → Given (look_at M.group c.function c.instance) c.function.body xs ms → is_phrase Term (with_given (names_of M.group c.function) (terms_of c.instance) c.function.body) ≡ true → is_phrase Terms (chain ms) ≡ true
      arguments [] [] g f = refl
      arguments (x ∷ xs) (m ∷ ms) g f =
          ap₂ ◌&&◌ (given_term (names_of M.group c.function) (terms_of c.instance) x m g.0.0 c.function.body (call_found ds M t c left e).left.term (call_found ds M t c left e).left.plain f g.0.1) (arguments xs ms g.1 f)
      arguments [] (m ∷ ms) g f = absurd g
      arguments (x ∷ xs) [] g f = absurd g
