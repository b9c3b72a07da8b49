-- A term that is in scope where something is known has a value there that stays.
use Rattle.std.proofs.Common.{◌≡◌, ℕ, true, inl, inr, refl}
use Rattle.std.proofs.lemmas.Bool.{both_ways, and_parts, or_cases}
use Rattle.cv_syntax_trees.specs.declared.head.Head.TheVariants.{Leaf, Read, Apply, Eq, And, Or, Not, Yes, No, Cons}
use Rattle.cv_syntax_trees.specs.Tree.{Tree, Empty, Node}
use Rattle.cv_scope_rules.specs.declared.position.Position.TheVariants.{Anywhere}
use Rattle.cv_scope_rules.specs.Context.{Context}
use Rattle.cv_scope_rules.specs.Phrases.{Nil, Terms, Term, is_oracle_phrase}
use Rattle.cv_scope_rules.specs.Rules.{Names, ReadsInReach, is_index}
use Rattle.cv_scope_rules.specs.Tests.{reads_in_reach}
use Rattle.cv_scope_rules.proofs.Decided.{reach_found}
use Rattle.cv_scope_runs.proofs.Asked.{Asked}
use Rattle.cv_costs.specs.names.Reach.{is_in_scope}

leaf_found : (names : Names) (Γ : Context) (x : ℕ) (a b : Tree) → reads_in_reach names Γ (Leaf x) a b ≡ true → ReadsInReach names Γ (Leaf x) a b
leaf_found names Γ x a b e =
    elim (or_cases (is_index Γ.replications x) _ e) [
      | inl k ↦ inl k
      | inr k ↦ elim (or_cases (names.constant x) _ k) [ inl m ↦ inr (inl m) | inr m ↦ inr (inr (reach_found Γ (Node (Leaf x) a b) m)) ]
    ]

-- what array scope asks of such a term
mutual
  unfolding is_oracle_phrase is_in_scope

  pub scope_asked : (names : Names) (Γ : Context) (t : Tree) → is_oracle_phrase Term t ≡ true → is_in_scope names Γ t ≡ true → Asked names Anywhere Γ t
  scope_asked names Γ Empty f e = absurd (both_ways _ refl f)
  scope_asked names Γ (Node (Leaf x) a b) f e =
      let r = and_parts (is_oracle_phrase Nil a) _ f in
      (record { scope = leaf_found names Γ x a b (and_parts (reads_in_reach names Γ (Leaf x) a b) _ e).0; index = tt; distinct = tt }, nil_asked names Γ a r.0, nil_asked names Γ b r.1)
  scope_asked names Γ (Node (Read x) a b) f e =
      let r = and_parts (is_oracle_phrase Terms a) _ f in
      let z = and_parts (reads_in_reach names Γ (Read x) a b) _ e in
      (record { scope = reach_found Γ (Node (Read x) a b) z.0; index = tt; distinct = tt }, all_scope_asked names Γ a r.0 (and_parts (is_in_scope names Γ a) _ z.1).0, nil_asked names Γ b r.1)
  scope_asked names Γ (Node (Apply g) a b) f e =
      let r = and_parts (is_oracle_phrase Terms a) _ f in
      (record { scope = tt; index = tt; distinct = tt }, all_scope_asked names Γ a r.0 (and_parts (is_in_scope names Γ a) _ e).0, nil_asked names Γ b r.1)
  scope_asked names Γ (Node Eq a b) f e =
      let r = and_parts (is_oracle_phrase Term a) _ f in let z = and_parts (is_in_scope names Γ a) _ e in
      (record { scope = tt; index = tt; distinct = tt }, scope_asked names Γ a r.0 z.0, scope_asked names Γ b r.1 z.1)
  scope_asked names Γ (Node And a b) f e =
      let r = and_parts (is_oracle_phrase Term a) _ f in let z = and_parts (is_in_scope names Γ a) _ e in
      (record { scope = tt; index = tt; distinct = tt }, scope_asked names Γ a r.0 z.0, scope_asked names Γ b r.1 z.1)
  scope_asked names Γ (Node Or a b) f e =
      let r = and_parts (is_oracle_phrase Term a) _ f in let z = and_parts (is_in_scope names Γ a) _ e in
      (record { scope = tt; index = tt; distinct = tt }, scope_asked names Γ a r.0 z.0, scope_asked names Γ b r.1 z.1)
  scope_asked names Γ (Node Not a b) f e =
      let r = and_parts (is_oracle_phrase Term a) _ f in
      (record { scope = tt; index = tt; distinct = tt }, scope_asked names Γ a r.0 (and_parts (is_in_scope names Γ a) _ e).0, nil_asked names Γ b r.1)
  scope_asked names Γ (Node Yes a b) f e =
      let r = and_parts (is_oracle_phrase Nil a) _ f in
      (record { scope = tt; index = tt; distinct = tt }, nil_asked names Γ a r.0, nil_asked names Γ b r.1)
  scope_asked names Γ (Node No a b) f e =
      let r = and_parts (is_oracle_phrase Nil a) _ f in
      (record { scope = tt; index = tt; distinct = tt }, nil_asked names Γ a r.0, nil_asked names Γ b r.1)
  scope_asked names Γ (Node h a b) f e = absurd (both_ways _ refl f)

  all_scope_asked : (names : Names) (Γ : Context) (t : Tree) → is_oracle_phrase Terms t ≡ true → is_in_scope names Γ t ≡ true → Asked names Anywhere Γ t
  all_scope_asked names Γ Empty f e = tt
  all_scope_asked names Γ (Node Cons a b) f e =
      let r = and_parts (is_oracle_phrase Term a) _ f in let z = and_parts (is_in_scope names Γ a) _ e in
      (record { scope = tt; index = tt; distinct = tt }, scope_asked names Γ a r.0 z.0, all_scope_asked names Γ b r.1 z.1)
  all_scope_asked names Γ (Node h a b) f e = absurd (both_ways _ refl f)

  nil_asked : (names : Names) (Γ : Context) (t : Tree) → is_oracle_phrase Nil t ≡ true → Asked names Anywhere Γ t
  nil_asked names Γ Empty f = tt
  nil_asked names Γ (Node h a b) f = absurd (both_ways _ refl f)
