-- What the test of a place says of each node on the way to it.
use Rattle.std.proofs.Common.{◌≡◌, ℕ, ◌+◌, ◌-◌, ◌≤◌, ◌<◌, true, false, ◌&&◌, not, le-ltb, refl, sym, ap, ◌∙◌}
use Rattle.std.proofs.lemmas.Bool.{both_ways, and_from, and_parts, not-true, or_left, or_right}
use Rattle.cv_syntax_trees.specs.declared.head.Head.{Head}
use Rattle.cv_syntax_trees.specs.declared.head.Head.TheVariants.{Branch, Par}
use Rattle.cv_syntax_trees.specs.Head.{weight}
use Rattle.cv_syntax_trees.specs.Tree.{Tree, Node, first, size}
use Rattle.cv_path.specs.declared.place.Lies.TheVariants.{Within, Behind}
use Rattle.cv_path.specs.Places.{LiesAt}
use Rattle.cv_path.proofs.Going.{choice_within, choice_behind, less_within, less_behind}
use Rattle.cv_scope_rules.specs.Made.{made_by}
use Rattle.cv_scope_rules.specs.Sites.{Variable}
use Rattle.cv_scope_runs.proofs.Rows.{Row}
use Rattle.cv_scope_runs.proofs.Rows
use Rattle.cv_scope_rules.specs.Phrases.{Phrase, Guards, Guarded}
use Rattle.cv_scene.specs.Late.{guards, is_defined_above, is_defined_in, is_free_beside, is_late}

-- the places that a service comes to: of a branch behind its indices, those of its body
abbrev pub Deep : Phrase → Tree → ℕ → Type 0
Deep Guards b r = guards b ≤ r
Deep Guarded b r = size (first b) ≤ r
Deep σ b r = Unit {0}

module _ (x : ℕ) where
  pub within_late : (h : Head) (a b : Tree) (r : ℕ) → r < size a → is_late x (Node h a b) (weight h + r) ≡ true → (is_free_beside x h b ≡ true) × (is_late x a r ≡ true)
  unfolding is_late
  within_late h a b r l e =
      let there : LiesAt h a (weight h + r) (Within r) = (refl, l) in
      let c = choice_within h a (weight h + r) true (is_free_beside x h b && is_late x a (weight h + r - weight h))
      (not (is_defined_above x h a b (weight h + r - (weight h + size a))) && (is_free_beside x h a && is_late x b (weight h + r - (weight h + size a)))) r there in
      and_parts (is_free_beside x h b) _ (ap (λ n. is_free_beside x h b && is_late x a n) (sym (less_within h a (weight h + r) r there)) ∙ (sym c ∙ e))

  pub record IsBehind (h : Head) (a b : Tree) (r : ℕ) : Type 0 where
    pub above : is_defined_above x h a b r ≡ false
    pub beside : is_free_beside x h a ≡ true
    pub late : is_late x b r ≡ true

  pub behind_late : (h : Head) (a b : Tree) (r : ℕ) → is_late x (Node h a b) (weight h + size a + r) ≡ true → IsBehind h a b r
  unfolding is_late
  behind_late h a b r e =
      let p : ℕ = weight h + size a + r in
      let there : LiesAt h a p (Behind r) = refl in
      let c = choice_behind h a p true (is_free_beside x h b && is_late x a (p - weight h)) (not (is_defined_above x h a b (p - (weight h + size a))) && (is_free_beside x h a && is_late x b (p - (weight h + size a)))) r there in
      let q = and_parts (not (is_defined_above x h a b r)) _ (ap (λ n. not (is_defined_above x h a b n) && (is_free_beside x h a && is_late x b n)) (sym (less_behind h a p r there)) ∙ (sym c ∙ e)) in
      let k = and_parts (is_free_beside x h a) _ q.1 in
      record { above = not-true _ q.0; beside = k.0; late = k.1 }

  -- what a node makes on the way of a service is defined above the places of its second child
  pub made_above : (σ τ ρ : Phrase) (h : Head) → Row σ h τ ρ → (a b : Tree) (r : ℕ) → Deep ρ b r → made_by h a (Variable x) ≡ true → is_defined_above x h a b r ≡ true
  made_above _ _ _ _ Rows.Row.branch a b r d e = and_from (made_by Branch a (Variable x)) _ e (ap not (le-ltb r (guards b) d))
  made_above _ _ _ _ Rows.Row.stop a b r d e = e
  made_above _ _ _ _ Rows.Row.par a b r d e = e
  made_above _ _ _ _ Rows.Row.repl a b r d e = e
  made_above _ _ _ _ Rows.Row.input a b r d e = e
  made_above _ _ _ _ Rows.Row.yield a b r d e = e
  made_above _ _ _ _ Rows.Row.output a b r d e = e
  made_above _ _ _ _ Rows.Row.restriction a b r d e = e
  made_above _ _ _ _ Rows.Row.definition a b r d e = e
  made_above _ _ _ _ Rows.Row.key a b r d e = e
  made_above _ _ _ _ Rows.Row.call a b r d e = e
  made_above _ _ _ _ Rows.Row.event a b r d e = e
  made_above _ _ _ _ Rows.Row.test a b r d e = e
  made_above _ _ _ _ Rows.Row.bodies a b r d e = e
  made_above _ _ _ _ Rows.Row.last_body a b r d e = e
  made_above _ _ _ _ Rows.Row.find a b r d e = e
  made_above _ _ _ _ Rows.Row.branches a b r d e = e
  made_above _ _ _ _ Rows.Row.guards a b r d e = e
  made_above _ _ _ _ Rows.Row.guarded a b r d e = e

  -- definitions of a tree

  abbrev pub Defines : Tree → Type 0
  Defines b = is_defined_in x b ≡ true

  pub defines_here : (h : Head) (a b : Tree) → made_by h a (Variable x) ≡ true → Defines (Node h a b)
  unfolding is_defined_in
  defines_here h a b e = or_left (made_by h a (Variable x)) _ e

  pub defines_first : (h : Head) (a b : Tree) → Defines a → Defines (Node h a b)
  unfolding is_defined_in
  defines_first h a b e = or_right (made_by h a (Variable x)) _ (or_left (is_defined_in x a) _ e)

  pub defines_second : (h : Head) (a b : Tree) → Defines b → Defines (Node h a b)
  unfolding is_defined_in
  defines_second h a b e = or_right (made_by h a (Variable x)) _ (or_right (is_defined_in x a) _ e)

  pub beside_free : (b : Tree) → is_free_beside x Par b ≡ true → Defines b → ⊥
  beside_free b e d = both_ways (is_defined_in x b) (not-true _ e) d
