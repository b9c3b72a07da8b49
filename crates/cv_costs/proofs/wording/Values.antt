-- A term keeps its value where the terms at the places in it do.
use Rattle.std.proofs.Common.{◌≡◌, ℕ, ◌==◌, ◌&&◌, ◌||◌, not, Bool, true, false, cond, ◌∷◌, refl, sym, ap, ap₂, subst, ◌∙◌}
use Rattle.std.proofs.lemmas.Bool.{both_ways, and_parts}
use Rattle.cv_syntax_trees.specs.declared.head.Head.{Head}
use Rattle.cv_syntax_trees.specs.declared.head.Head.TheVariants.{Leaf, Read, Apply, Eq, And, Or, Not, Yes, No, Cons}
use Rattle.cv_syntax_trees.specs.Head.{weight}
use Rattle.cv_syntax_trees.specs.Tree.{Tree, Empty, Node, first_place, second, second_place}
use Rattle.cv_meaning.specs.Interpretation.{Setting}
use Rattle.cv_meaning.specs.Memory.{Indices, Store}
use Rattle.cv_meaning.specs.Terms.{bit, is_one, or_zero, value, values}
use Rattle.cv_scope_rules.specs.Context.{Context}
use Rattle.cv_scope_rules.specs.Phrases.{Phrase, Message, Nil, Terms, Term, is_phrase}
use Rattle.cv_scope_rules.specs.Scope.{is_variable}
use Rattle.cv_scope_runs.proofs.Contexts.{Matches, variable_none}
use Rattle.cv_scope_runs.proofs.Standing.{Stands, in_first, in_second, stands_known}
use Rattle.cv_scope_runs.proofs.TermsLater.{AllReadable, Readable, readable_assigned}
use Rattle.cv_costs.specs.wording.Changing.{changed_at, is_changed}
use Rattle.cv_costs.specs.wording.Facts.{KeepsValues}
use Rattle.cv_costs.proofs.wording.Places.{AreAt, at_first, at_node, at_second, kept_bare, kept_node}

module _ (g : Setting) (game : Tree) (places : ℕ → Bool) (change : Tree → Tree) (P : Store → Type 0) (same : KeepsValues g game places change P) (at : Indices) (m : Store) (holds : P m) where
  abbrev pub SameValues : Phrase → Tree → Tree → Type 0
  SameValues Term t u = value g at m t ≡ value g at m u
  SameValues Terms t u = values g at m t ≡ values g at m u
  SameValues Message t u = values g at m (second t) ≡ values g at m (second u)
  SameValues σ t u = Unit {0}

  abbrev pub AreRead : Phrase → Tree → Type 0
  AreRead Term t = Readable g (is_variable game) at m t
  AreRead Terms t = AllReadable g (is_variable game) at m t
  AreRead Message t = AllReadable g (is_variable game) at m (second t)
  AreRead σ t = Unit {0}

  -- a term that stands somewhere keeps its value if it does with its parts changed
  term_same : (h : Head) (a b : Tree) {p : ℕ} {Γ : Context} → weight h ≡ 1 → Stands game p Term Γ (Node h a b) → AreAt places change game Term p (Node h a b) → Matches g (is_variable game) Γ.replications at → Readable g (is_variable game) at m (Node h a b)
      → value g at m (Node h a b) ≡ value g at m (Node h (changed_at places change (first_place p h) a) (changed_at places change (second_place p h a) b))
      → value g at m (Node h a b) ≡ value g at m (changed_at places change p (Node h a b))
  unfolding changed_at
  term_same h a b {p = p} {Γ = Γ} w st k f r e = go (is_changed places p h) refl
    where
      go : (v : Bool) → is_changed places p h ≡ v → value g at m (Node h a b) ≡ value g at m (cond v (change (Node h a b)) (Node h (changed_at places change (first_place p h) a) (changed_at places change (second_place p h a) b)))
      go true i =
          let z = at_node places change game Term p h a b k i in
          subst (λ t. value g at m t ≡ value g at m (change t)) z.part
          (same p z.place Γ (stands_known game p Term Γ (Node h a b) w st) at m f.named (variable_none g (is_variable game) Γ.replications at f)
          (readable_assigned g (is_variable game) at m _ (subst (Readable g (is_variable game) at m) (sym z.part) r)) holds)
      go false i = e

  pub same_values : (σ : Phrase) (t : Tree) {p : ℕ} {Γ : Context} → Stands game p σ Γ t → is_phrase σ t ≡ true → AreAt places change game σ p t → Matches g (is_variable game) Γ.replications at → AreRead σ t → SameValues σ t (changed_at places change p t)
  unfolding value is_phrase changed_at
  same_values Term (Node (Leaf x) a b) st w k f r = term_same (Leaf x) a b refl st k f r refl
  same_values Term (Node (Read x) a b) {p = p} st w k f r =
      term_same (Read x) a b refl st k f r
      (ap (λ t. or_zero (m x (values g at m t))) (sym (kept_bare places change game Nil (first_place p (Read x)) a refl (at_first places change game Term (Read x) a b p k))))
  same_values Term (Node (Apply h) a b) {p = p} st w k f r =
      term_same (Apply h) a b refl st k f r
      (ap (g.interpretation.table h) (same_values Terms a (in_first refl st) (and_parts (is_phrase Terms a) _ w).0 (at_first places change game Term (Apply h) a b p k) f r))
  same_values Term (Node Eq a b) {p = p} st w k f r =
      let q = and_parts (is_phrase Term a) _ w in
      term_same Eq a b refl st k f r
      (ap₂ (λ u v. bit (u == v)) (same_values Term a (in_first refl st) q.0 (at_first places change game Term Eq a b p k) f r.0) (same_values Term b (in_second refl st) q.1 (at_second places change game Term Eq a b p k) f r.1))
  same_values Term (Node And a b) {p = p} st w k f r =
      let q = and_parts (is_phrase Term a) _ w in
      term_same And a b refl st k f r
      (ap₂ (λ u v. bit (is_one u && is_one v)) (same_values Term a (in_first refl st) q.0 (at_first places change game Term And a b p k) f r.0) (same_values Term b (in_second refl st) q.1 (at_second places change game Term And a b p k) f r.1))
  same_values Term (Node Or a b) {p = p} st w k f r =
      let q = and_parts (is_phrase Term a) _ w in
      term_same Or a b refl st k f r
      (ap₂ (λ u v. bit (is_one u || is_one v)) (same_values Term a (in_first refl st) q.0 (at_first places change game Term Or a b p k) f r.0) (same_values Term b (in_second refl st) q.1 (at_second places change game Term Or a b p k) f r.1))
  same_values Term (Node Not a b) {p = p} st w k f r =
      let q = and_parts (is_phrase Term a) _ w in
      term_same Not a b refl st k f r
      (ap (λ u. bit (not (is_one u))) (same_values Term a (in_first refl st) q.0 (at_first places change game Term Not a b p k) f r.0))
  same_values Term (Node Yes a b) st w k f r = term_same Yes a b refl st k f r refl
  same_values Term (Node No a b) st w k f r = term_same No a b refl st k f r refl
  same_values Term t st w k f r = absurd (both_ways false refl w)
  same_values Terms Empty st w k f r = refl
  same_values Terms (Node Cons a b) {p = p} st w k f r =
      let q = and_parts (is_phrase Term a) _ w in
      ap₂ ◌∷◌ (same_values Term a (in_first refl st) q.0 (at_first places change game Terms Cons a b p k) f r.0) (same_values Terms b (in_second refl st) q.1 (at_second places change game Terms Cons a b p k) f r.1)
      ∙ ap (values g at m) (sym (kept_node places change game Terms p Cons a b refl k))
  same_values Terms t st w k f r = absurd (both_ways false refl w)
  same_values Message (Node Cons a b) {p = p} st w k f r =
      same_values Terms b (in_second refl st) (and_parts _ (is_phrase Terms b) w).1 (at_second places change game Message Cons a b p k) f r
      ∙ ap (λ t. values g at m (second t)) (sym (kept_node places change game Message p Cons a b refl k))
  same_values Message t st w k f r = absurd (both_ways false refl w)
  same_values σ t st w k f r = tt
