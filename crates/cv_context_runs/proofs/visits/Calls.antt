-- A visited call with such a text is as is expected.
use Rattle.std.proofs.Common.{◌≡◌, ℕ, Bool, true, false, List, [], inl, inr, is_some, length, Option, Some, None, refl, sym, ap, subst, ◌∙◌}
use Rattle.std.proofs.lemmas.Bool.{and_parts, both_ways, false_from_ne_true}
use Rattle.std.specs.List.{AllByRecursion}
use Rattle.cv_syntax_trees.specs.declared.head.Head.TheVariants.{Apply, Cons, Leaf, Read}
use Rattle.cv_syntax_trees.specs.Tree.{Tree, Empty, Node, first}
use Rattle.cv_meaning.specs.Interpretation.{Setting}
use Rattle.cv_meaning.specs.Memory.{Indices, Local, Store, tuple}
use Rattle.cv_meaning.specs.Terms.{found_in, value, values}
use Rattle.cv_meaning.specs.Candidates.{is_assigned}
use Rattle.cv_meaning.specs.Serving.{key_tuple}
use Rattle.cv_meaning_laws.proofs.Sides.{values_same}
use Rattle.cv_meaning.specs.contexts.Sides.{side_from}
use Rattle.cv_scope_rules.specs.Phrases.{Nil, Term, Terms, is_oracle_phrase}
use Rattle.cv_scope_runs.specs.Reads.{LeafAssigned, TermAssigned, TermsAssigned}
use Rattle.cv_scope_runs.proofs.Contexts.{Matches, index_none}
use Rattle.cv_scene.specs.Sights.{variable_of}
use Rattle.cv_meaning.specs.contexts.Inlined.{Caller, is_index_of, needed}
use Rattle.cv_inline.specs.bodies.Related.{indices_at}
use Rattle.cv_meaning.specs.contexts.Roles.{Gone, Replication, Role, is_plain}
use Rattle.cv_inline.specs.NextGame.{callers_of}
use Rattle.cv_inline_laws.specs.runs.Texts.{IsHere, KeyKeeps, Text, oracles_in, plain_in}
use Rattle.cv_inline_laws.specs.runs.Contexts.{IsCallVisit, context_setting}
use Rattle.cv_context_runs.specs.visits.CallTexts.{AreOwnIndices, IsCallText, IsDrawnAlike, IsKeyRead}
use Rattle.cv_context_runs.proofs.visits.Keys.{as_many, index_found, index_values, indices_here, many_values, terms_later, terms_there}
use Rattle.cv_syntax_trees.proofs.lists.Each.{AllByRecursion_weaker}

nil_empty : (a : Tree) → is_oracle_phrase Nil a ≡ true → a ≡ Empty
unfolding is_oracle_phrase
nil_empty Empty e = refl
nil_empty (Node h a b) e = absurd (both_ways _ refl e)

module _ (T : Text) where
  abbrev pub g₁ : Setting
  g₁ = context_setting T

  -- reads are of one setting as of the other

  mutual
    term_same : (at : Indices) (m : Store) (t : Tree) → TermAssigned g₁ at m t → TermAssigned T.g at m t
    term_same at m Empty r = tt
    term_same at m (Node (Leaf x) a b) r = leaf_same m x (found_in at x) r
      where
        leaf_same : (m : Store) (x : ℕ) (o : Option ℕ) → LeafAssigned g₁ m x o → LeafAssigned T.g m x o
        leaf_same m x (Some v) r = r
        leaf_same m x None r = r
    term_same at m (Node (Read x) a b) r = (subst (λ u. is_some (m x u) ≡ true) (values_same T.g (side_from (oracles_in T)) at m a) r.0, terms_same at m a r.1)
    term_same at m (Node (Apply f) a b) r = terms_same at m a r
    term_same at m (Node h a b) r = (term_same at m a r.0, term_same at m b r.1)

    pub terms_same : (at : Indices) (m : Store) (t : Tree) → TermsAssigned g₁ at m t → TermsAssigned T.g at m t
    terms_same at m Empty r = tt
    terms_same at m (Node h a b) r = (term_same at m a r.0, terms_same at m b r.1)

  -- a name of another role is no index
  no_index : (c : Caller) → AreOwnIndices T c.replications → (x : ℕ) (on : Role → Bool) → on Replication ≡ false → on (T.role x) ≡ true → is_index_of c.replications x ≡ false
  no_index c own x on e k = false_from_ne_true (is_index_of c.replications x) (λ i. both_ways _ (ap on (own.roles x i) ∙ e) k)

  -- the key is read, and is there
  record IsKeyThere (s : Local) (c : Caller) (term : Tree) : Type 0 where
    pub tuple_is : key_tuple g₁ s term ≡ values T.g s.indices s.memory.store c.key
    pub terms : TermsAssigned T.g s.indices s.memory.store c.key
    pub chosen : is_some (s.memory.store T.calls.key (key_tuple g₁ s term)) ≡ true

  key_there : (variable : ℕ → Bool) (c : Caller) (term : Tree) (s : Local) → AreOwnIndices T c.replications → IsKeyRead T c term → Matches g₁ variable c.replications s.indices → is_oracle_phrase Term term ≡ true → TermAssigned g₁ s.indices s.memory.store term → IsKeyThere s c term
  unfolding value is_oracle_phrase
  key_there variable c term s own k mt p r = go term k.name k.terms p r
    where
      at : Indices
      at = s.indices

      m : Store
      m = s.memory.store

      is_gone : Role → Bool
      is_gone Gone = true
      is_gone z = false

      free : found_in at T.calls.key ≡ None
      free = index_none g₁ at c.replications T.calls.key mt.named (no_index c own T.calls.key is_gone refl (ap is_gone k.gone))

      there : (o : Option ℕ) → o ≡ None → LeafAssigned g₁ m T.calls.key o → is_some (m T.calls.key []) ≡ true
      there (Some v) e r = absurd (clash v e)
        where
          clash : (v : ℕ) → ◌≡◌ {A = Option ℕ} (Some v) None → ⊥
          clash v e = cc
      there None e (inl z) = absurd (both_ways _ k.constant z)
      there None e (inr z) = z

      name_of : (x y : ℕ) → Some x ≡ Some y → x ≡ y
      name_of x y e = cc

      go : (t : Tree) → variable_of t ≡ Some T.calls.key → first t ≡ c.key → is_oracle_phrase Term t ≡ true → TermAssigned g₁ at m t → IsKeyThere s c t
      go (Node (Leaf x) a b) n q p r =
          let none : c.key ≡ Empty = sym q ∙ nil_empty a (and_parts (is_oracle_phrase Nil a) _ p).0 in
          record {
            tuple_is = sym (ap (values T.g at m) none);
            terms = subst (TermsAssigned T.g at m) (sym none) tt;
            chosen = there (found_in at T.calls.key) free (subst (λ y. LeafAssigned g₁ m y (found_in at y)) (name_of x T.calls.key n) r);
          }
      go (Node (Read x) a b) n q p r =
          record {
            tuple_is = values_same T.g (side_from (oracles_in T)) at m a ∙ ap (values T.g at m) q;
            terms = subst (TermsAssigned T.g at m) q (terms_same at m a r.1);
            chosen = subst (λ y. is_some (m y (values g₁ at m a)) ≡ true) (name_of x T.calls.key n) r.0;
          }
      go t n q p r = absurd (clash n)
        where
          clash : None ≡ Some T.calls.key → ⊥
          clash e = cc

  -- where the call stands
  here : (variable : ℕ → Bool) (c : Caller) (term : Tree) (at : Indices) → AreOwnIndices T c.replications → IsKeyRead T c term → IsDrawnAlike T c → Matches g₁ variable c.replications at → IsHere T c at
  here variable c term at own k d mt = record {
    free = λ y e. index_none g₁ at c.replications y mt.named (own.drawn y e);
    no_index = λ x e. index_none g₁ at c.replications x mt.named (own.constants x e);
    not_own = d.own;
    terms = λ n. sym (values_same T.g (side_from (oracles_in T)) at n _) ∙ index_values g₁ at n at c.replications mt.named mt.found;
    replications = own.roles;
    found = λ x e. index_found g₁ at c.replications x mt.named e;
    arity = as_many g₁ at c.replications mt.named ∙ d.arity;
    apart = λ x e. index_none g₁ at c.replications x mt.named (no_index c own x is_plain refl e);
    key_terms = k.plain;
    chosen = λ z e. d.chosen z (tuple at) e;
    picked = λ q e. d.picked q (tuple at) e;
  }

  -- its key keeps its values
  key_keeps : (c : Caller) (term : Tree) (at : Indices) (m : Store) → IsKeyRead T c term → (variable : ℕ → Bool) → Matches g₁ variable c.replications at → TermsAssigned T.g at m c.key → KeyKeeps T m c (tuple at) (values T.g at m c.key)
  key_keeps c term at m k variable mt r =
      let e : indices_at c.replications (tuple at) ≡ at = indices_here g₁ at c.replications mt.named in
      record {
        found = λ x i. subst (λ is. (v : ℕ) × (found_in is x ≡ Some v)) (sym e) (index_found g₁ at c.replications x mt.named i);
        value = λ later l. ap (λ is. values T.g is later c.key) e ∙ terms_later T.g at m later l (is_index_of c.replications) (plain_in T) c.key k.plain r;
        assigned = λ later l. subst (λ is. AllByRecursion (λ t. is_assigned T.g is later later t ≡ true) (needed (is_index_of c.replications) c.key)) (sym e)
            (terms_there T.g at m later l (is_index_of c.replications) (plain_in T) (λ x i. index_none g₁ at c.replications x mt.named i) c.key k.plain k.no_constants r);
      }

  -- the visit
  pub call_expected : (variable : ℕ → Bool) (rs : List (ℕ × ℕ)) (x l : ℕ) (terms : Tree) (s : Local) → IsCallText T rs x l terms → Matches g₁ variable rs s.indices → T.g.is_constant x ≡ false → is_oracle_phrase Terms terms ≡ true
      → TermsAssigned g₁ s.indices s.memory.store terms → s.memory.store x (tuple s.indices) ≡ None → IsCallVisit T x l terms s
  unfolding is_oracle_phrase
  call_expected variable rs x l terms s t mt nc p r fresh =
      let mc : Matches g₁ variable t.calling.caller.replications s.indices = subst (λ qs. Matches g₁ variable qs s.indices) (sym t.replications) mt in
      let h : IsHere T t.calling.caller s.indices = here variable t.calling.caller (first terms) s.indices t.indices t.key t.drawn mc in
      let k : IsKeyThere s t.calling.caller (first terms) = key_there variable t.calling.caller (first terms) s t.indices t.key mc (first_phrase terms (key_named terms t.key.name) p) (first_read terms (key_named terms t.key.name) p r) in
      record {
        calling = t.calling;
        at_site = t.at_site;
        number = t.number;
        answer = t.answer;
        no_index = ap (found_in s.indices) t.answer ∙ index_none g₁ s.indices t.calling.caller.replications (T.answer l) mc.named (no_index t.calling.caller t.indices (T.answer l) is_gone refl (ap is_gone (T.answers l)));
        no_constant = nc;
        expected = record {
          here = h;
          fresh = ap (λ y. s.memory.store y (tuple s.indices)) (ap T.answer t.number ∙ sym t.answer) ∙ fresh;
          key_value = sym k.tuple_is;
          key_length = ap length k.tuple_is ∙ many_values T.g s.indices s.memory.store t.calling.caller.key ∙ t.key.many;
          key_chosen = k.chosen;
          stays = AllByRecursion_weaker (λ (c : Caller). c.number ≡ t.calling.caller.number → c ≡ t.calling.caller) (λ (c : Caller). c.number ≡ t.calling.caller.number → KeyKeeps T s.memory.store c (tuple s.indices) (key_tuple g₁ s (first terms)))
              (λ c same e. subst (λ d. KeyKeeps T s.memory.store d (tuple s.indices) (key_tuple g₁ s (first terms))) (sym (same e))
              (subst (KeyKeeps T s.memory.store t.calling.caller (tuple s.indices)) (sym k.tuple_is) (key_keeps t.calling.caller (first terms) s.indices s.memory.store t.key variable mc k.terms)))
              (callers_of T.calls.callings) t.alone;
        };
        fine = record {
          function = t.answered.function (tuple s.indices);
          no_coins = t.answered.no_coins;
          body = t.answered.body s.indices h;
          plain_arguments = t.answered.plain_arguments;
          sites = t.answered.sites s.indices h;
        };
      }
    where
      is_gone : Role → Bool
      is_gone Gone = true
      is_gone z = false

      is_there : Tree → Bool
      is_there Empty = false
      is_there (Node h a b) = true

      key_named : (ts : Tree) → variable_of (first ts) ≡ Some T.calls.key → is_there ts ≡ true
      key_named Empty e = absurd (clash e)
        where
          clash : None ≡ Some T.calls.key → ⊥
          clash e = cc
      key_named (Node h a b) e = refl

      first_phrase : (ts : Tree) → is_there ts ≡ true → is_oracle_phrase Terms ts ≡ true → is_oracle_phrase Term (first ts) ≡ true
      first_phrase (Node Cons a b) e p = (and_parts (is_oracle_phrase Term a) _ p).0
      first_phrase (Node h a b) e p = absurd (both_ways _ refl p)
      first_phrase Empty e p = absurd (both_ways _ refl e)

      first_read : (ts : Tree) → is_there ts ≡ true → is_oracle_phrase Terms ts ≡ true → TermsAssigned g₁ s.indices s.memory.store ts → TermAssigned g₁ s.indices s.memory.store (first ts)
      first_read (Node h a b) e p r = r.0
      first_read Empty e p r = absurd (both_ways _ refl e)
