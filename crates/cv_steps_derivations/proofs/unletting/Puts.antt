-- The game with the term in place of each read of the variable: it is in the grammar, reads the variable nowhere, and loses the
-- definition as the game does.
use Rattle.std.proofs.Common.{◌≡◌, ℕ, ◌==◌, ◌&&◌, Bool, true, false, cond, List, [], ◌∷◌, map, Option, Some, None, refl, sym, ap, ap₂, subst, ◌∙◌, eqb-true}
use Rattle.std.proofs.lemmas.Bool.{both_ways}
use Rattle.cv_syntax_trees.specs.declared.head.Head.{Head}
use Rattle.cv_syntax_trees.specs.declared.head.Head.TheVariants.{Leaf, Read}
use Rattle.cv_syntax_trees.specs.Tree.{Tree, Empty, Node, first, lone, reads_only}
use Rattle.cv_meaning.specs.Interpretation.{Setting}
use Rattle.cv_meaning.specs.Still.{defines}
use Rattle.cv_meaning_chances.specs.unread.Dropping.{reads_none}
use Rattle.cv_scope_rules.specs.Context.{Context, cell_of, index_terms}
use Rattle.cv_scope_rules.specs.Phrases.{Phrase, Inputs, OneCell, Term, both_are, is_phrase, parts}
use Rattle.cv_scope_rules.specs.Scope.{is_variable}
use Rattle.cv_scope_runs.proofs.Games.{Game}
use Rattle.cv_scope_runs.proofs.Standing.{Stands, in_first, in_second}
use Rattle.cv_scene.specs.lines.Given.{given_for, or_node, term_for, with_given}
use Rattle.cv_scene.specs.Scenes.{head_reads}
use Rattle.cv_scene.specs.Sights.{at_cell}
use Rattle.cv_steps.specs.Changes.{only, without}
use Rattle.cv_steps.specs.Unletting.{Assignment, is_listed, with_term}
use Rattle.cv_steps.proofs.Flat.{flat_dropped, is_of_terms, open_phrase, rows_still, AreStill, IfStill}
use Rattle.cv_steps_laws.proofs.Sorts.{oracle_of_parts}
use Rattle.cv_steps_derivations.proofs.unletting.Lists.{unlisted}
use Rattle.cv_steps_derivations.proofs.unletting.Reach.{plain, unread_head}
use Rattle.cv_steps_derivations.proofs.unletting.Sites.{OneDefinition}
use Rattle.cv_steps_derivations.proofs.unletting.Told.{told}

-- A term at its own indices is the term.

own_terms : (rs : List (ℕ × ℕ)) (y : ℕ) (t : Tree) → term_for (map (λ (r : ℕ × ℕ). r.0) rs) (index_terms rs) y ≡ Some t → t ≡ lone (Leaf y)
own_terms [] y t e = absurd (cc)
own_terms (r ∷ rs) y t e = go (r.0 == y) refl e (own_terms rs y t)
  where
    go : (v : Bool) → (r.0 == y) ≡ v → cond v (Some (lone (Leaf r.0))) (term_for (map (λ (r : ℕ × ℕ). r.0) rs) (index_terms rs) y) ≡ Some t
        → (term_for (map (λ (r : ℕ × ℕ). r.0) rs) (index_terms rs) y ≡ Some t → t ≡ lone (Leaf y)) → t ≡ lone (Leaf y)
    go true f e k = (let i : t ≡ lone (Leaf r.0) = cc in i) ∙ ap (λ z. lone (Leaf z)) (eqb-true r.0 y f)
    go false f e k = k e

-- a leaf has no children
bare_leaf : (σ : Phrase) (y : ℕ) (a b : Tree) → is_of_terms σ ≡ true → is_phrase σ (Node (Leaf y) a b) ≡ true → lone (Leaf y) ≡ Node (Leaf y) a b
unfolding is_phrase
bare_leaf Term y Empty Empty f e = refl
bare_leaf Term y Empty (Node h c n) f e = absurd (both_ways false refl e)
bare_leaf Term y (Node h c n) b f e = absurd (both_ways false refl e)
bare_leaf OneCell y Empty Empty f e = refl
bare_leaf OneCell y Empty (Node h c n) f e = absurd (both_ways false refl e)
bare_leaf OneCell y (Node h c n) b f e = absurd (both_ways false refl e)
bare_leaf σ y a b f e = absurd (both_ways false refl e)

module _ (names : List ℕ) (terms : Tree) (own : (y : ℕ) (t : Tree) → term_for names terms y ≡ Some t → t ≡ lone (Leaf y)) where
  given_same : (σ : Phrase) (t : Tree) → is_of_terms σ ≡ true → is_phrase σ t ≡ true → with_given names terms t ≡ t
  unfolding with_given
  given_same σ Empty f e = refl
  given_same σ (Node h a b) f e =
      let o = open_phrase σ h a b e in
      let r : AreStill h o.0 = subst (IfStill h) o.1 (rows_still σ h f) in
      go (given_for names terms h) refl (ap₂ (Node h) (given_same o.0.0 a r.first o.2) (given_same o.0.1 b r.second o.3))
    where
      at_leaf : (h : Head) (t : Tree) → is_phrase σ (Node h a b) ≡ true → given_for names terms h ≡ Some t → t ≡ Node h a b
      at_leaf (Leaf y) t e g = own y t g ∙ bare_leaf σ y a b f e
      at_leaf h t e g = absurd (cc)

      go : (s : Option Tree) → given_for names terms h ≡ s → Node h (with_given names terms a) (with_given names terms b) ≡ Node h a b → or_node s h (with_given names terms a) (with_given names terms b) ≡ Node h a b
      go None g k = k
      go (Some t) g k = at_leaf h t e g

own_given : (rs : List (ℕ × ℕ)) (x : ℕ) (t : Tree) → is_phrase Term t ≡ true → with_given (map (λ (r : ℕ × ℕ). r.0) rs) (first (cell_of rs x)) t ≡ t
own_given [] x t e = given_same [] Empty (λ y t f. absurd (cc)) Term t refl e
own_given (r ∷ rs) x t e = given_same (map (λ (r : ℕ × ℕ). r.0) (r ∷ rs)) (index_terms (r ∷ rs)) (own_terms (r ∷ rs)) Term t refl e

read_phrase : (x : ℕ) (h : Head) → head_reads x h ≡ true → (ys : ℕ → Bool) → defines ys h ≡ false
read_phrase x (Leaf y) e ys = refl
read_phrase x (Read y) e ys = refl
read_phrase x h e ys = absurd (both_ways false refl e)

module _ (g : Setting) (game : Tree) (x : ℕ) (d : Assignment) (fine : Game g (is_variable game) game) (well : is_phrase Inputs game ≡ true) (one : OneDefinition game x d) (free : is_listed x game ≡ false) where
  -- a read of the variable is the term
  pub put_read : {p : ℕ} {Γ : Context} {h : Head} {a b : Tree} → Stands game p Term Γ (Node h a b) → head_reads x h ≡ true → with_term x d (Node h a b) ≡ d.term
  unfolding with_term
  put_read {h = h} {a = a} {b = b} st e =
      let t = told g game x d fine well one free st e in
      ap (λ v. cond v (at_cell (Node h a b) d.behind d.term) (Node h (with_term x d a) (with_term x d b))) e
      ∙ ap (λ c. at_cell c d.behind d.term) t.same
      ∙ own_given d.behind.replications x d.term t.term

  -- a node that doesn't read it keeps its head
  pub put_kept : (h : Head) (a b : Tree) → head_reads x h ≡ false → with_term x d (Node h a b) ≡ Node h (with_term x d a) (with_term x d b)
  unfolding with_term
  put_kept h a b e = ap (λ v. cond v (at_cell (Node h a b) d.behind d.term) (Node h (with_term x d a) (with_term x d b))) e

  pub record IsPut (σ : Phrase) (t : Tree) : Type 0 where
    pub phrase : is_phrase σ (with_term x d t) ≡ true
    pub unread : reads_none (only x) (with_term x d t) ≡ true
    pub dropped : without (only x) (with_term x d t) ≡ with_term x d (without (only x) t)

  put_here : (σ : Phrase) (h : Head) (a b : Tree) {p : ℕ} {Γ : Context} → (q : Phrase × Phrase) → parts σ h ≡ Some q → Stands game p σ Γ (Node h a b) → head_reads x h ≡ true → IsPut σ (Node h a b)
  put_here Term h a b q e st f =
      let t = told g game x d fine well one free st f in
      let same : with_term x d (Node h a b) ≡ d.term = put_read st f in
      record {
        phrase = ap (is_phrase Term) same ∙ t.term;
        unread = ap (reads_none (only x)) same ∙ t.unread;
        dropped =
            ap (without (only x)) same
            ∙ flat_dropped (only x) Term d.term refl t.term
            ∙ sym same
            ∙ ap (with_term x d) (sym (flat_dropped (only x) Term (Node h a b) refl (plain g game x d fine well one free st)));
      }
  put_here OneCell (Leaf y) a b q e st f = absurd (both_ways (y == x) (unlisted x game free st) f)
  put_here OneCell (Read y) a b q e st f = absurd (both_ways (y == x) (unlisted x game free st) f)
  put_here σ (Leaf y) a b q e st f = absurd (cc)
  put_here σ (Read y) a b q e st f = absurd (cc)
  put_here σ h a b q e st f = absurd (both_ways false refl f)

  pub puts : (σ : Phrase) (t : Tree) {p : ℕ} {Γ : Context} → Stands game p σ Γ t → IsPut σ t
  unfolding is_phrase reads_only without with_term
  puts σ Empty st = record { phrase = plain g game x d fine well one free st; unread = refl; dropped = refl }
  puts σ (Node h a b) st =
      let o = open_phrase σ h a b (plain g game x d fine well one free st) in
      let e = oracle_of_parts σ h o.0 o.1 in
      go (head_reads x h) refl o.0 o.1 (puts o.0.0 a (in_first e st)) (puts o.0.1 b (in_second e st))
    where
      go : (v : Bool) → head_reads x h ≡ v → (o : Phrase × Phrase) → parts σ h ≡ Some o → IsPut o.0 a → IsPut o.1 b → IsPut σ (Node h a b)
      go true e o f y z = put_here σ h a b o f st e
      go false e o f y z =
          let same : with_term x d (Node h a b) ≡ Node h (with_term x d a) (with_term x d b) = put_kept h a b e in
          record {
            phrase = ap (is_phrase σ) same ∙ ap (λ o. both_are o (λ τ. is_phrase τ (with_term x d a)) (λ ρ. is_phrase ρ (with_term x d b))) f ∙ ap₂ ◌&&◌ y.phrase z.phrase;
            unread = ap (reads_none (only x)) same ∙ ap₂ ◌&&◌ (unread_head x h e) (ap₂ ◌&&◌ y.unread z.unread);
            dropped = ap (without (only x)) same ∙ drop (defines (only x) h);
          }
        where
          drop : (v : Bool) → cond v (without (only x) (with_term x d b)) (Node h (without (only x) (with_term x d a)) (without (only x) (with_term x d b))) ≡ with_term x d (cond v (without (only x) b) (Node h (without (only x) a) (without (only x) b)))
          drop true = z.dropped
          drop false = ap₂ (Node h) y.dropped z.dropped ∙ sym (put_kept h (without (only x) a) (without (only x) b) e)
