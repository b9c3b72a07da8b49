-- A game with the term of an assignment in the place of each read: how much it counts.
use Rattle.std.proofs.Common.{◌≡◌, ℕ, zero, suc, ◌+◌, ◌<◌, ◌≤◌, ◌==◌, ◌&&◌, ◌⊎◌, inl, inr, Bool, true, false, cond, not, Some, refl, sym, ap, ap₂, subst, ◌∙◌, arith}
use Rattle.std.proofs.lemmas.Bool.{both_ways, and_parts}
use Rattle.cv_syntax_trees.specs.declared.head.Head.{Head}
use Rattle.cv_syntax_trees.specs.declared.head.Head.TheVariants.{Eq, Leaf, Let, Read}
use Rattle.cv_syntax_trees.specs.Head.{weight}
use Rattle.cv_syntax_trees.specs.Tree.{Tree, Empty, Node, head_reads_only, reads_only, size}
use Rattle.cv_syntax_trees.specs.sites.Sites.{first_of}
use Rattle.cv_meaning.specs.Interpretation.{Setting}
use Rattle.cv_meaning.specs.Still.{head_is_still, is_still}
use Rattle.cv_meaning_chances.specs.unread.Dropping.{reads_none}
use Rattle.cv_scope_rules.specs.Context.{Context, cell_of, first_position, second_position}
use Rattle.cv_scope_rules.specs.Phrases.{IsWellFormed, OneCell, Phrase, Term, is_phrase, oracle_parts}
use Rattle.cv_scope_rules.specs.Scope.{is_variable}
use Rattle.cv_scope_rules.specs.declared.position.Position.{Position}
use Rattle.cv_scope_runs.proofs.Games.{Game, has_parts, stands_phrase}
use Rattle.cv_scope_runs.proofs.Rows.{placed, position_of}
use Rattle.cv_scope_runs.proofs.Standing.{Stands, first_below, in_first, in_second}
use Rattle.cv_scene.specs.Scenes.{Scene, head_reads}
use Rattle.cv_steps.specs.Changes.{only}
use Rattle.cv_steps.specs.Unletting.{Assignment, is_listed, with_term}
use Rattle.cv_steps.proofs.Flat.{open_phrase, term_still}
use Rattle.cv_steps_laws.proofs.Unletted.{put_bare}
use Rattle.cv_steps_derivations.proofs.unletting.Lists.{unlisted}
use Rattle.cv_steps_derivations.proofs.unletting.Puts.{put_kept, put_read}
use Rattle.cv_steps_derivations.proofs.unletting.Reach.{plain, unread_head}
use Rattle.cv_steps_derivations.proofs.unletting.Sites.{OneDefinition}
use Rattle.cv_steps_derivations.proofs.unletting.Told.{told}
use Rattle.cv_settling_rules.specs.Measure.{is_large_equality, large_equalities}
use Rattle.cv_settling_rules.specs.Variables.{is_read_here, reads_in}
use Rattle.cv_settling_measures.proofs.Equalities.{counted, is_large_term, large_head, one_if}
use Rattle.cv_settling_measures.proofs.Nodes.{IsIn, in_first as first_in, in_second as second_in, itself}
use Rattle.cv_settling_measures.proofs.Sites.{here_of_names, names_bare, site_sort, still_sites}
use Rattle.cv_settling_descent.specs.Reads.{AreReadsOf}
use Rattle.cv_settling_descent.proofs.Orphans.{any, scoped_game}

-- a price for each read, but for those inside others
unfoldable pub paid : (x price : ℕ) → Tree → ℕ
paid x k Empty = 0
paid x k (Node h a b) = cond (head_reads x h) k (paid x k a + paid x k b)

module _ (x : ℕ) where
  pub paid_read : (k : ℕ) (h : Head) (a b : Tree) → head_reads x h ≡ true → paid x k (Node h a b) ≡ k
  unfolding paid
  paid_read k h a b e = ap (λ v. cond v k (paid x k a + paid x k b)) e

  pub paid_kept : (k : ℕ) (h : Head) (a b : Tree) → head_reads x h ≡ false → paid x k (Node h a b) ≡ paid x k a + paid x k b
  unfolding paid
  paid_kept k h a b e = ap (λ v. cond v k (paid x k a + paid x k b)) e

  pub paid_less : (k l : ℕ) → k ≤ l → (t : Tree) → paid x k t ≤ paid x l t
  unfolding paid
  paid_less k l i Empty = omega arith
  paid_less k l i (Node h a b) = go (head_reads x h) (paid_less k l i a) (paid_less k l i b)
    where
      go : (v : Bool) → paid x k a ≤ paid x l a → paid x k b ≤ paid x l b → cond v k (paid x k a + paid x k b) ≤ cond v l (paid x l a + paid x l b)
      go true y z = i
      go false y z = omega (arith, y, z)

  pub paid_nothing : (t : Tree) → paid x 0 t ≡ 0
  unfolding paid
  paid_nothing Empty = refl
  paid_nothing (Node h a b) = go (head_reads x h) (paid_nothing a) (paid_nothing b)
    where
      go : (v : Bool) → paid x 0 a ≡ 0 → paid x 0 b ≡ 0 → cond {A = ℕ} v 0 (paid x 0 a + paid x 0 b) ≡ 0
      go true y z = refl
      go false y z = omega (arith, y, z)

  paid_for_none : (k : ℕ) (t : Tree) → paid x 1 t ≡ 0 → paid x k t ≡ 0
  unfolding paid
  paid_for_none k Empty e = refl
  paid_for_none k (Node h a b) e = go (head_reads x h) e (paid_for_none k a) (paid_for_none k b)
    where
      go : (v : Bool) → cond {A = ℕ} v 1 (paid x 1 a + paid x 1 b) ≡ 0 → (paid x 1 a ≡ 0 → paid x k a ≡ 0) → (paid x 1 b ≡ 0 → paid x k b ≡ 0) → cond v k (paid x k a + paid x k b) ≡ 0
      go true e y z = absurd (omega (arith, e))
      go false e y z = omega (arith, y (omega (arith, e)), z (omega (arith, e)))

  -- a price for one read at most
  pub paid_once : (k : ℕ) (t : Tree) → paid x 1 t < 2 → paid x k t ≤ k
  unfolding paid
  paid_once k Empty e = omega arith
  paid_once k (Node h a b) e = go (head_reads x h) (paid x 1 a) refl e (paid_once k a) (paid_once k b)
    where
      go : (v : Bool) (n : ℕ) → paid x 1 a ≡ n → cond {A = ℕ} v 1 (paid x 1 a + paid x 1 b) < 2 → (paid x 1 a < 2 → paid x k a ≤ k) → (paid x 1 b < 2 → paid x k b ≤ k) → cond v k (paid x k a + paid x k b) ≤ k
      go true n f e y z = omega arith
      go false zero f e y z = omega (arith, paid_for_none k a f, z (omega (arith, e)))
      go false (suc n) f e y z = omega (arith, paid_for_none k b (omega (arith, e, f)), y (omega (arith, e)))

  not_reading : (v : Bool) → not v ≡ true → v ≡ false
  not_reading true g = absurd (both_ways false refl g)
  not_reading false g = refl

  head_unread : (h : Head) → head_reads_only (λ y. not (only x y)) h ≡ true → head_reads x h ≡ false
  head_unread (Leaf y) f = not_reading (y == x) f
  head_unread (Read y) f = not_reading (y == x) f
  head_unread h f = refl

-- terms define nothing

still_inside : (u t : Tree) → IsIn u t → is_still t ≡ true → is_still u ≡ true
still_inside u t itself e = e
still_inside u t (first_in {h = h} {a = a} {b = b} i) e = still_inside u a i (and_parts (is_still a) _ (and_parts (head_is_still h) _ e).1).0
still_inside u t (second_in {h = h} {a = a} {b = b} i) e = still_inside u b i (and_parts (is_still a) _ (and_parts (head_is_still h) _ e).1).1

pub one_if_less : (u v : Bool) → (u ≡ true → v ≡ true) → one_if u ≤ one_if v
one_if_less true true f = omega arith
one_if_less true false f = absurd (both_ways false refl (f refl))
one_if_less false true f = omega arith
one_if_less false false f = omega arith

eq_first : (σ : Phrase) (q : Phrase × Phrase) → oracle_parts σ Eq ≡ Some q → q.0 ≡ Term
eq_first Term q e = let i : (let p : Phrase × Phrase = (Term, Term) in p) ≡ q = cc in sym (ap (λ (p : Phrase × Phrase). p.0) i)
eq_first σ q e = absurd (cc)

module _ (s : Scene) (x : ℕ) (d : Assignment) (w : IsWellFormed s.declarations s.game) (one : OneDefinition s.game x d) (free : is_listed x s.game ≡ false) where
  abbrev g : Setting
  g = any s.declarations

  fine : Game g (is_variable s.game) s.game
  fine = scoped_game s.declarations s.game w

  abbrev put : Tree → Tree
  put t = with_term x d t

  abbrev cell : Tree
  cell = cell_of d.behind.replications x

  name_as_term : (σ : Phrase) (y : ℕ) (a b : Tree) (q : Phrase × Phrase) {p : ℕ} {Γ : Context} → oracle_parts σ (Leaf y) ≡ Some q → Stands s.game p σ Γ (Node (Leaf y) a b) → (y == x) ≡ true → σ ≡ Term
  name_as_term Term y a b q e st f = refl
  name_as_term OneCell y a b q e st f = absurd (both_ways (y == x) (unlisted x s.game free st) f)
  name_as_term σ y a b q e st f = absurd (cc)

  cell_as_term : (σ : Phrase) (y : ℕ) (a b : Tree) (q : Phrase × Phrase) {p : ℕ} {Γ : Context} → oracle_parts σ (Read y) ≡ Some q → Stands s.game p σ Γ (Node (Read y) a b) → (y == x) ≡ true → σ ≡ Term
  cell_as_term Term y a b q e st f = refl
  cell_as_term OneCell y a b q e st f = absurd (both_ways (y == x) (unlisted x s.game free st) f)
  cell_as_term σ y a b q e st f = absurd (cc)

  read_as_term : (σ : Phrase) (h : Head) (a b : Tree) (q : Phrase × Phrase) {p : ℕ} {Γ : Context} → oracle_parts σ h ≡ Some q → Stands s.game p σ Γ (Node h a b) → head_reads x h ≡ true → σ ≡ Term
  read_as_term σ (Leaf y) a b q e st f = name_as_term σ y a b q e st f
  read_as_term σ (Read y) a b q e st f = cell_as_term σ y a b q e st f
  read_as_term σ h a b q e st f = absurd (both_ways false refl f)

  -- a read is the cell, and becomes the term
  record IsPutFor (h : Head) (a b : Tree) : Type 0 where
    same : Node h a b ≡ cell
    next : put (Node h a b) ≡ d.term
    term : is_phrase Term d.term ≡ true
    before : is_phrase Term (Node h a b) ≡ true
    unread : reads_none (only x) d.term ≡ true

  put_for : (σ : Phrase) (h : Head) (a b : Tree) (q : Phrase × Phrase) {p : ℕ} {Γ : Context} → oracle_parts σ h ≡ Some q → Stands s.game p σ Γ (Node h a b) → head_reads x h ≡ true → IsPutFor h a b
  put_for σ h a b q {p = p} {Γ = Γ} e st f =
      let there : Stands s.game p Term Γ (Node h a b) = subst (λ τ. Stands s.game p τ Γ (Node h a b)) (read_as_term σ h a b q e st f) st in
      let t = told g s.game x d fine w.phrase one free there f in
      record {
        same = t.same;
        next = put_read g s.game x d fine w.phrase one free there f;
        term = t.term;
        before = plain g s.game x d fine w.phrase one free there;
        unread = t.unread;
      }

  pub reads_of_cell : (σ : Phrase) (t : Tree) {p : ℕ} {Γ : Context} → Stands s.game p σ Γ t → AreReadsOf x cell t
  unfolding AreReadsOf
  reads_of_cell σ Empty st = tt
  reads_of_cell σ (Node h a b) st =
      let q = has_parts σ h a b (stands_phrase g (is_variable s.game) s.game fine st) in
      (λ e. (put_for σ h a b q.0 q.1 st e).same, reads_of_cell q.0.0 a (in_first q.1 st), reads_of_cell q.0.1 b (in_second q.1 st))

  kept : (h : Head) (a b : Tree) → head_reads x h ≡ false → put (Node h a b) ≡ Node h (put a) (put b)
  kept h a b e = put_kept g s.game x d fine w.phrase one free h a b e

  nothing_put : put Empty ≡ Empty
  unfolding with_term
  nothing_put = refl

  -- sizes

  pub put_size : (σ : Phrase) (t : Tree) {p : ℕ} {Γ : Context} → Stands s.game p σ Γ t → size (put t) + paid x (size cell) t ≡ size t + paid x (size d.term) t
  unfolding size paid with_term
  put_size σ Empty st = refl
  put_size σ (Node h a b) st =
      let q = has_parts σ h a b (stands_phrase g (is_variable s.game) s.game fine st) in
      go q.0 q.1 (head_reads x h) refl (put_size q.0.0 a (in_first q.1 st)) (put_size q.0.1 b (in_second q.1 st))
    where
      go : (q : Phrase × Phrase) → oracle_parts σ h ≡ Some q → (v : Bool) → head_reads x h ≡ v
          → size (put a) + paid x (size cell) a ≡ size a + paid x (size d.term) a → size (put b) + paid x (size cell) b ≡ size b + paid x (size d.term) b
          → size (put (Node h a b)) + paid x (size cell) (Node h a b) ≡ size (Node h a b) + paid x (size d.term) (Node h a b)
      go q z true e y n =
          let r = put_for σ h a b q z st e in
          let i : size (put (Node h a b)) ≡ size d.term = ap size r.next in
          let j : size (Node h a b) ≡ size cell = ap size r.same in
          let k : paid x (size cell) (Node h a b) ≡ size cell = paid_read x (size cell) h a b e in
          let l : paid x (size d.term) (Node h a b) ≡ size d.term = paid_read x (size d.term) h a b e in
          omega arith
      go q z false e y n =
          let i : size (put (Node h a b)) ≡ weight h + size (put a) + size (put b) = ap size (kept h a b e) in
          let k : paid x (size cell) (Node h a b) ≡ paid x (size cell) a + paid x (size cell) b = paid_kept x (size cell) h a b e in
          let l : paid x (size d.term) (Node h a b) ≡ paid x (size d.term) a + paid x (size d.term) b = paid_kept x (size d.term) h a b e in
          let j : size (Node h a b) ≡ weight h + size a + size b = refl in
          omega arith

  -- equalities

  module _ (fit : is_large_term s d.term ≡ true → is_large_term s cell ≡ true) where
    large_put : (t : Tree) {p : ℕ} {Γ : Context} → Stands s.game p Term Γ t → is_large_term s (put t) ≡ true → is_large_term s t ≡ true
    large_put Empty st l = ap (is_large_term s) (sym nothing_put) ∙ l
    large_put (Node h a b) st l =
        let q = has_parts Term h a b (stands_phrase g (is_variable s.game) s.game fine st) in
        go q.0 q.1 (head_reads x h) refl
      where
        go : (q : Phrase × Phrase) → oracle_parts Term h ≡ Some q → (v : Bool) → head_reads x h ≡ v → is_large_term s (Node h a b) ≡ true
        go q z true e = let r = put_for Term h a b q z st e in ap (is_large_term s) r.same ∙ fit (ap (is_large_term s) (sym r.next) ∙ l)
        go q z false e = large_head s h a b (put a) (put b) ∙ (ap (is_large_term s) (sym (kept h a b e)) ∙ l)

    equality_put : (σ : Phrase) (h : Head) (a b : Tree) (q : Phrase × Phrase) {p : ℕ} {Γ : Context} → oracle_parts σ h ≡ Some q → Stands s.game p σ Γ (Node h a b) → is_large_equality s h (put a) ≡ true → is_large_equality s h a ≡ true
    equality_put σ Eq a b q {p = p} {Γ = Γ} e st l =
        large_put a (subst (λ τ. Stands s.game (p + weight Eq) τ (first_below σ Eq Γ) a) (eq_first σ q e) (in_first e st)) l
    equality_put σ h a b q e st l = l

    pub put_equalities : (σ : Phrase) (t : Tree) {p : ℕ} {Γ : Context} → Stands s.game p σ Γ t → large_equalities s (put t) ≤ large_equalities s t + paid x (large_equalities s d.term) t
    unfolding large_equalities paid with_term
    put_equalities σ Empty st = omega arith
    put_equalities σ (Node h a b) st =
        let q = has_parts σ h a b (stands_phrase g (is_variable s.game) s.game fine st) in
        go q.0 q.1 (head_reads x h) refl (put_equalities q.0.0 a (in_first q.1 st)) (put_equalities q.0.1 b (in_second q.1 st))
      where
        m : ℕ
        m = large_equalities s d.term

        go : (q : Phrase × Phrase) → oracle_parts σ h ≡ Some q → (v : Bool) → head_reads x h ≡ v
            → large_equalities s (put a) ≤ large_equalities s a + paid x m a → large_equalities s (put b) ≤ large_equalities s b + paid x m b
            → large_equalities s (put (Node h a b)) ≤ large_equalities s (Node h a b) + paid x m (Node h a b)
        go q z true e y n =
            let i : large_equalities s (put (Node h a b)) ≡ m = ap (large_equalities s) (put_for σ h a b q z st e).next in
            let l : paid x m (Node h a b) ≡ m = paid_read x m h a b e in
            omega arith
        go q z false e y n =
            let i : large_equalities s (put (Node h a b)) ≡ counted s h (put a) + (large_equalities s (put a) + large_equalities s (put b)) = ap (large_equalities s) (kept h a b e) in
            let j : large_equalities s (Node h a b) ≡ counted s h a + (large_equalities s a + large_equalities s b) = refl in
            let k : counted s h (put a) ≤ counted s h a = one_if_less (is_large_equality s h (put a)) (is_large_equality s h a) (equality_put σ h a b q z st) in
            let l : paid x m (Node h a b) ≡ paid x m a + paid x m b = paid_kept x m h a b e in
            omega arith

  -- the term itself doesn't read the variable

  unread_or : (σ : Phrase) (t : Tree) {p : ℕ} {Γ : Context} → Stands s.game p σ Γ t → (reads_none (only x) t ≡ true) ⊎ (reads_none (only x) d.term ≡ true)
  unfolding reads_only
  unread_or σ Empty st = inl refl
  unread_or σ (Node h a b) st =
      let q = has_parts σ h a b (stands_phrase g (is_variable s.game) s.game fine st) in
      go q.0 q.1 (head_reads x h) refl (unread_or q.0.0 a (in_first q.1 st)) (unread_or q.0.1 b (in_second q.1 st))
    where
      go : (q : Phrase × Phrase) → oracle_parts σ h ≡ Some q → (v : Bool) → head_reads x h ≡ v
          → (reads_none (only x) a ≡ true) ⊎ (reads_none (only x) d.term ≡ true) → (reads_none (only x) b ≡ true) ⊎ (reads_none (only x) d.term ≡ true)
          → ((head_reads_only (λ y. not (only x y)) h && (reads_none (only x) a && reads_none (only x) b)) ≡ true) ⊎ (reads_none (only x) d.term ≡ true)
      go q z true e y n = inr (put_for σ h a b q z st e).unread
      go q z false e (inr y) n = inr y
      go q z false e (inl y) (inr n) = inr n
      go q z false e (inl y) (inl n) = inl (ap₂ ◌&&◌ (unread_head x h e) (ap₂ ◌&&◌ y n))

  untouched : (t : Tree) → reads_none (only x) t ≡ true → put t ≡ t
  unfolding reads_only
  untouched Empty e = nothing_put
  untouched (Node h a b) e =
      let p = and_parts (head_reads_only (λ y. not (only x y)) h) _ e in
      let q = and_parts (reads_none (only x) a) _ p.1 in
      kept h a b (head_unread x h p.0) ∙ ap₂ (Node h) (untouched a q.0) (untouched b q.1)

  pub term_untouched : (t : Tree) (T : ℕ) (c : Tree) {p : ℕ} {σ : Phrase} {Γ : Context} → Stands s.game p σ Γ (Node (Let x T) t c) → t ≡ d.term → put t ≡ t
  term_untouched t T c {σ = σ} st e =
      let q = has_parts σ (Let x T) t c (stands_phrase g (is_variable s.game) s.game fine st) in
      untouched t (elim (unread_or q.0.0 t (in_first q.1 st)) [ inl k ↦ k | inr k ↦ (ap (reads_none (only x)) e ∙ k) ])

  -- the definition stays until it is dropped

  pub definition_put : (T : ℕ) (m c : Tree) (σ : Phrase) (t : Tree) {p : ℕ} {Γ : Context} → Stands s.game p σ Γ t → IsIn (Node (Let x T) m c) t → IsIn (Node (Let x T) (put m) (put c)) (put t)
  definition_put T m c σ t st itself = subst (IsIn (Node (Let x T) (put m) (put c))) (sym (kept (Let x T) m c refl)) itself
  definition_put T m c σ t st (first_in {h = h} {a = a} {b = b} i) =
      let q = has_parts σ h a b (stands_phrase g (is_variable s.game) s.game fine st) in
      go q.0 q.1 (head_reads x h) refl (definition_put T m c q.0.0 a (in_first q.1 st) i)
    where
      go : (q : Phrase × Phrase) → oracle_parts σ h ≡ Some q → (v : Bool) → head_reads x h ≡ v → IsIn (Node (Let x T) (put m) (put c)) (put a) → IsIn (Node (Let x T) (put m) (put c)) (put (Node h a b))
      go q z true e y = absurd (both_ways false refl (still_inside (Node (Let x T) m c) (Node h a b) (first_in i) (term_still (Node h a b) (put_for σ h a b q z st e).before)))
      go q z false e y = subst (IsIn (Node (Let x T) (put m) (put c))) (sym (kept h a b e)) (first_in y)
  definition_put T m c σ t st (second_in {h = h} {a = a} {b = b} i) =
      let q = has_parts σ h a b (stands_phrase g (is_variable s.game) s.game fine st) in
      go q.0 q.1 (head_reads x h) refl (definition_put T m c q.0.1 b (in_second q.1 st) i)
    where
      go : (q : Phrase × Phrase) → oracle_parts σ h ≡ Some q → (v : Bool) → head_reads x h ≡ v → IsIn (Node (Let x T) (put m) (put c)) (put b) → IsIn (Node (Let x T) (put m) (put c)) (put (Node h a b))
      go q z true e y = absurd (both_ways false refl (still_inside (Node (Let x T) m c) (Node h a b) (second_in i) (term_still (Node h a b) (put_for σ h a b q z st e).before)))
      go q z false e y = subst (IsIn (Node (Let x T) (put m) (put c))) (sym (kept h a b e)) (second_in y)

  -- sites stay

  pub put_sites : (y : ℕ) (σ : Phrase) (t : Tree) {p : ℕ} {Γ : Context} → Stands s.game p σ Γ t → site_sort y (put t) ≡ site_sort y t
  unfolding site_sort with_term
  put_sites y σ Empty st = refl
  put_sites y σ (Node h a b) st =
      let q = has_parts σ h a b (stands_phrase g (is_variable s.game) s.game fine st) in
      go q.0 q.1 (head_reads x h) refl (put_sites y q.0.0 a (in_first q.1 st)) (put_sites y q.0.1 b (in_second q.1 st))
    where
      phrase : is_phrase σ (Node h a b) ≡ true
      phrase = plain g s.game x d fine w.phrase one free st

      go : (q : Phrase × Phrase) → oracle_parts σ h ≡ Some q → (v : Bool) → head_reads x h ≡ v → site_sort y (put a) ≡ site_sort y a → site_sort y (put b) ≡ site_sort y b → site_sort y (put (Node h a b)) ≡ site_sort y (Node h a b)
      go q z true e k n =
          let r = put_for σ h a b q z st e in
          ap (site_sort y) r.next ∙ (still_sites y d.term (term_still d.term r.term) ∙ sym (still_sites y (Node h a b) (term_still (Node h a b) r.before)))
      go q z false e k n =
          let o = open_phrase σ h a b phrase in
          ap (site_sort y) (kept h a b e)
          ∙ ap₂ first_of (here_of_names y h (put a) a (λ i. put_bare x d o.0.0 a (names_bare σ h o.0 o.1 i) o.2)) (ap₂ first_of k n)

  -- how often it is read
  pub paid_reads : (σ : Phrase) (t : Tree) {p : ℕ} {Γ : Context} → Stands s.game p σ Γ t → paid x 1 t ≤ reads_in x (position_of σ) t
  unfolding paid reads_in
  paid_reads σ Empty st = omega arith
  paid_reads σ (Node h a b) st =
      let q = has_parts σ h a b (stands_phrase g (is_variable s.game) s.game fine st) in
      let v = placed σ q.0.0 q.0.1 h q.1 in
      go q.0 q.1 (head_reads x h) refl
      (subst (λ u. paid x 1 a ≤ reads_in x u a) (sym v.0) (paid_reads q.0.0 a (in_first q.1 st)))
      (subst (λ u. paid x 1 b ≤ reads_in x u b) (sym v.1) (paid_reads q.0.1 b (in_second q.1 st)))
    where
      u : Position
      u = position_of σ

      read_here : (σ : Phrase) → σ ≡ Term → head_reads x h ≡ true → is_read_here x (position_of σ) h ≡ true
      read_here σ e f = ap (λ τ. is_read_here x (position_of τ) h) e ∙ f

      go : (q : Phrase × Phrase) → oracle_parts σ h ≡ Some q → (v : Bool) → head_reads x h ≡ v → paid x 1 a ≤ reads_in x (first_position u h) a → paid x 1 b ≤ reads_in x (second_position u h) b
          → paid x 1 (Node h a b) ≤ one_if (is_read_here x u h) + (reads_in x (first_position u h) a + reads_in x (second_position u h) b)
      go q z true e y n =
          let i : paid x 1 (Node h a b) ≡ 1 = paid_read x 1 h a b e in
          let j : one_if (is_read_here x u h) ≡ 1 = ap one_if (read_here σ (read_as_term σ h a b q z st e) e) in
          omega arith
      go q z false e y n =
          let i : paid x 1 (Node h a b) ≡ paid x 1 a + paid x 1 b = paid_kept x 1 h a b e in
          omega arith
