-- In a phrase of terms all names are there, and it is typed, exactly where each node is so by itself.
use Rattle.std.proofs.Common.{◌≡◌, ℕ, ◌+◌, Bool, true, false, not, ◌&&◌, Option, Some, None, refl, ap, ap₂, ◌∙◌}
use Rattle.std.specs.Prelude.{◌||◌, is_some}
use Rattle.std.proofs.lemmas.Bool.{and_parts}
use Rattle.cv_syntax_trees.specs.declared.head.Head.{Head}
use Rattle.cv_syntax_trees.specs.declared.head.Head.TheVariants as head
use Rattle.cv_syntax_trees.specs.Head.{weight}
use Rattle.cv_syntax_trees.specs.Tree.{Tree, Empty, Node, size}
use Rattle.cv_syntax.specs.faults.Walk.{first_of, placed}
use Rattle.cv_scope_rules.specs.typing.Signature.{Signature, Above}
use Rattle.cv_scope_rules.specs.typing.Typing.{fault_of, first_fault}
use Rattle.cv_scope_rules.specs.typing.Wants.{Want, above_second, wants}
use Rattle.cv_scope_rules.proofs.typing.Steps.{fault_end, fault_parts}
use Rattle.cv_scope_rules.specs.Phrases.{Phrase, Nil, Terms, Term, OneCell, both_are, is_phrase, parts}
use Rattle.cv_scene.specs.Terms.{Names, head_is_there, is_there}
use Rattle.cv_derive_lines.specs.terms.Typed.{is_known_cell, is_known_head, is_typed_tree}

-- tests of a node and of its parts

none_of : {A : Type 0} (p : ℕ) (o : Option A) (x y : Option (ℕ × A)) → not (is_some (first_of (placed p o) (first_of x y))) ≡ (not (is_some o) && (not (is_some x) && not (is_some y)))
none_of p None None y = refl
none_of p None (Some x) y = refl
none_of p (Some o) x y = refl

paired : (k f ta tb fa fb : Bool) → ((k && (ta && tb)) && (f && (fa && fb))) ≡ ((k && f) && ((ta && fa) && (tb && fb)))
paired false f ta tb fa fb = refl
paired true true true true fa fb = refl
paired true true true false true fb = refl
paired true true true false false fb = refl
paired true true false tb fa fb = refl
paired true false true true fa fb = refl
paired true false true false fa fb = refl
paired true false false tb fa fb = refl

-- phrases of terms

abbrev of_terms : Phrase → Bool
of_terms Nil = true
of_terms Terms = true
of_terms Term = true
of_terms σ = false

module _ (known : Names) (e : Signature) (above : Above) where
  abbrev typed : Want → Tree → Bool
  typed w t = is_typed_tree known e above w t

  abbrev pub both : Phrase → Want → ℕ → Tree → Bool
  both σ w p t = is_there known σ t && not (is_some (first_fault e above w p t))

  -- the parts of a phrase of terms are such phrases, and nothing is bound
  abbrev AreTerms : Phrase → Head → Option (Phrase × Phrase) → Type 0
  AreTerms σ h None = Unit {0}
  AreTerms σ h (Some q) = (of_terms q.0 ≡ true) × (of_terms q.1 ≡ true) × (head_is_there known σ h ≡ is_known_head known h) × ((w : Want) (a : Tree) → above ≡ above_second w h a above)

  are_terms : (σ : Phrase) (h : Head) → of_terms σ ≡ true → AreTerms σ h (parts σ h)
  are_terms Nil h o = tt
  are_terms Terms head.Cons o = (refl, refl, refl, λ w a. refl)
  are_terms Terms h o = tt
  are_terms Term (head.Leaf x) o = (refl, refl, refl, λ w a. refl)
  are_terms Term (head.Read x) o = (refl, refl, refl, λ w a. refl)
  are_terms Term (head.Apply f) o = (refl, refl, refl, λ w a. refl)
  are_terms Term head.Eq o = (refl, refl, refl, λ w a. refl)
  are_terms Term head.And o = (refl, refl, refl, λ w a. refl)
  are_terms Term head.Or o = (refl, refl, refl, λ w a. refl)
  are_terms Term head.Not o = (refl, refl, refl, λ w a. refl)
  are_terms Term head.Yes o = (refl, refl, refl, λ w a. refl)
  are_terms Term head.No o = (refl, refl, refl, λ w a. refl)
  are_terms Term h o = tt
  are_terms σ h o = absurd (cc)

  abbrev Same : Tree → Type 0
  Same t = (σ : Phrase) (w : Want) (p : ℕ) → of_terms σ ≡ true → is_phrase σ t ≡ true → both σ w p t ≡ typed w t

  -- a node, by its parts, where its own names are tested by k
  node_same : (k : Bool) (q : Phrase × Phrase) (w : Want) (p : ℕ) (h : Head) (a b : Tree) → of_terms q.0 ≡ true → of_terms q.1 ≡ true → above ≡ above_second w h a above → (is_phrase q.0 a && is_phrase q.1 b) ≡ true → Same a → Same b
      → ((k && (is_there known q.0 a && is_there known q.1 b)) && not (is_some (first_fault e above w p (Node h a b)))) ≡ ((k && not (is_some (fault_of e above w h a))) && (typed (wants e above w h a).0 a && typed (wants e above w h a).1 b))
  node_same k q w p h a b o1 o2 n f ra rb =
      let g = and_parts (is_phrase q.0 a) _ f in
      let found = fault_parts e above w p (Node h a b) h a b (fault_of e above w h a) (wants e above w h a) (p + weight h) (p + weight h + size a) above refl refl refl refl refl n in
      ap (λ o. (k && (is_there known q.0 a && is_there known q.1 b)) && not (is_some o)) found
      ∙ (ap (λ c. (k && (is_there known q.0 a && is_there known q.1 b)) && c) (none_of p (fault_of e above w h a) (first_fault e above (wants e above w h a).0 (p + weight h) a) (first_fault e above (wants e above w h a).1 (p + weight h + size a) b))
      ∙ (paired k (not (is_some (fault_of e above w h a))) (is_there known q.0 a) (is_there known q.1 b) (not (is_some (first_fault e above (wants e above w h a).0 (p + weight h) a))) (not (is_some (first_fault e above (wants e above w h a).1 (p + weight h + size a) b)))
      ∙ ap₂ (λ x y. (k && not (is_some (fault_of e above w h a))) && (x && y)) (ra q.0 (wants e above w h a).0 (p + weight h) o1 g.0) (rb q.1 (wants e above w h a).1 (p + weight h + size a) o2 g.1)))

  parts_same : (σ : Phrase) (o : Option (Phrase × Phrase)) (w : Want) (p : ℕ) (h : Head) (a b : Tree) → AreTerms σ h o → both_are o (λ τ. is_phrase τ a) (λ ρ. is_phrase ρ b) ≡ true → Same a → Same b
      → ((head_is_there known σ h && both_are o (λ τ. is_there known τ a) (λ ρ. is_there known ρ b)) && not (is_some (first_fault e above w p (Node h a b)))) ≡ ((is_known_head known h && not (is_some (fault_of e above w h a))) && (typed (wants e above w h a).0 a && typed (wants e above w h a).1 b))
  parts_same σ None w p h a b t f ra rb = absurd (cc)
  parts_same σ (Some q) w p h a b t f ra rb =
      ap (λ k. (k && (is_there known q.0 a && is_there known q.1 b)) && not (is_some (first_fault e above w p (Node h a b)))) t.2 ∙ node_same (is_known_head known h) q w p h a b t.0 t.1 (t.3 w a) f ra rb

  pub phrase_same : (t : Tree) → Same t
  unfolding is_there is_phrase is_typed_tree
  phrase_same Empty σ w p o f = ap (λ x. not (is_some x)) (fault_end e above w p Empty refl)
  phrase_same (Node h a b) σ w p o f = parts_same σ (parts σ h) w p h a b (are_terms σ h o) f (phrase_same a) (phrase_same b)

  pub term_same : (w : Want) (t : Tree) → is_phrase Term t ≡ true → both Term w 0 t ≡ typed w t
  term_same w t f = phrase_same t Term w 0 refl f

  -- cells

  only_variable : (v i f c d : Bool) → ((v && c) && d) ≡ (v && (((i || (f || v)) && c) && d))
  only_variable false i f c d = refl
  only_variable true true f c d = refl
  only_variable true false true c d = refl
  only_variable true false false c d = refl

  pub cell_same : (w : Want) (t : Tree) → is_phrase OneCell t ≡ true → both OneCell w 0 t ≡ (is_known_cell known.variable t && typed w t)
  unfolding is_there is_phrase is_typed_tree
  cell_same w Empty f = absurd (cc)
  cell_same w (Node (head.Leaf x) a b) f = node_same (known.variable x) (Nil, Nil) w 0 (head.Leaf x) a b refl refl refl f (phrase_same a) (phrase_same b) ∙ only_variable (known.variable x) (known.index x) (known.function x) _ _
  cell_same w (Node (head.Read x) a b) f = node_same (known.variable x) (Terms, Nil) w 0 (head.Read x) a b refl refl refl f (phrase_same a) (phrase_same b)
  cell_same w (Node h a b) f = absurd (cc)
