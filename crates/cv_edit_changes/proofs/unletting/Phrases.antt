-- A game without a `let`, with the term in place of each read, in one walk: no index term has a definition in it.
use Rattle.std.proofs.Common.{◌≡◌, ℕ, Bool, true, false, cond, List, map, Some, refl, sym, ap, ap₂, ◌∙◌}
use Rattle.std.proofs.lemmas.Bool.{both_ways}
use Rattle.cv_syntax_trees.specs.declared.head.Head.{Head}
use Rattle.cv_syntax_trees.specs.declared.head.Head.TheVariants.{Leaf, Read}
use Rattle.cv_syntax_trees.specs.Tree.{Tree, Empty, Node}
use Rattle.cv_meaning.specs.Still.{defines}
use Rattle.cv_scope_rules.specs.Phrases.{Phrase, Inputs, Nil, OneCell, Term, Terms, is_phrase, parts}
use Rattle.cv_scene.specs.lines.Given.{with_given}
use Rattle.cv_scene.specs.Scenes.{head_reads}
use Rattle.cv_steps.specs.Changes.{only, without}
use Rattle.cv_steps.specs.Unletting.{Assignment, with_term, without_assignment}
use Rattle.cv_steps.proofs.Flat.{flat_dropped, is_flat, open_phrase}
use Rattle.cv_edit_changes.specs.unletting.Putting.{put_in}

-- a node that reads a variable defines none, and has index terms alone

reads_alone : (x : ℕ) (xs : ℕ → Bool) (h : Head) → head_reads x h ≡ true → defines xs h ≡ false
reads_alone x xs (Leaf y) r = refl
reads_alone x xs (Read y) r = refl
reads_alone x xs h r = absurd (both_ways _ refl r)

of_parts : (p q : Phrase × Phrase) → Some p ≡ Some q → is_flat p.0 ≡ is_flat q.0
of_parts p q e = let f : p ≡ q = cc in ap (λ (r : Phrase × Phrase). is_flat r.0) f

index_terms : (x : ℕ) (σ : Phrase) (h : Head) (q : Phrase × Phrase) → head_reads x h ≡ true → parts σ h ≡ Some q → is_flat q.0 ≡ true
index_terms x Term (Leaf y) q r e = sym (of_parts (Nil, Nil) q e)
index_terms x Term (Read y) q r e = sym (of_parts (Terms, Nil) q e)
index_terms x OneCell (Leaf y) q r e = sym (of_parts (Nil, Nil) q e)
index_terms x OneCell (Read y) q r e = sym (of_parts (Terms, Nil) q e)
index_terms x σ (Leaf y) q r e = absurd (let z = e in cc)
index_terms x σ (Read y) q r e = absurd (let z = e in cc)
index_terms x σ h q r e = absurd (both_ways _ refl r)

module _ (x : ℕ) (d : Assignment) where
  abbrev names : List ℕ
  names = map (λ (r : ℕ × ℕ). r.0) d.behind.replications

  put_same : (σ : Phrase) (t : Tree) → is_phrase σ t ≡ true → put_in x names d.term t ≡ with_term x d (without (only x) t)
  unfolding put_in with_term without
  put_same σ Empty f = refl
  put_same σ (Node h a b) f =
      let o = open_phrase σ h a b f in
      go (head_reads x h) refl (defines (only x) h) refl o.0 o.1 o.2 (put_same o.0.0 a o.2) (put_same o.0.1 b o.3)
    where
      go : (v : Bool) → head_reads x h ≡ v → (w : Bool) → defines (only x) h ≡ w → (q : Phrase × Phrase) → parts σ h ≡ Some q → is_phrase q.0 a ≡ true
          → put_in x names d.term a ≡ with_term x d (without (only x) a) → put_in x names d.term b ≡ with_term x d (without (only x) b)
          → cond v (with_given names a d.term) (cond w (put_in x names d.term b) (Node h (put_in x names d.term a) (put_in x names d.term b))) ≡ with_term x d (cond w (without (only x) b) (Node h (without (only x) a) (without (only x) b)))
      go true r true w q e i k l = absurd (both_ways _ (reads_alone x (only x) h r) w)
      go true r false w q e i k l =
          ap (λ u. with_given names u d.term) (sym (flat_dropped (only x) q.0 a (index_terms x σ h q r e) i))
          ∙ ap (λ v. cond v (with_given names (without (only x) a) d.term) (Node h (with_term x d (without (only x) a)) (with_term x d (without (only x) b)))) (sym r)
      go false r true w q e i k l = l
      go false r false w q e i k l = ap₂ (Node h) k l ∙ ap (λ v. cond v (with_given names (without (only x) a) d.term) (Node h (with_term x d (without (only x) a)) (with_term x d (without (only x) b)))) (sym r)

  -- the whole game, by the names and the term that the code has
  pub game_same : (is : List ℕ) (m game : Tree) → is ≡ names → m ≡ d.term → is_phrase Inputs game ≡ true → put_in x is m game ≡ without_assignment x d game
  game_same is m game e f g = ap₂ (λ ns u. put_in x ns u game) e f ∙ put_same Inputs game g
