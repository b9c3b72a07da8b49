-- Where the facts that are known hold, terms have their values with the term in place of each read of the variable.
use Rattle.std.proofs.Common.{◌≡◌, ℕ, ◌==◌, ◌&&◌, ◌||◌, not, Bool, true, false, List, [], ◌∷◌, inl, inr, is_some, refl, sym, ap, ap₂, subst, ◌∙◌, eqb-true}
use Rattle.std.proofs.lemmas.Bool.{both_ways}
use Rattle.std.specs.List.{AllByRecursion}
use Rattle.cv_syntax_trees.specs.declared.head.Head.{Head}
use Rattle.cv_syntax_trees.specs.declared.head.Head.TheVariants.{Leaf, Read, Apply, Eq, And, Or, Not, Yes, No, Cons}
use Rattle.cv_syntax_trees.specs.Tree.{Tree, Empty, Node, second}
use Rattle.cv_meaning.specs.Candidates.{are_assigned, is_assigned}
use Rattle.cv_meaning.specs.Interpretation.{Setting}
use Rattle.cv_meaning.specs.Memory.{Indices, Store}
use Rattle.cv_meaning.specs.Terms.{bit, is_one, or_zero, value, values}
use Rattle.cv_scope_rules.specs.Context.{Context}
use Rattle.cv_scope_rules.specs.Phrases.{Phrase, Inputs, Message, Cells, OneCell, Terms, Term, is_phrase}
use Rattle.cv_scope_rules.specs.Rules.{IsAmong}
use Rattle.cv_scope_rules.specs.Scope.{is_variable}
use Rattle.cv_scope_runs.proofs.Games.{Game}
use Rattle.cv_scope_runs.proofs.Standing.{Stands, in_first, in_second}
use Rattle.cv_scene.specs.Scenes.{head_reads}
use Rattle.cv_steps.specs.Unletting.{Assignment, is_listed, with_term}
use Rattle.cv_steps_derivations.proofs.unletting.Lists.{unlisted}
use Rattle.cv_steps_derivations.proofs.unletting.Puts.{put_kept, put_read}
use Rattle.cv_steps_derivations.proofs.unletting.Reach.{plain}
use Rattle.cv_steps_derivations.proofs.unletting.Sites.{OneDefinition}
use Rattle.cv_steps_derivations.proofs.unletting.Told.{told}
use Rattle.cv_steps_derivations.proofs.rewriting.Keeping.{sides_equal}

among_true : (P : Tree → Type 0) (f : Tree) (fs : List Tree) → IsAmong f fs → AllByRecursion P fs → P f
among_true P f [] i k = absurd i
among_true P f (c ∷ fs) (inl i) k = subst P (sym i) k.0
among_true P f (c ∷ fs) (inr i) k = among_true P f fs i k.1

module _ (g : Setting) (game : Tree) (x : ℕ) (d : Assignment) (fine : Game g (is_variable game) game) (well : is_phrase Inputs game ≡ true) (one : OneDefinition game x d) (free : is_listed x game ≡ false) (at : Indices) (n : Store) where
  -- the facts that are known hold in the store
  abbrev pub AreTrue : Context → Type 0
  AreTrue Γ = AllByRecursion (λ f. value g at n f ≡ 1) Γ.facts

  abbrev pub SameValues : Phrase → Tree → Tree → Type 0
  SameValues Term t u = value g at n t ≡ value g at n u
  SameValues Terms t u = values g at n t ≡ values g at n u
  SameValues Message t u = values g at n (second t) ≡ values g at n (second u)
  SameValues σ t u = Unit {0}

  read_same : {p : ℕ} {Γ : Context} {h : Head} {a b : Tree} → Stands game p Term Γ (Node h a b) → head_reads x h ≡ true → AreTrue Γ → value g at n (Node h a b) ≡ value g at n (with_term x d (Node h a b))
  read_same {Γ = Γ} {h = h} {a = a} {b = b} st e k =
      let t = told g game x d fine well one free st e in
      sides_equal g at n (Node h a b) d.term (among_true (λ f. value g at n f ≡ 1) (Node Eq (Node h a b) d.term) Γ.facts t.fact k)
      ∙ ap (value g at n) (sym (put_read g game x d fine well one free st e))

  node_kept : (h : Head) (a b : Tree) → head_reads x h ≡ false → value g at n (Node h (with_term x d a) (with_term x d b)) ≡ value g at n (with_term x d (Node h a b))
  node_kept h a b e = ap (value g at n) (sym (put_kept g game x d fine well one free h a b e))

  pub same_values : (σ : Phrase) (t : Tree) {p : ℕ} {Γ : Context} → Stands game p σ Γ t → AreTrue Γ → SameValues σ t (with_term x d t)
  unfolding with_term value is_phrase
  same_values Term (Node (Leaf y) a b) st k = go (y == x) refl
    where
      go : (v : Bool) → (y == x) ≡ v → value g at n (Node (Leaf y) a b) ≡ value g at n (with_term x d (Node (Leaf y) a b))
      go true e = read_same st e k
      go false e = node_kept (Leaf y) a b e
  same_values Term (Node (Read y) a b) st k = go (y == x) refl (same_values Terms a (in_first refl st) k)
    where
      go : (v : Bool) → (y == x) ≡ v → values g at n a ≡ values g at n (with_term x d a) → value g at n (Node (Read y) a b) ≡ value g at n (with_term x d (Node (Read y) a b))
      go true e z = read_same st e k
      go false e z = ap (λ vs. or_zero (n y vs)) z ∙ node_kept (Read y) a b e
  same_values Term (Node (Apply f) a b) st k = ap (g.interpretation.table f) (same_values Terms a (in_first refl st) k)
  same_values Term (Node Eq a b) st k = ap₂ (λ v w. bit (v == w)) (same_values Term a (in_first refl st) k) (same_values Term b (in_second refl st) k)
  same_values Term (Node And a b) st k = ap₂ (λ v w. bit (is_one v && is_one w)) (same_values Term a (in_first refl st) k) (same_values Term b (in_second refl st) k)
  same_values Term (Node Or a b) st k = ap₂ (λ v w. bit (is_one v || is_one w)) (same_values Term a (in_first refl st) k) (same_values Term b (in_second refl st) k)
  same_values Term (Node Not a b) st k = ap (λ v. bit (not (is_one v))) (same_values Term a (in_first refl st) k)
  same_values Term (Node Yes a b) st k = refl
  same_values Term (Node No a b) st k = refl
  same_values Term t st k = absurd (both_ways false refl (plain g game x d fine well one free st))
  same_values Terms Empty st k = refl
  same_values Terms (Node Cons a b) st k = ap₂ ◌∷◌ (same_values Term a (in_first refl st) k) (same_values Terms b (in_second refl st) k)
  same_values Terms t st k = absurd (both_ways false refl (plain g game x d fine well one free st))
  same_values Message (Node Cons a b) st k = same_values Terms b (in_second refl st) k
  same_values Message t st k = absurd (both_ways false refl (plain g game x d fine well one free st))
  same_values σ t st k = tt

  -- cells of a `defined` list

  same_cell : (m : Store) (c : Tree) {p : ℕ} {Γ : Context} → Stands game p OneCell Γ c → AreTrue Γ → is_assigned g at m n c ≡ is_assigned g at m n (with_term x d c)
  unfolding is_phrase
  same_cell m (Node (Leaf y) a b) st k = ap (is_assigned g at m n) (sym (put_kept g game x d fine well one free (Leaf y) a b (unlisted x game free st)))
  same_cell m (Node (Read y) a b) st k =
      ap (λ vs. is_some (m y vs)) (same_values Terms a (in_first refl st) k)
      ∙ ap (is_assigned g at m n) (sym (put_kept g game x d fine well one free (Read y) a b (unlisted x game free st)))
  same_cell m c st k = absurd (both_ways false refl (plain g game x d fine well one free st))

  pub same_cells : (m : Store) (t : Tree) {p : ℕ} {Γ : Context} → Stands game p Cells Γ t → AreTrue Γ → are_assigned g at m n t ≡ are_assigned g at m n (with_term x d t)
  unfolding with_term is_phrase
  same_cells m Empty st k = refl
  same_cells m (Node Cons c more) st k = ap₂ (λ (v w : Bool). elim v [ true ↦ w | false ↦ false ]) (same_cell m c (in_first refl st) k) (same_cells m more (in_second refl st) k)
  same_cells m t st k = absurd (both_ways false refl (plain g game x d fine well one free st))
