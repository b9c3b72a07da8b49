-- Each read of the variable is at the indices of its definition, so the term stands there as it was assigned.
use Rattle.std.proofs.Common.{◌≡◌, ℕ, ◌==◌, Bool, true, false, cond, List, [], Some, None, refl, sym, ap, ap₂, ◌∙◌}
use Rattle.std.proofs.lemmas.Bool.{both_ways}
use Rattle.cv_syntax_trees.specs.Declarations.{Declaration}
use Rattle.cv_syntax_trees.specs.declared.head.Head.{Head}
use Rattle.cv_syntax_trees.specs.declared.head.Head.TheVariants.{Leaf, Read}
use Rattle.cv_syntax_trees.specs.Tree.{Tree, Empty, Node}
use Rattle.cv_meaning.specs.Interpretation.{Setting, is_constant_of}
use Rattle.cv_meaning.specs.Side.{no_side}
use Rattle.cv_meaning.specs.Still.{defines}
use Rattle.cv_scope_rules.specs.Context.{Context, nothing_known}
use Rattle.cv_scope_rules.specs.Phrases.{Phrase, Inputs, OneCell, Term, IsWellFormed, is_phrase, parts}
use Rattle.cv_scope_rules.specs.Scope.{is_variable}
use Rattle.cv_scope_runs.proofs.FactsRuns.{well_game}
use Rattle.cv_scope_runs.proofs.Games.{Game}
use Rattle.cv_scope_runs.proofs.Plain.{game_context}
use Rattle.cv_scope_runs.proofs.Standing.{Stands, root, in_first, in_second}
use Rattle.cv_scene.specs.lines.Given.{given_for, or_node, with_given}
use Rattle.cv_scene.specs.Scenes.{head_reads}
use Rattle.cv_scene.specs.Sights.{at_cell}
use Rattle.cv_steps.specs.Changes.{only, without}
use Rattle.cv_steps.specs.Unletting.{Assignment, is_listed, only_assignment, with_term, without_assignment}
use Rattle.cv_steps.proofs.Flat.{flat_dropped, open_phrase}
use Rattle.cv_steps_laws.proofs.Sorts.{oracle_of_parts}
use Rattle.cv_steps_derivations.proofs.unletting.Lists.{unlisted}
use Rattle.cv_steps_derivations.proofs.unletting.Puts.{put_kept, put_read}
use Rattle.cv_steps_derivations.proofs.unletting.Reach.{plain}
use Rattle.cv_steps_derivations.proofs.unletting.Sites.{OneDefinition, only_definition}

-- the same term, below no replications
abbrev copied : Assignment → Assignment
copied d = record { term = d.term; behind = nothing_known }

none_given : (terms : Tree) (h : Head) → given_for [] terms h ≡ None
none_given terms (Leaf y) = refl
none_given terms h = refl

no_names : (terms t : Tree) → with_given [] terms t ≡ t
unfolding with_given
no_names terms Empty = refl
no_names terms (Node h a b) = ap (λ o. or_node o h (with_given [] terms a) (with_given [] terms b)) (none_given terms h) ∙ ap₂ (Node h) (no_names terms a) (no_names terms b)

module _ (x : ℕ) (d : Assignment) where
  copied_read : (h : Head) (a b : Tree) → head_reads x h ≡ true → with_term x (copied d) (Node h a b) ≡ d.term
  unfolding with_term
  copied_read h a b e = ap (λ v. cond v (at_cell (Node h a b) nothing_known d.term) (Node h (with_term x (copied d) a) (with_term x (copied d) b))) e ∙ no_names a d.term

  copied_kept : (h : Head) (a b : Tree) → head_reads x h ≡ false → with_term x (copied d) (Node h a b) ≡ Node h (with_term x (copied d) a) (with_term x (copied d) b)
  unfolding with_term
  copied_kept h a b e = ap (λ v. cond v (at_cell (Node h a b) nothing_known d.term) (Node h (with_term x (copied d) a) (with_term x (copied d) b))) e

module _ (g : Setting) (game : Tree) (x : ℕ) (d : Assignment) (fine : Game g (is_variable game) game) (well : is_phrase Inputs game ≡ true) (one : OneDefinition game x d) (free : is_listed x game ≡ false) where
  abbrev IsCopied : Tree → Type 0
  IsCopied t = with_term x d (without (only x) t) ≡ with_term x (copied d) (without (only x) t)

  copied_here : (σ : Phrase) (h : Head) (a b : Tree) {p : ℕ} {Γ : Context} → (q : Phrase × Phrase) → parts σ h ≡ Some q → Stands game p σ Γ (Node h a b) → head_reads x h ≡ true → IsCopied (Node h a b)
  copied_here Term h a b q e st f =
      let same : without (only x) (Node h a b) ≡ Node h a b = flat_dropped (only x) Term (Node h a b) refl (plain g game x d fine well one free st) in
      ap (with_term x d) same ∙ put_read g game x d fine well one free st f ∙ sym (copied_read x d h a b f) ∙ ap (with_term x (copied d)) (sym same)
  copied_here OneCell (Leaf y) a b q e st f = absurd (both_ways (y == x) (unlisted x game free st) f)
  copied_here OneCell (Read y) a b q e st f = absurd (both_ways (y == x) (unlisted x game free st) f)
  copied_here σ (Leaf y) a b q e st f = absurd (cc)
  copied_here σ (Read y) a b q e st f = absurd (cc)
  copied_here σ h a b q e st f = absurd (both_ways false refl f)

  copies : (σ : Phrase) (t : Tree) {p : ℕ} {Γ : Context} → Stands game p σ Γ t → IsCopied t
  unfolding without with_term
  copies σ Empty st = refl
  copies σ (Node h a b) st =
      let o = open_phrase σ h a b (plain g game x d fine well one free st) in
      let e = oracle_of_parts σ h o.0 o.1 in
      go (head_reads x h) refl o.0 o.1 (copies o.0.0 a (in_first e st)) (copies o.0.1 b (in_second e st))
    where
      go : (v : Bool) → head_reads x h ≡ v → (o : Phrase × Phrase) → parts σ h ≡ Some o → IsCopied a → IsCopied b → IsCopied (Node h a b)
      go true e o f y z = copied_here σ h a b o f st e
      go false e o f y z = drop (defines (only x) h)
        where
          less : Tree → Tree
          less t = without (only x) t

          drop : (v : Bool) → with_term x d (cond v (less b) (Node h (less a) (less b))) ≡ with_term x (copied d) (cond v (less b) (Node h (less a) (less b)))
          drop true = z
          drop false = put_kept g game x d fine well one free h (less a) (less b) e ∙ ap₂ (Node h) y z ∙ sym (copied_kept x d h (less a) (less b) e)

-- an interpretation for the laws of scope, which don't ask for any
abbrev any : List Declaration → Setting
any ds = record { interpretation = record { type_size = λ T. 0; parameter_value = λ n. 0; table = λ f vs. 0; choices = 0 }; is_constant = is_constant_of ds; side = no_side }

pub copied_game : (ds : List Declaration) (game : Tree) (x : ℕ) (d : Assignment) → IsWellFormed ds game → only_assignment game x ≡ Some d → is_listed x game ≡ false → without_assignment x d game ≡ without_assignment x (record { term = d.term; behind = nothing_known }) game
copied_game ds game x d w e f = copies (any ds) game x d (well_game ds (any ds) game refl (game_context ds game w)) w.phrase (only_definition game x d e) f Inputs game root
