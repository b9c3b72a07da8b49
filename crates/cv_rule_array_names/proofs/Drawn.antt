-- New names of steps that are found.
use Rattle.std.proofs.Common.{◌≡◌, ℕ, suc, ◌+◌, ◌<◌, true, false, All, List, [], ◌∷◌, ◌++◌, length, map, take, Option, Some, None, refl, ap, ap₂, sym, ◌∙◌, subst}
use Rattle.std.proofs.lemmas.List.{length-map, map_more}
use Rattle.cv_inline.specs.Draws.{drawn_texts, greatest_end}
use Rattle.cv_inline_draws.specs.names.Texts.{text_at, texts_at, with_texts}
use Rattle.cv_inline_draws.specs.taken_names.Taken.{taken_names}
use Rattle.cv_inline_laws.proofs.draws.Texts.{as_many_texts}
use Rattle.cv_pool.specs.declared.names.names.NameId.{NameId}
use Rattle.cv_pool.specs.KindTree.{KindTree}
use Rattle.cv_rule_array_names.specs.Sites.{listed_names}
use Rattle.cv_script.specs.Views.{StepItems, items_of_step, adds_in, part_in, tree_in, ◌>>=◌}
use Rattle.cv_step_writer.specs.Items.{names as names_tree}
use Rattle.cv_step_writer.specs.Proposals.{body_tree, change, step_tree}
use Rattle.cv_step_writer.specs.declared.proposals.Proposal.{Proposal}
use Rattle.cv_step_writer.specs.declared.proposals.Proposal.TheVariants as proposal
use Rattle.cv_syntax.specs.PoolTrees.{tree_at}
use Rattle.cv_syntax_trees.specs.Tree.{Tree}
use Rattle.cv_rule_array_names.specs.Drawings.{AreDrawnFor, DrawsBefore, gives_names, texts_for}

-- lists that are made place by place

pub repeated_put : (x : ℕ) (ps : List NameId) (k : ℕ) (d : NameId) (old new : List ℕ) → k < length ps → new ≡ old ++ x ∷ [] → old ≡ map (λ (p : NameId). x) (take k ps) → new ≡ map (λ (p : NameId). x) (take (k + 1) ps)
repeated_put x ps k d old new l n o = n ∙ (ap (λ xs. xs ++ x ∷ []) o ∙ sym (map_more (λ (p : NameId). x) ps k d l))

-- as many bases as names

same_bases : (x : ℕ) (ys : List ℕ) (ps : List NameId) → length ys ≡ length ps → map (λ (y : ℕ). x) ys ≡ map (λ (p : NameId). x) ps
same_bases x [] [] e = refl
same_bases x [] (p ∷ ps) e = absurd (cc)
same_bases x (y ∷ ys) [] e = absurd (cc)
same_bases x (y ∷ ys) (p ∷ ps) e = ap (λ xs. x ∷ xs) (same_bases x ys ps (cc))

pub are_drawn : (before after : List (List ℕ)) (own : ℕ) (game : Tree) (x : ℕ) (ps : List NameId) (taken bases ys : List ℕ) → taken ≡ taken_names own game → bases ≡ map (λ (p : NameId). x) ps → texts_at after ys ≡ drawn_texts (texts_at before taken) (texts_at before bases) → after ≡ with_texts before (drawn_texts (texts_at before taken) (texts_at before bases)) → All (λ y. y < length after) ys
    → AreDrawnFor before after own game x ys
are_drawn before after own game x ps taken bases ys t b e a l =
    let many : length ys ≡ length ps =
    sym (length-map ys (text_at after))
    ∙ (ap length e
    ∙ (as_many_texts (texts_at before taken) (suc (greatest_end (texts_at before taken))) (texts_at before bases)
    ∙ (length-map bases (text_at before) ∙ (ap length b ∙ length-map ps (λ (p : NameId). x))))) in
    let texts : drawn_texts (texts_at before taken) (texts_at before bases) ≡ texts_for before own game x ys =
    ap₂ (λ (ts us : List ℕ). drawn_texts (texts_at before ts) (texts_at before us)) t (b ∙ sym (same_bases x ys ps many)) in
    record { live = l; texts = e ∙ texts; added = a ∙ ap (with_texts before) texts }

-- the names of a list

pub listed_are : (xs : List NameId) → listed_names (names_tree xs) ≡ map (λ (x : NameId). x.0) xs
unfolding listed_names
listed_are [] = refl
listed_are (x ∷ xs) = ap (λ ys. x.0 ∷ ys) (listed_are xs)

-- a step that gives names gives those that were drawn
pub ready_names : (trees : List KindTree) (before after : List (List ℕ)) (own : ℕ) (game : Tree) (x : NameId) (xs : List NameId) (ys : List ℕ) → map (λ (y : NameId). y.0) xs ≡ ys → AreDrawnFor before after own game x.0 ys → AreDrawnFor before after own game x.0 (listed_names (names_tree xs))
ready_names trees before after own game x xs ys e d = subst (AreDrawnFor before after own game x.0) (sym (listed_are xs ∙ e)) d

-- and any other step is ready with the table as it is

module _ (table : List (List ℕ)) (own : ℕ) (game : Tree) where
  abbrev Ready : Option StepItems → Type 0
  Ready o = DrawsBefore true table table own game o

  bind : {A : Type 0} (o : Option A) (f : A → Option StepItems) → ((a : A) → Ready (f a)) → Ready (o >>= f)
  bind None f k = refl
  bind (Some a) f k = k a

  pub ready_as_it_is : (trees : List KindTree) (p : Proposal) → gives_names p ≡ false → Ready (items_of_step (step_tree trees p))
  ready_as_it_is trees (proposal.ArrayRename x to) e = absurd (cc)
  ready_as_it_is trees (proposal.Rewrite p m by) e = bind (tree_in (tree_at trees (Some m))) _ (λ t. refl)
  ready_as_it_is trees (proposal.Prune p b by) e = bind (part_in (body_tree b)) _ (λ q. refl)
  ready_as_it_is trees (proposal.Split p m) e = bind (tree_in (tree_at trees (Some m))) _ (λ t. refl)
  ready_as_it_is trees (proposal.Let p x T m) e = bind (tree_in (tree_at trees (Some m))) _ (λ t. refl)
  ready_as_it_is trees (proposal.Codef p add to from above) e =
      bind (adds_in (change add)) _ (λ a. bind (tree_in (tree_at trees (Some to))) _ (λ y. bind (tree_in (tree_at trees (Some from))) _ (λ x. refl)))
  ready_as_it_is trees p e = refl
