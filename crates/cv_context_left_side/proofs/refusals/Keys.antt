-- At each site the key is read at indices that don't use it.
use Rattle.std.proofs.Common.{◌≡◌, ℕ, zero, suc, ◌+◌, ◌<◌, Bool, true, false, cond, ◌&&◌, ◌==◌, List, [], ◌∷◌, ◌++◌, Option, Some, None, inl, inr, refl, sym, ap, subst, ◌∙◌, eqb-true, arith}
use Rattle.std.proofs.lemmas.Bool.{both_ways, and_parts}
use Rattle.std.specs.List.{AllByRecursion}
use Rattle.std.specs.Prelude.{slice_get}
use Rattle.cv_syntax_trees.specs.declared.head.Head.{Head}
use Rattle.cv_syntax_trees.specs.declared.head.Head.TheVariants.{Leaf, Read}
use Rattle.cv_syntax_trees.specs.Tree.{Tree, Empty, Node, first, first_place, second_place}
use Rattle.cv_scope_rules.specs.Context.{first_position, replications_below, second_position}
use Rattle.cv_scope_rules.specs.Phrases.{Phrase, Term, is_phrase}
use Rattle.cv_scope_rules.specs.declared.position.Position.{Position}
use Rattle.cv_scene.specs.Sights.{variable_of}
use Rattle.cv_scene.specs.lines.Given.{or_node, term_for, with_given}
use Rattle.cv_typing_runs.proofs.SameSites.{phrase_open}
use Rattle.cv_scene.specs.Instances.{Call, Matching, call_at, is_read_of, names_of, terms_of}
use Rattle.cv_scene.specs.Refusals.{uses}
use Rattle.cv_scene.specs.Sites.{Site, is_guard, sites_in}
use Rattle.cv_scene.specs.LeftTerms.{HasLeftTerms, reads_no_array}
use Rattle.cv_scene.specs.Reductions.{Reduction, matching, sites}
use Rattle.cv_match_laws.proofs.instances.Coins.{site_call, site_given}
use Rattle.cv_context.specs.indices.Indices.{indices_use_none, reads_name}
use Rattle.cv_context.proofs.indices.Typed.{leaf_unused}
use Rattle.cv_context_runs.proofs.instances.Arguments.{either}
use Rattle.cv_context_left_side.proofs.refusals.Children.{indices_parts}
use Rattle.cv_syntax_trees.proofs.lists.Each.{AllByRecursion_append}

-- what stands for a name that the body reads is a part of the filled body

module _ (xs : List ℕ) (ts : Tree) (z x : ℕ) (given : Tree) (found : term_for xs ts z ≡ Some given) where
  leaf_given : (q u : ℕ) (c d : Tree) → u ≡ 0 → 0 < cond (q == z) 1 0 + u → indices_use_none x (or_node (term_for xs ts q) (Leaf q) c d) ≡ true → indices_use_none x given ≡ true
  leaf_given q u c d n l e = go (q == z) refl l
    where
      go : (i : Bool) → (q == z) ≡ i → 0 < cond i 1 0 + u → indices_use_none x given ≡ true
      go true i l = ap (λ o. indices_use_none x (or_node o (Leaf q) c d)) (sym (ap (term_for xs ts) (eqb-true q z i) ∙ found)) ∙ e
      go false i l = absurd (omega arith)

  given_free : (σ : Phrase) (b : Tree) → is_phrase σ b ≡ true → reads_no_array b ≡ true → 0 < uses z b → indices_use_none x (with_given xs ts b) ≡ true → indices_use_none x given ≡ true
  unfolding uses with_given reads_no_array
  given_free σ Empty p n l e = absurd (omega arith)
  given_free σ (Node (Leaf q) a b) p n l e = leaf_given q (uses z a + uses z b) _ _ (leaf_unused z σ q a b p) l e
  given_free σ (Node (Read q) a b) p n l e = absurd (both_ways false refl n)
  given_free σ (Node h a b) p n l e =
      let q = phrase_open σ h a b p in
      let m = and_parts (reads_no_array a) (reads_no_array b) n in
      let f = indices_parts x h (with_given xs ts a) (with_given xs ts b) e in
      elim (either (uses z a) (uses z b) (omega arith)) [
        | inl k ↦ given_free q.0.0 a q.2 m.0 k f.0
        | inr k ↦ given_free q.0.1 b q.3 m.1 k f.1
      ]

-- and so is the term of a site of the tree

sites_free : (M : Matching) (x : ℕ) (w : Position) (rs : List (ℕ × ℕ)) (p : ℕ) (t : Tree) → indices_use_none x t ≡ true → AllByRecursion (λ (s : Site). indices_use_none x s.term ≡ true) (sites_in M w rs p t)
unfolding sites_in
sites_free M x w rs p Empty e = tt
sites_free M x w rs p (Node h a b) e =
    let f = indices_parts x h a b e in
    go (call_at M (Node h a b)) (is_guard w) (sites_free M x (first_position w h) rs (first_place p h) a f.0) (sites_free M x (second_position w h) (replications_below h rs) (second_place p h a) b f.1)
  where
    go : (o : Option Call) (z : Bool) → AllByRecursion (λ (s : Site). indices_use_none x s.term ≡ true) (sites_in M (first_position w h) rs (first_place p h) a) → AllByRecursion (λ (s : Site). indices_use_none x s.term ≡ true) (sites_in M (second_position w h) (replications_below h rs) (second_place p h a) b)
        → AllByRecursion (λ (s : Site). indices_use_none x s.term ≡ true) (elim o as (λ _. List Site) [
          | Some c ↦ record { place = p; term = Node h a b; replications = rs; call = c } ∷ []
          | None ↦ cond z [] (sites_in M (first_position w h) rs (first_place p h) a) ++ sites_in M (second_position w h) (replications_below h rs) (second_place p h a) b
        ])
    go (Some c) z f g = (e, tt)
    go None true f g = g
    go None false f g = AllByRecursion_append (λ (s : Site). indices_use_none x s.term ≡ true) (sites_in M (first_position w h) rs (first_place p h) a) (sites_in M (second_position w h) (replications_below h rs) (second_place p h a) b) f g

one_free : (x : ℕ) (ss : List Site) (k : ℕ) (s : Site) → AllByRecursion (λ (s : Site). indices_use_none x s.term ≡ true) ss → slice_get ss k ≡ Some s → indices_use_none x s.term ≡ true
one_free x [] k s f e = absurd (cc)
one_free x (c ∷ ss) zero s f e = let same : c ≡ s = cc in subst (λ (d : Site). indices_use_none x d.term ≡ true) same f.0
one_free x (c ∷ ss) (suc k) s f e = one_free x ss k s f.1 e

read_free : (x : ℕ) (m : Tree) → is_read_of x (variable_of m) ≡ true → indices_use_none x m ≡ true → uses x (first m) ≡ 0
unfolding indices_use_none
read_free x (Node (Leaf y) a b) e f = eqb-true (uses x a) 0 (and_parts (uses x a == 0) _ f).0
read_free x (Node (Read y) a b) e f = eqb-true (uses x a) 0 (and_parts (uses x a == 0) _ f).0
read_free x m e f = absurd (both_ways false refl e)

pub key_free : (r : Reduction) → HasLeftTerms r.scene.declarations (matching r).group → (w : Position) (rs : List (ℕ × ℕ)) (p : ℕ) (t : Tree) → indices_use_none r.key t ≡ true
    → (j k : ℕ) (s : Site) → slice_get (sites_in (matching r) w rs p t) j ≡ Some s → slice_get (sites r) k ≡ Some s → uses r.key (first s.call.instance.key) ≡ 0
key_free r left w rs p t free j k s there at =
    let c = site_call r left k s at in
    let g = site_given r left k s at in
    let e : indices_use_none r.key s.term ≡ true = one_free r.key (sites_in (matching r) w rs p t) j s (sites_free (matching r) r.key w rs p t free) there in
    read_free r.key s.call.instance.key c.instance.key
    (given_free (names_of (matching r).group s.call.function) (terms_of s.call.instance) (matching r).group.key.0 r.key s.call.instance.key g.key Term s.call.function.body c.left.term c.left.plain g.key_read
    (ap (indices_use_none r.key) c.instance.body ∙ e))
