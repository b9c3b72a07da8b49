-- What walks over a game find in it, node by node.
use Rattle.std.proofs.Common.{◌≡◌, ℕ, append-nil, append_assoc, ap₂, Bool, true, false, cond, List, [], ◌∷◌, ◌++◌, Option, Some, None, refl, ap, sym, ◌∙◌}
use Rattle.std.specs.Prelude.{is_some}
use Rattle.cv_syntax_trees.specs.declared.head.Head.{Head}
use Rattle.cv_syntax_trees.specs.Tree.{Tree, Empty, Node, first_place, second_place}
use Rattle.cv_syntax_trees.specs.sites.Sites.{first_of}
use Rattle.cv_scope_rules.specs.declared.position.Position.{Position}
use Rattle.cv_scope_rules.specs.Context.{first_position, replications_below, second_position}
use Rattle.cv_scene.specs.Scenes.{head_reads}
use Rattle.cv_scene.specs.Instances.{Call, Matching, call_at}
use Rattle.cv_scene.specs.Refusals.{first_use}
use Rattle.cv_scene.specs.Sites.{Site, is_guard, sites_in}
use Rattle.cv_match.specs.instances.Walks.{sites_unless, use_unless}

-- reads outside instances

pub skipped_use : (skip : Bool) (M : Matching) (w : Position) (p : ℕ) (t : Tree) → skip ≡ true → use_unless skip M w p t ≡ None
unfolding use_unless
skipped_use true M w p t e = refl
skipped_use false M w p t e = absurd (cc)

pub use_end : (M : Matching) (w : Position) (p : ℕ) (t : Tree) → t ≡ Empty → use_unless false M w p t ≡ None
unfolding use_unless first_use
use_end M w p t e = ap (first_use M w p) e

abbrev pub unless_call : {A : Type 0} → Option Call → Option A → Option A
unless_call (Some c) v = None
unless_call None v = v

abbrev pub use_here : Matching → Position → ℕ → Head → Tree → Tree → Option ℕ
use_here M w p h a b =
    cond (head_reads M.key h) (Some p) (first_of (use_unless (is_guard w) M (first_position w h) (first_place p h) a) (use_unless false M (second_position w h) (second_place p h a) b))

use_split : (M : Matching) (w : Position) (p : ℕ) (h : Head) (a b : Tree) → use_unless false M w p (Node h a b) ≡ unless_call (call_at M (Node h a b)) (use_here M w p h a b)
unfolding use_unless first_use
use_split M w p h a b = by_call (call_at M (Node h a b)) (use_here M w p h a b)
  where
    by_call : (o : Option Call) (v : Option ℕ) → (elim o [ Some c ↦ None | None ↦ v ]) ≡ unless_call o v
    by_call (Some c) v = refl
    by_call None v = refl

pub use_node : (M : Matching) (w : Position) (p : ℕ) (t : Tree) (h : Head) (a b : Tree) → t ≡ Node h a b → use_unless false M w p t ≡ unless_call (call_at M t) (use_here M w p h a b)
use_node M w p t h a b e = ap (use_unless false M w p) e ∙ (use_split M w p h a b ∙ ap (λ u. unless_call (call_at M u) (use_here M w p h a b)) (sym e))

pub called : {A : Type 0} (o : Option Call) (v : Option A) (b : Bool) → b ≡ is_some o → b ≡ true → unless_call o v ≡ None
called (Some c) v b e f = refl
called None v b e f = absurd (cc)

pub not_called : {A : Type 0} (o : Option Call) (v : Option A) (b : Bool) → b ≡ is_some o → b ≡ false → unless_call o v ≡ v
not_called (Some c) v b e f = absurd (cc)
not_called None v b e f = refl

pub use_moved : (M : Matching) (t : Tree) (i j : Bool) (v w : Position) (p q : ℕ) → i ≡ j → v ≡ w → p ≡ q → use_unless j M w q t ≡ use_unless i M v p t
use_moved M t i j v w p q e f g = ap (λ b. use_unless b M w q t) (sym e) ∙ (ap (λ u. use_unless i M u q t) (sym f) ∙ ap (λ n. use_unless i M v n t) (sym g))

-- sites

pub skipped_sites : (skip : Bool) (M : Matching) (w : Position) (rs : List (ℕ × ℕ)) (p : ℕ) (t : Tree) → skip ≡ true → sites_unless skip M w rs p t ≡ []
unfolding sites_unless
skipped_sites true M w rs p t e = refl
skipped_sites false M w rs p t e = absurd (cc)

pub sites_whole : (M : Matching) (w : Position) (rs : List (ℕ × ℕ)) (p : ℕ) (t : Tree) → sites_unless false M w rs p t ≡ sites_in M w rs p t
unfolding sites_unless
sites_whole M w rs p t = refl

pub sites_end : (M : Matching) (w : Position) (rs : List (ℕ × ℕ)) (p : ℕ) (t : Tree) → t ≡ Empty → sites_unless false M w rs p t ≡ []
unfolding sites_unless sites_in
sites_end M w rs p t e = ap (sites_in M w rs p) e

abbrev pub site_or : ℕ → Tree → List (ℕ × ℕ) → Option Call → List Site → List Site
site_or p t rs (Some c) ss = record { place = p; term = t; replications = rs; call = c } ∷ []
site_or p t rs None ss = ss

abbrev pub sites_here : Matching → Position → List (ℕ × ℕ) → ℕ → Head → Tree → Tree → List Site
sites_here M w rs p h a b = sites_unless (is_guard w) M (first_position w h) rs (first_place p h) a ++ sites_unless false M (second_position w h) (replications_below h rs) (second_place p h a) b

sites_split : (M : Matching) (w : Position) (rs : List (ℕ × ℕ)) (p : ℕ) (h : Head) (a b : Tree) → sites_unless false M w rs p (Node h a b) ≡ site_or p (Node h a b) rs (call_at M (Node h a b)) (sites_here M w rs p h a b)
unfolding sites_unless sites_in
sites_split M w rs p h a b = by_call (call_at M (Node h a b)) (sites_here M w rs p h a b)
  where
    by_call : (o : Option Call) (v : List Site) → (elim o [ Some c ↦ record { place = p; term = Node h a b; replications = rs; call = c } ∷ [] | None ↦ v ]) ≡ site_or p (Node h a b) rs o v
    by_call (Some c) v = refl
    by_call None v = refl

pub sites_node : (M : Matching) (w : Position) (rs : List (ℕ × ℕ)) (p : ℕ) (t : Tree) (h : Head) (a b : Tree) → t ≡ Node h a b → sites_unless false M w rs p t ≡ site_or p t rs (call_at M t) (sites_here M w rs p h a b)
sites_node M w rs p t h a b e = ap (sites_unless false M w rs p) e ∙ (sites_split M w rs p h a b ∙ ap (λ u. site_or p u rs (call_at M u) (sites_here M w rs p h a b)) (sym e))

pub sites_found : (M : Matching) (w : Position) (rs : List (ℕ × ℕ)) (p : ℕ) (t : Tree) (h : Head) (a b : Tree) (c : Call) → t ≡ Node h a b → Some c ≡ call_at M t → sites_unless false M w rs p t ≡ record { place = p; term = t; replications = rs; call = c } ∷ []
sites_found M w rs p t h a b c e f = sites_node M w rs p t h a b e ∙ ap (λ o. site_or p t rs o (sites_here M w rs p h a b)) (sym f)

pub sites_plain : (M : Matching) (w : Position) (rs : List (ℕ × ℕ)) (p : ℕ) (t : Tree) (h : Head) (a b : Tree) → t ≡ Node h a b → None ≡ call_at M t → sites_unless false M w rs p t ≡ sites_here M w rs p h a b
sites_plain M w rs p t h a b e f = sites_node M w rs p t h a b e ∙ ap (λ o. site_or p t rs o (sites_here M w rs p h a b)) (sym f)

-- a part that is passed over, one that is a site, the end, and a node with its two parts
module _ (done all : List Site) (M : Matching) (w : Position) (rs : List (ℕ × ℕ)) (p : ℕ) (t : Tree) where
  pub gathered_none : (skip : Bool) → skip ≡ true → done ≡ done ++ sites_unless skip M w rs p t
  gathered_none skip e = sym (append-nil done) ∙ ap (λ ss. done ++ ss) (sym (skipped_sites skip M w rs p t e))

  module _ (same : done ++ sites_unless false M w rs p t ≡ all) where
    pub gathered_end : t ≡ Empty → done ≡ all
    gathered_end e = sym (append-nil done) ∙ (ap (λ ss. done ++ ss) (sym (sites_end M w rs p t e)) ∙ same)

    module _ (h : Head) (a b : Tree) (e : t ≡ Node h a b) where
      pub gathered_call : (c : Call) (more : List Site) → Some c ≡ call_at M t → more ≡ done ++ record { place = p; term = t; replications = rs; call = c } ∷ [] → more ≡ all
      gathered_call c more f g = g ∙ (ap (λ ss. done ++ ss) (sym (sites_found M w rs p t h a b c e f)) ∙ same)

      pub gathered_parts : (more : List Site) (skip : Bool) (v u : Position) (q n : ℕ) (qs : List (ℕ × ℕ)) → None ≡ call_at M t → skip ≡ is_guard w → v ≡ first_position w h → q ≡ first_place p h → more ≡ done ++ sites_unless skip M v rs q a → u ≡ second_position w h → qs ≡ replications_below h rs → n ≡ second_place p h a → more ++ sites_unless false M u qs n b ≡ all
      gathered_parts more skip v u q n qs f es ev eq em eu er en =
          ap₂ (λ xs ys. xs ++ ys)
          (em ∙ ap (λ ss. done ++ ss) (ap (λ s. sites_unless s M v rs q a) es ∙ (ap (λ x. sites_unless (is_guard w) M x rs q a) ev ∙ ap (λ x. sites_unless (is_guard w) M (first_position w h) rs x a) eq)))
          (ap (λ x. sites_unless false M x qs n b) eu ∙ (ap (λ x. sites_unless false M (second_position w h) x n b) er ∙ ap (λ x. sites_unless false M (second_position w h) (replications_below h rs) x b) en))
          ∙ (append_assoc done (sites_unless (is_guard w) M (first_position w h) rs (first_place p h) a) (sites_unless false M (second_position w h) (replications_below h rs) (second_place p h a) b)
          ∙ (ap (λ ss. done ++ ss) (sym (sites_plain M w rs p t h a b e f)) ∙ same))
